use Rattle.closing.specs.Closed.{marked}
use Rattle.cuts.proofs.Recutting.{Cut}
use Rattle.cuts.proofs.take_over.Given as goal

-- `cuts::take_over` meets its contract: oldest to newest, a row whose parent goes takes over the parent's cut.
abbrev pub invariant-loop-i : goal.invariant-loop-i
invariant-loop-i l = Cut (marked l.marks) l.initial.bt l.n l.bt l.i
