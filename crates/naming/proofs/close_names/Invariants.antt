use Rattle.naming.proofs.Laws.{ClosingNames}
use Rattle.naming.proofs.close_names.Given as goal

abbrev pub invariant-loop-i : goal.invariant-loop-i
invariant-loop-i l = ClosingNames l.high l.low l.n l.initial.nt l.nt l.i l.w
