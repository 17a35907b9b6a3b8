use Prim.Native.Nat.{◌+◌, ◌-◌}
use Rattle.record_marks.specs.Marks.{owners_in, ends_in, Hop}
use Rattle.record_marks.proofs.hop.Given as goal

-- `record_marks::hop` meets its contract: it goes on where a span of the address begins.
abbrev pub invariant-loop-p : goal.invariant-loop-p
invariant-loop-p l = Hop (owners_in l.taken) (ends_in l.taken) (l.a + 1) l.lo l.p

abbrev pub decreases-loop-p : goal.decreases-loop-p
decreases-loop-p l = l.hi - l.p
