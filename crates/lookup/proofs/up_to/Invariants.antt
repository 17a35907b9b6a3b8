use Prim.Native.Nat.{◌-◌}
use Rattle.rows.specs.Rows.{record_rows_of}
use Rattle.lookup.proofs.Laws.{Bracket}
use Rattle.lookup.proofs.up_to.Given as goal

abbrev pub invariant-loop-lo : goal.invariant-loop-lo
invariant-loop-lo l = Bracket (record_rows_of l.rt) l.n l.a l.t l.lo l.hi

abbrev pub decreases-loop-lo : goal.decreases-loop-lo
decreases-loop-lo l = l.hi - l.lo
