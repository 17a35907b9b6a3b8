use Prim.Native.Nat.{◌-◌}
use Rattle.rows.specs.Rows.{branch_rows_of}
use Rattle.branch_marks.proofs.Holders.{Between}
use Rattle.branch_marks.proofs.row_holding.Given as goal

abbrev pub invariant-loop-lo : goal.invariant-loop-lo
invariant-loop-lo l = Between (branch_rows_of l.bt) l.n l.t l.lo l.hi

abbrev pub decreases-loop-lo : goal.decreases-loop-lo
decreases-loop-lo l = l.hi - l.lo
