use Prim.Native.Nat.{◌+◌}
use Rattle.rows.specs.Rows.{branch_rows_of}
use Rattle.branch_marks.specs.Marks.{Rest}
use Rattle.spans.specs.Order.{Sums}
use Rattle.spans.proofs.sum_up.Given as goal

-- `spans::sum_up` meets its contract: a leaf counts 1, a row that hangs as many as its events.
abbrev pub invariant-loop-k : goal.invariant-loop-k
invariant-loop-k l = record { sums : Sums (branch_rows_of l.bt) l.keys l.ne l.k l.sums; rest : Rest (l.ne + 1) l.initial.sums l.sums }
