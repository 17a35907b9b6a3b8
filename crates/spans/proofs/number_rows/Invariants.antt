use Prim.Native.Nat.{◌<◌}
use Rattle.rows.specs.Rows.{branch_rows_of}
use Rattle.branch_marks.specs.Marks.{Rest}
use Rattle.spans.specs.Order.{Firsts}
use Rattle.spans.proofs.number_rows.Given as goal

-- `spans::number_rows` meets its contract: parents first, from the last event to the first.
abbrev pub invariant-loop-k : goal.invariant-loop-k
invariant-loop-k l = record { firsts : Firsts (branch_rows_of l.bt) l.n l.keys l.ne l.k l.sums l.firsts; rest : Rest l.n l.initial.firsts l.firsts; near : l.p < l.n }
