use Rattle.rows.specs.Rows.{branch_rows_of, record_rows_of}
use Rattle.spans.specs.Order.{Ranged}
use Rattle.record_marks.proofs.Taking.{Turning}
use Rattle.record_marks.proofs.mark_rows.Given as goal

-- `record_marks::mark_rows` meets its contract: records from the last to the first, each over the spans of later ones of its address.
abbrev pub invariant-loop-k : goal.invariant-loop-k
invariant-loop-k l = record {
  turning : Turning (branch_rows_of l.bt) l.n l.keys l.ne l.sums l.firsts (record_rows_of l.rt) l.nr l.k l.initial.taken l.taken l.initial.marks l.marks;
  ranged : Ranged (branch_rows_of l.bt) l.n l.keys l.ne l.sums l.firsts l.s;
}
