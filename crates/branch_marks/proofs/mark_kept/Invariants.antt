use Prim.Native.Nat.{◌<◌}
use lib.ListN.{take}
use Rattle.rows.specs.Rows.{branch_rows_of, record_rows_of}
use Rattle.closing.specs.Closed.{marked, keep_by}
use Rattle.branch_marks.specs.Marks.{Filled, held_too, older_moments}
use Rattle.branch_marks.proofs.mark_kept.Given as goal

-- `branch_marks::mark_kept` meets its contract: each kept record that is older than the floor marks the row that holds it.
abbrev pub invariant-loop-j : goal.invariant-loop-j
invariant-loop-j l = (l.i < l.n) × Filled (held_too (branch_rows_of l.bt) (older_moments l.floor (keep_by (marked l.kept) (take l.j (record_rows_of l.rt)))) l.initial.marks) l.n l.initial.marks l.marks
