use mathlib.Core.List.{[]}
use Rattle.rows.specs.Rows.{branch_rows_of}
use Rattle.branch_marks.specs.Marks.{Filled, kept_branch}
use Rattle.branch_marks.proofs.mark_ends.Given as goal

-- `branch_marks::mark_ends` meets its contract: row by row.
abbrev pub invariant-loop-i : goal.invariant-loop-i
invariant-loop-i l = Filled (kept_branch (branch_rows_of l.bt) l.floor [] []) l.i l.initial.marks l.marks
