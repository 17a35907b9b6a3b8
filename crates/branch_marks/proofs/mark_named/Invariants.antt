use Prim.Native.Nat.{◌<◌}
use lib.ListN.{take}
use Rattle.model.specs.Store.{moments}
use Rattle.rows.specs.Rows.{branch_rows_of, name_rows_of}
use Rattle.branch_marks.specs.Marks.{Filled, held_too}
use Rattle.branch_marks.proofs.mark_named.Given as goal

-- `branch_marks::mark_named` meets its contract: each name marks the row that holds its moment.
abbrev pub invariant-loop-q : goal.invariant-loop-q
invariant-loop-q l = (l.i < l.n) × Filled (held_too (branch_rows_of l.bt) (moments (take l.q (name_rows_of l.nt))) l.initial.marks) l.n l.initial.marks l.marks
