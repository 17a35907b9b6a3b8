use Rattle.std.proofs.Common.{◌≡◌, ◌++◌, take, drop}
use Rattle.rows.specs.Rows.{branch_rows_of}
use Rattle.lent.proofs.store_rows.Given as goal

abbrev pub invariant-loop-i : goal.invariant-loop-i
invariant-loop-i l = l.rows ≡ take l.i (branch_rows_of l.table) ++ drop l.i l.fn.rows
