use Rattle.rows.specs.Rows.{branch_rows_of}
use Rattle.deciding.proofs.Keeping.{Gathering}
use Rattle.deciding.proofs.starts.Given as goal

abbrev pub invariant-loop-i : goal.invariant-loop-i
invariant-loop-i l = Gathering (branch_rows_of l.bt) l.n l.floor l.i l.c l.initial.table l.table
