use Rattle.rows.specs.Rows.{record_rows_of}
use Rattle.branch_marks.specs.Marks.{Filled}
use Rattle.deciding.specs.Deciding.{young_too}
use Rattle.deciding.proofs.keep_young.Given as goal

abbrev pub invariant-loop-k : goal.invariant-loop-k
invariant-loop-k l = Filled (young_too (record_rows_of l.rt) l.floor l.initial.marks) l.k l.initial.marks l.marks
