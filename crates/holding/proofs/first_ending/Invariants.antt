use Rattle.rows.specs.Rows.{branch_rows_of}
use Rattle.holding.proofs.Search.{Bracket}
use Rattle.holding.proofs.first_ending.Given as goal

abbrev pub invariant-loop-len : goal.invariant-loop-len
invariant-loop-len l = Bracket (branch_rows_of l.bt) l.n l.t l.base l.len

abbrev pub decreases-loop-len : goal.decreases-loop-len
decreases-loop-len l = l.len
