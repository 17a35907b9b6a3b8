use Rattle.model.specs.Store.{zero_branch}
use Rattle.rows.proofs.Laws.{branch_kind}
use Rattle.closing.specs.Closed.{marked}
use Rattle.closing.proofs.Closing.{Closes}
use Rattle.closing.proofs.close_branches.Given as goal

abbrev pub invariant-loop-i : goal.invariant-loop-i
invariant-loop-i l = Closes branch_kind zero_branch (marked l.marks) l.initial.bt l.n l.bt l.i l.w
