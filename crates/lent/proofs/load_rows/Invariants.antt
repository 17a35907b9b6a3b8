use Rattle.std.proofs.Common.{◌≡◌}
use Rattle.rows.proofs.Laws.{branch_kind}
use Rattle.lent.proofs.Loading.{loaded}
use Rattle.lent.proofs.load_rows.Given as goal

abbrev pub invariant-loop-i : goal.invariant-loop-i
invariant-loop-i l = l.table ≡ loaded branch_kind l.rows l.fn.table l.i
