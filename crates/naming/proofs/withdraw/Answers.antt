use native.Mathlib.Omega.{arith}
use Rattle.rows.specs.Rows.{NamesIn}
use Rattle.naming.proofs.Laws.{count_names, withdraw_none, withdraw_done}
use Rattle.naming.proofs.withdraw.Goals as goal

pub returns-then-k-at : goal.returns-then-k-at
returns-then-k-at c =
    let room : NamesIn c.args.head.names c.args.nt.now = omega (arith, c.requires) in
    withdraw_none c.args.head c.args.nt.now c.args.high c.args.low room _ c.find_name-at.ensures _ c.refused.ensures c.if-k-at.true

pub overflow_cast-left : goal.overflow_cast-left
overflow_cast-left c =
    omega (arith, count_names c.close_names-left.ensures (omega (arith, c.requires)), c.requires)

pub returns : goal.returns
returns c =
    let room : NamesIn c.args.head.names c.args.nt.now = omega (arith, c.requires) in
    withdraw_done c.args.head c.args.nt.now c.args.high c.args.low room _ c.find_name-at.ensures _ _ c.name_at-x.result c.close_names-left.result c.name_at-x.ensures (omega (arith, c.if-k-at.false)) c.close_names-left.ensures c.close_names-left.auto.nt (rw c.with_names.ensures at c.accepted.ensures)
