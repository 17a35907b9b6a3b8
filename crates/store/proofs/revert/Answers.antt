use Rattle.rows.proofs.Laws.{branch_kind, branch_count}
use Rattle.rows.proofs.Relaid.{set_length}
use native.Mathlib.Omega.{arith}
use Rattle.store.proofs.Laws.{Growing, revert_kept, revert_grows, revert_done}
use Rattle.store.proofs.revert.Goals as goal

pub returns-then-refusal-ne0 : goal.returns-then-refusal-ne0
returns-then-refusal-ne0 c =
    revert_kept c.args.head c.args.bt.now c.args.nt.now c.args.m c.args.w c.revert_refusal-refusal.result _ c.branch_rows.ensures c.revert_refusal-refusal.ensures c.refused.result c.refused.ensures c.if-refusal-ne0.true

pub overflow_add-next : goal.overflow_add-next
overflow_add-next c =
    let grows : Growing c.args.head c.args.bt.now = revert_grows c.args.head c.args.bt.now c.args.nt.now c.args.m c.args.w c.revert_refusal-refusal.result _ c.branch_rows.ensures c.revert_refusal-refusal.ensures c.if-refusal-ne0.false in
    omega (arith, (grows).later)

pub set_branch-requires-2 : goal.set_branch-requires-2
set_branch-requires-2 c =
    let grows : Growing c.args.head c.args.bt.now = revert_grows c.args.head c.args.bt.now c.args.nt.now c.args.m c.args.w c.revert_refusal-refusal.result _ c.branch_rows.ensures c.revert_refusal-refusal.ensures c.if-refusal-ne0.false in
    omega (arith, (grows).room, set_length branch_kind c.set_branch.ensures, branch_count c.args.bt.now)

pub returns : goal.returns
returns c =
    revert_done c.args.head c.args.bt.now c.args.nt.now c.args.m c.args.w c.revert_refusal-refusal.result _ c.branch_rows.ensures c.revert_refusal-refusal.ensures c.if-refusal-ne0.false c.accepted.result _ _ c.branch_at-b.result c.accepted.ensures
    c.branch_at-b.ensures c.set_branch.ensures c.set_branch-2.ensures
