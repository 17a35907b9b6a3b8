use Rattle.std.proofs.Common.{◌<◌, length, arith}
use Rattle.model.specs.Store.{zero_branch}
use Rattle.rows.proofs.Laws.{branch_kind}
use Rattle.lent.proofs.Loading.{store_step}
use Rattle.lent.proofs.store_rows.Goals as goal

pub loop-i-preserved : goal.loop-i-preserved
loop-i-preserved c =
    let less : c.loop-i.i < length c.args.rows.now = omega arith in
    rw (c.set_branch_row.ensures, c.loop-i.invariant, c.branch_at.ensures) (store_step branch_kind c.args.rows.now c.args.table.now c.requires zero_branch c.loop-i.i less)
