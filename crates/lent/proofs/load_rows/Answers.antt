use Rattle.model.specs.Store.{zero_branch}
use Rattle.rows.proofs.Laws.{branch_kind}
use Rattle.lent.proofs.Loading.{load_step, loaded_start}
use Rattle.lent.proofs.load_rows.Goals as goal

pub loop-i-init : goal.loop-i-init
loop-i-init c = loaded_start branch_kind c.args.rows.now c.args.table.now

pub loop-i-preserved : goal.loop-i-preserved
loop-i-preserved c =
    load_step branch_kind c.args.rows.now c.args.table.now c.requires zero_branch c.loop-i.i c.loop-i-test.true c.set_branch.new.t
    (rw (c.loop-i.invariant, c.branch_row.ensures) at c.set_branch.ensures)
