use Rattle.rows.proofs.Laws.{branch_put}
use Rattle.rows.proofs.set_branch.Goals as goal

pub returns : goal.returns
returns c =
    branch_put c.args.t.now c.args.i c.requires c.args.b c.put.ensures c.put-2.ensures
    c.put-3.ensures c.put-4.ensures
