use Rattle.rows.proofs.Laws.{name_put}
use Rattle.rows.proofs.set_name.Goals as goal

pub returns : goal.returns
returns c =
    name_put c.args.t.now c.args.i c.requires c.args.n c.put.ensures c.put-2.ensures c.put-3.ensures
