use Rattle.rows.proofs.Laws.{record_put}
use Rattle.rows.proofs.set_record.Goals as goal

pub returns : goal.returns
returns c =
    record_put c.args.t.now c.args.i c.requires c.args.b c.put.ensures c.put-2.ensures c.put-3.ensures
