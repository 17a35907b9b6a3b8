use mathlib.Core.Path.{sym}
use Rattle.rows.proofs.Laws.{record_get}
use Rattle.rows.proofs.record_at.Goals as goal

pub returns : goal.returns
returns c = sym (record_get c.args.t.now c.args.i c.requires)
