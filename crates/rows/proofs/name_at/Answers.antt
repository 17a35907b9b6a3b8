use mathlib.Core.Path.{sym}
use Rattle.rows.proofs.Laws.{name_get}
use Rattle.rows.proofs.name_at.Goals as goal

pub returns : goal.returns
returns c = sym (name_get c.args.t.now c.args.i c.requires)
