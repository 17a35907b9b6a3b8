use mathlib.Core.Path.{sym}
use Rattle.rows.proofs.Laws.{branch_get}
use Rattle.rows.proofs.branch_at.Goals as goal

pub returns : goal.returns
returns c =
    sym (branch_get c.args.t.now c.args.i c.requires)
