use mathlib.Core.Path.{sym}
use Rattle.rows.proofs.Laws.{branch_count}
use Rattle.rows.proofs.branch_rows.Goals as goal

pub returns : goal.returns
returns c = sym (branch_count c.args.t.now)
