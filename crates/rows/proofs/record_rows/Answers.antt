use mathlib.Core.Path.{sym}
use Rattle.rows.proofs.Laws.{record_count}
use Rattle.rows.proofs.record_rows.Goals as goal

pub returns : goal.returns
returns c = sym (record_count c.args.t.now)
