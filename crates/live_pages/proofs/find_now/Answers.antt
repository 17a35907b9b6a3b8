use mathlib.Core.Path.{sym, ◌∙◌}
use Rattle.rows.specs.View.{with_branches, with_records}
use Rattle.store.proofs.Laws.{lookup_is}
use Rattle.live_pages.proofs.find_now.Goals as goal

pub returns : goal.returns
returns c =
    λ t. c.find_record.ensures ∙ sym (lookup_is c.args.head (with_records c.args.rt.now (with_branches c.args.bt.now t)) c.args.a c.args.head.now)
