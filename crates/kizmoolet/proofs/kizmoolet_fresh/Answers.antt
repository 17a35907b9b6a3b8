use mathlib.Core.Path.{sym, ◌∙◌}
use borrow.Author.Tests.{not-true}
use Rattle.fresh_areas.proofs.Fresh.{fresh_unfit}
use Rattle.kizmoolet.proofs.kizmoolet_fresh.Goals as goal

pub returns-then-not-fit : goal.returns-then-not-fit
returns-then-not-fit c = fresh_unfit _ _ (sym c.lengths_fit-fit.ensures ∙ not-true _ c.if-not-fit.true-raw)
