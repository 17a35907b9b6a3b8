use mathlib.Core.Path.{sym, ◌∙◌}
use borrow.Author.Tests.{not-true}
use Rattle.batch_areas.proofs.Batch.{batch_unfit}
use Rattle.kizmoolet.proofs.kizmoolet_batch.Goals as goal

pub returns-then-not-fit : goal.returns-then-not-fit
returns-then-not-fit c = batch_unfit _ _ _ _ (sym c.lengths_fit-fit.ensures ∙ not-true _ c.if-not-fit.true-raw)
