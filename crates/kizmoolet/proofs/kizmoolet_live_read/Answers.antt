use mathlib.Core.Path.{sym, ◌∙◌}
use borrow.Author.Tests.{not-true}
use Rattle.kizmoolet.proofs.Told.{read_unfit}
use Rattle.kizmoolet.proofs.kizmoolet_live_read.Goals as goal

pub returns-then-not-fit : goal.returns-then-not-fit
returns-then-not-fit c = read_unfit _ _ _ (sym c.lengths_fit-fit.ensures ∙ not-true _ c.if-not-fit.true-raw)
