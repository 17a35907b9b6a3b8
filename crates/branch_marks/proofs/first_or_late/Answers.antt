use Rattle.std.proofs.Common.{rules}
use Rattle.model.specs.Store.{any}
use Rattle.model.specs.Step.{stays}
use Rattle.branch_marks.proofs.first_or_late.Goals as goal

pub returns : goal.returns
unfolding stays any
returns c = search rules
