use native.Mathlib.Omega.{arith}
use Rattle.model.specs.Soundness.{sizes_allowed}
use Rattle.soundness.specs.Check.{allowed_of, whole_rows}
use Rattle.soundness.proofs.sizes_allowed.Goals as goal

pub returns-then-ln : goal.returns-then-ln
unfolding allowed_of whole_rows sizes_allowed
returns-then-ln c = grind arith

pub returns-else-ln : goal.returns-else-ln
unfolding allowed_of whole_rows sizes_allowed
returns-else-ln c = grind arith
