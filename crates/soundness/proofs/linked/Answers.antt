use native.Mathlib.Omega.{arith}
use Rattle.soundness.proofs.Branches.{chained_on}
use Rattle.soundness.proofs.linked.Goals as goal

pub returns-then-b-floor : goal.returns-then-b-floor
returns-then-b-floor c = grind (arith, chained_on)

pub returns-else-b-floor : goal.returns-else-b-floor
returns-else-b-floor c = grind (arith, chained_on)
