use native.Mathlib.Omega.{arith}
use Rattle.tables.proofs.Laws.{→lengths}
use Rattle.tables.proofs.lengths_fit.Goals as goal

pub returns : goal.returns
returns c = →lengths (omega arith)
