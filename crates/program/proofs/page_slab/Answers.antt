use Rattle.std.proofs.Common.{refl}
use Rattle.rows.specs.Rows.{zeros}
use Rattle.program.proofs.page_slab.Goals as goal

pub returns : goal.returns
unfolding zeros
returns c = refl
