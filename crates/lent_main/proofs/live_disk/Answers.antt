use Rattle.std.proofs.Common.{refl}
use Rattle.rows.specs.Rows.{zeros}
use Rattle.lent_main.proofs.live_disk.Goals as goal

pub returns : goal.returns
unfolding zeros
returns c = refl
