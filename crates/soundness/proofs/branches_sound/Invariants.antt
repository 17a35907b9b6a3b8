use mathlib.Core.Path.{◌≡◌}
use mathlib.Core.Bool.{true}
use Rattle.model.specs.Soundness.{chained}
use Rattle.model.specs.ByNumber.{newest_of}
use Rattle.rows.specs.Rows.{branch_rows_of}
use Rattle.soundness.proofs.branches_sound.Given as goal

abbrev pub invariant-loop-i : goal.invariant-loop-i
invariant-loop-i l = chained l.head.floor (newest_of (branch_rows_of l.bt) l.i) ≡ true
