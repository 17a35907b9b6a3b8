use mathlib.Core.Path.{◌≡◌}
use mathlib.Core.Bool.{true}
use lib.ListN.{take, drop}
use Rattle.model.specs.Soundness.{names_sound}
use Rattle.model.specs.ByNumber.{newest_of}
use Rattle.rows.specs.Rows.{branch_rows_of, name_rows_of}
use Rattle.soundness.proofs.names_sound.Given as goal

abbrev pub invariant-loop-i : goal.invariant-loop-i
invariant-loop-i l =
    names_sound l.head.now (newest_of (branch_rows_of l.bt) l.head.branches) (drop l.i (take l.head.names (name_rows_of l.nt))) ≡ true
