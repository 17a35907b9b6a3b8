use Rattle.std.specs.Prelude.{ℕ, ◌+◌, ◌*◌, ◌%◌}
use Rattle.trial_faults.specs.declared.spots.Rows.{Rows}
use Rattle.trial_faults.specs.declared.spots.Rows.TheVariants.{Gone, Recut, AsBefore, Reordered}
use Rattle.trial_faults.specs.declared.spots.Spot.{Spot}
use Rattle.trial_faults.specs.declared.spots.Spot.TheVariants.{Number, Byte, Records, Names, Page, BranchRows, Marks, Reads, List}

-- the number of a fault of the branch rows
abbrev pub rows_number : Rows → ℕ
rows_number (Gone k) = 132096 + k
rows_number (Recut k) = 132128 + k
rows_number AsBefore = 132160
rows_number (Reordered k) = 132192 + k

-- the number of a spot
abbrev pub spot_number : Spot → ℕ
spot_number (Number i) = i
spot_number (Byte i) = 65536 + i
spot_number Records = 131072
spot_number Names = 131584
spot_number (Page i j) = 131073 + (i % 16 * 16 + j % 16)
spot_number (BranchRows r) = rows_number r
spot_number (Marks i j) = 133120 + (i % 16 * 16 + j % 16)
spot_number Reads = 133376
spot_number (List k) = 134144 + k
