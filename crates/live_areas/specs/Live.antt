-- A live read and a copying step on areas of bytes.
use Rattle.std.specs.Prelude.{cond, ℕ}
use Rattle.live.specs.declared.Spot.TheVariants.{Nowhere}
use Rattle.live.specs.declared.Located.{Located}
use Rattle.live.specs.Live.{LiveDisk, live_read, CopyLeft, copy_step}
use Rattle.areas.specs.Lent.{Lent, fits, live_in}

-- the live read of the store that the areas hold; a length that does not fit is refusal 1
unfoldable pub live_read_bytes : Lent → LiveDisk → ℕ → Located
live_read_bytes l d a = cond (fits l) (live_read (live_in l d) a) (record { refusal = 1; spot = Nowhere })

-- the copying step; a length that does not fit is refusal 1
unfoldable pub copy_bytes : Lent → LiveDisk → ℕ → CopyLeft
copy_bytes l d n = cond (fits l) (copy_step (live_in l d) n) (record { report = record { refusal = 1; count = 0 }; disk = d })
