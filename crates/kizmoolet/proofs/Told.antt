-- What a live read, a copying step and a list of work orders tell.
use mathlib.Core.Path.{◌≡◌, refl, sym, ap, ◌∙◌}
use mathlib.Core.List.{List}
use mathlib.Core.Bool.{false}
use Prim.Native.Nat.{ℕ}
use Rattle.live.specs.declared.Spot.{Spot}
use Rattle.live.specs.declared.Located.{Located}
use Rattle.live.specs.Live.{LiveDisk}
use Rattle.areas.specs.Lent.{Lent, fits}
use Rattle.copying.specs.Copy.{Copies}
use Rattle.live_areas.specs.Live.{live_read_bytes, copy_bytes}
use Rattle.listing.specs.Lists.{Lists}
use Rattle.listing_areas.specs.Lists.{list_bytes}
use Rattle.kizmoolet.specs.Told.{area_of, offset_of, Tells}
use native.Mathlib.Omega.{arith}

-- lengths that do not fit
pub read_unfit : (l : Lent) (d : LiveDisk) (a : ℕ) → fits l ≡ false → Tells (live_read_bytes l d a) 1 0 0
unfolding live_read_bytes
read_unfit l d a e = record { refusal = rw e; area_is = rw e; offset_is = rw e }

pub step_unfit : (l : Lent) (d : LiveDisk) (n : ℕ) → fits l ≡ false → Copies (copy_bytes l d n) d (record { refusal = 1; count = 0 }) d
unfolding copy_bytes
step_unfit l d n e = record { report = rw e; disk = rw e; turned = omega arith }

pub list_unfit : (l : Lent) (moment : ℕ) (area : List ℕ) → fits l ≡ false → Lists (list_bytes l moment area) (record { refusal = 1; count = 0 }) area
unfolding list_bytes
list_unfit l moment area e = rw e (record { report = refl; area_is = refl })

-- what was located
pub located_tells : {x r : Located} → r ≡ x → (p : Spot) → r.spot ≡ p → Tells x r.refusal (area_of p) (offset_of p)
located_tells {x} {r} e p h =
    let k : p ≡ x.spot = sym h ∙ ap (λ (y : Located). y.spot) e in
    record { refusal = ap (λ (y : Located). y.refusal) e; area_is = ap area_of k; offset_is = ap offset_of k }
