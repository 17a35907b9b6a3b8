-- Change request Two said of the C entries: how far the slab is in use after a list of calls, and copies of the areas. proofs/Packed.antt proves it.
use Rattle.std.specs.Prelude.{ℕ, ◌*◌, ◌≤◌, ◌<◌, ◌≡◌, List, ◌++◌, true, get_or}
use Rattle.model.specs.Reference.{empty}
use Rattle.model.specs.Demand3.{fed}
use Rattle.model.specs.Packed.{slab_in_use, HeldUpTo, Copy}
use Rattle.areas.specs.Lent.{Lent, fits, store_in}
use Rattle.fresh_areas.specs.Fresh.{fresh_bytes}
use Rattle.kizmoolet.specs.Demand3.{AreaCall, areas_after, answered_in, AgreesIn, AllSent}

-- every list of calls on the areas of a fresh store: the slab is never in use past the pages of the most records held at once
abbrev pub StaysPacked : Type 0
StaysPacked =
    (lent : Lent) (size : ℕ) (calls : List AreaCall) (n : ℕ) → (fresh_bytes size lent).result ≡ 0
    → let made = (fresh_bytes size lent).areas in
    HeldUpTo n empty (answered_in made calls) → slab_in_use (store_in (areas_after made calls)) ≤ 256 * n

-- a list of bytes
abbrev pub Bytes : List ℕ → Type 0
Bytes bs = (k : ℕ) → get_or bs k 0 < 256

-- areas of bytes, such as may be lent, that hold a copy of the store that others hold
pub record CopyIn (l c : Lent) : Type 0 where
  pub fit : fits c ≡ true
  pub head : Bytes c.head
  pub branches : Bytes c.tables.branches
  pub records : Bytes c.tables.records
  pub places : Bytes c.tables.places
  pub names : Bytes c.tables.names
  pub copy : Copy (store_in l) (store_in c)

-- a list of calls on the areas of a fresh store, a copy of them, and a list of calls on the copy: what demand 3 claims holds of the one
-- list
abbrev pub CopiesAgree : Type 0
CopiesAgree =
    (lent : Lent) (size : ℕ) (calls : List AreaCall) (c : Lent) (more : List AreaCall) → (fresh_bytes size lent).result ≡ 0
    → let made = (fresh_bytes size lent).areas in
    CopyIn (areas_after made calls) c
    → AgreesIn size (areas_after c more) (fed empty (answered_in made calls ++ answered_in c more)) (answered_in made calls ++ answered_in c more)
    × AllSent c more
