-- What a live read tells a C program, to which no reference can be returned: which area the page is a part of, and from which offset on.
use Rattle.std.specs.Prelude.{◌≡◌, ℕ}
use Rattle.live.specs.declared.Spot.{Spot}
use Rattle.live.specs.declared.Spot.TheVariants.{Nowhere, OnDisk, InSlab}
use Rattle.live.specs.declared.Located.{Located}

-- the area: 0 no page, 1 the live disk, 2 the slab
abbrev pub area_of : Spot → ℕ
area_of Nowhere = 0
area_of (OnDisk at) = 1
area_of (InSlab at) = 2

-- the offset of the page's 256 bytes there
abbrev pub offset_of : Spot → ℕ
offset_of Nowhere = 0
offset_of (OnDisk at) = at
offset_of (InSlab at) = at

-- result, area and offset are those of a live read
pub record Tells (l : Located) (result area offset : ℕ) : Type 0 where
  pub refusal : result ≡ l.refusal
  pub area_is : area ≡ area_of l.spot
  pub offset_is : offset ≡ offset_of l.spot
