-- A live read over what is lent.
use Rattle.std.specs.Prelude.{◌≡◌, List, cond, ℕ, ◌+◌, take}
use Rattle.model.specs.declared.Head.{Head}
use Rattle.model.specs.ByNumber.{Asc, Falls, newest_of}
use Rattle.live.specs.declared.Spot.{Spot}
use Rattle.live.specs.declared.Spot.TheVariants.{Nowhere, OnDisk, InSlab}
use Rattle.live.specs.declared.Located.{Located}
use Rattle.live.specs.Live.{LiveDisk, live_read, part_at}
use Rattle.rows.specs.Rows.{branch_rows_of, record_rows_of, BranchesIn, RecordsIn}
use Rattle.rows.specs.View.{Tables}
use Rattle.soundness.specs.Check.{whole_tables}
use Rattle.disk_check.specs.Check.{live_of}

-- the live read of what is lent; a table that is no whole number of rows is refusal 1
unfoldable pub live_read_of : Head → Tables → LiveDisk → ℕ → Located
live_read_of head t d a = cond (whole_tables t) (live_read (live_of head t d) a) (record { refusal = 1; spot = Nowhere })

-- the part handed out is the 256 bytes there, or empty; the refusal is told beside it
pub record Hands (l : Located) (bytes slab part : List ℕ) (number : ℕ) : Type 0 where
  pub part_is : part ≡ part_at l.spot bytes slab
  pub refusal : number ≡ l.refusal

-- it is a part of the disk or of the slab, by what the references point at (block and offset): the very bytes that are lent, no copy
abbrev pub LiesAt : Spot → ℕ × ℕ → ℕ × ℕ → ℕ × ℕ → Type 0
LiesAt Nowhere part disk slab = Unit {0}
LiesAt (OnDisk at) part disk slab = part ≡ (disk.0, at + disk.1)
LiesAt (InSlab at) part disk slab = part ≡ (slab.0, at + slab.1)

-- what a lookup asks: the counted rows are there, in order
pub record Searchable (head : Head) (bt rt : List ℕ) : Type 0 where
  pub branches : BranchesIn head.branches bt
  pub records : RecordsIn head.records rt
  pub ascends : Asc (take head.records (record_rows_of rt))
  pub falls : Falls (newest_of (branch_rows_of bt) head.branches)
