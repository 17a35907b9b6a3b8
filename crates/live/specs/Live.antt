-- The live disk behind the history: document 004, section 3.4; document 02, change request Six.
use Rattle.std.specs.Prelude.{ℕ, suc, ◌*◌, ◌-◌, ◌%◌, List, [], ◌∷◌, map, Bool, true, cond, ◌&&◌, leb, ltb, eqb, length, take, drop, get_or, set}
use Rattle.std.proofs.Math.Option.{Option, some, none}
use Rattle.model.specs.declared.Record.{Record}
use Rattle.model.specs.Store.{Store, page_at, with_page}
use Rattle.model.specs.Lookup.{lookup}
use Rattle.model.specs.Soundness.{table_check}
use Rattle.model.specs.Wire.{Request, write, mark, revert, read_at, reclaim, give, withdraw}
use Rattle.model.specs.Batch.{Answered, Run, ended, batch}
use Rattle.live.specs.declared.Spot.{Spot}
use Rattle.live.specs.declared.Spot.TheVariants.{Nowhere, OnDisk, InSlab}
use Rattle.live.specs.declared.Located.{Located}
use Rattle.live.specs.declared.Copied.{Copied}

-- the live disk as it is lent: the bytes of a page for each address, and a byte of marks for each page
pub record LiveDisk : Type 0 where
  pub bytes : List ℕ
  pub marks : List ℕ

abbrev pub disk_of : List ℕ → List ℕ → LiveDisk
disk_of bytes marks = record { bytes = bytes; marks = marks }

-- a store with the live disk lent beside it
pub record Live : Type 0 where
  pub store : Store
  pub disk : LiveDisk

-- marks: 1 if the page is current, plus 2 if it is blank
abbrev pub is_current : ℕ → Bool
is_current m = eqb (m % 2) 1

abbrev pub is_blank : ℕ → Bool
is_blank m = leb 2 m

-- the mark of an address
abbrev pub mark_of : LiveDisk → ℕ → ℕ
mark_of d a = get_or d.marks a 0

-- no mark is above 3
unfoldable pub marks_small : List ℕ → Bool
marks_small [] = true
marks_small (m ∷ ms) = leb m 3 && marks_small ms

-- 18: the live disk is not 256 × A bytes, its marks are not A in number, or one is above 3
unfoldable pub disk_check : ℕ → LiveDisk → ℕ
disk_check size d = cond (eqb (length d.bytes) (256 * size) && (eqb (length d.marks) size && marks_small d.marks)) 0 18

-- a second check, where the first finds nothing
abbrev pub or_then : ℕ → ℕ → ℕ
or_then first second = cond (eqb first 0) second first

-- the table checks 1, 2 and 3, then 18
unfoldable pub live_check : Live → ℕ
live_check l = or_then (table_check l.store) (disk_check l.store.head.size l.disk)

-- a page put on the disk: it is current and not blank
abbrev pub put_page : LiveDisk → ℕ → List ℕ → LiveDisk
put_page d a page = disk_of (with_page d.bytes a page) (set d.marks a 1)

-- a mark made stale: without the 1 of a current page; a blank one stays blank
abbrev pub staled : ℕ → ℕ
staled m = m - m % 2

-- what an accepted request does to the disk: a write goes to both; a revert makes every page stale
abbrev pub follows : LiveDisk → Request → LiveDisk
follows d (write a page) = put_page d a page
follows d mark = d
follows d (revert m w) = disk_of d.bytes (map staled d.marks)
follows d (read_at a m) = d
follows d (reclaim m) = d
follows d (give n) = d
follows d (withdraw high low) = d

-- the disk after a request that was answered with this refusal, or 0: a refused one does nothing to it
abbrev pub following : LiveDisk → Request → ℕ → LiveDisk
following d q refusal = cond (eqb refusal 0) (follows d q) d

-- the disk after requests that were answered, in order
unfoldable pub played : LiveDisk → List Answered → LiveDisk
played d [] = d
played d (e ∷ es) = played (following d e.request e.answer.refusal) es

-- a batch: the store's own, and the disk after what it answered
pub record LiveRun : Type 0 where
  pub run : Run
  pub disk : LiveDisk

unfoldable pub live_batch : Live → List ℕ → ℕ → LiveRun
live_batch l input space =
    cond (eqb (live_check l) 0)
    (let r = batch l.store input space in
    record { run = r; disk = played l.disk r.log })
    (record { run = ended l.store (live_check l); disk = l.disk })

-- what it leaves
abbrev pub left_live : LiveRun → Live
left_live r = record { store = r.run.store; disk = r.disk }

-- the record that a read at now finds
abbrev pub found_now : Store → ℕ → Option Record
found_now s a = lookup s a s.head.now

-- where the page of a record that was found is stored
abbrev pub stored_at : Option Record → Spot
stored_at (some r) = InSlab (256 * r.place)
stored_at none = Nowhere

-- where the page of an address lies: on the disk if it is current (nowhere if blank), else among the stored ones
unfoldable pub spot_of : Live → ℕ → Spot
spot_of l a =
    cond (is_current (mark_of l.disk a)) (cond (is_blank (mark_of l.disk a)) Nowhere (OnDisk (256 * a))) (stored_at (found_now l.store a))

-- a live read: the refusal, or 0, and where the page lies; 4 for an address at or above A
unfoldable pub live_read : Live → ℕ → Located
live_read l a =
    cond (eqb (live_check l) 0)
    (cond (ltb a l.store.head.size) (record { refusal = 0; spot = spot_of l a }) (record { refusal = 4; spot = Nowhere }))
    (record { refusal = live_check l; spot = Nowhere })

-- the part that is handed out: the 256 bytes there, or none
abbrev pub part_at : Spot → List ℕ → List ℕ → List ℕ
part_at Nowhere bytes slab = []
part_at (OnDisk at) bytes slab = take 256 (drop at bytes)
part_at (InSlab at) bytes slab = take 256 (drop at slab)

unfoldable pub handed : Live → ℕ → List ℕ
handed l a = part_at (live_read l a).spot l.disk.bytes l.store.slab

-- a page brought to date: the one found at now goes to the disk; where none is found the page is blank and keeps its bytes
abbrev pub brought_as : LiveDisk → ℕ → List ℕ → Option Record → LiveDisk
brought_as d a slab (some r) = put_page d a (page_at slab r.place)
brought_as d a slab none = disk_of d.bytes (set d.marks a 3)

unfoldable pub brought : Store → LiveDisk → ℕ → LiveDisk
brought s d a = brought_as d a s.slab (found_now s a)

unfoldable pub brought_all : Store → LiveDisk → List ℕ → LiveDisk
brought_all s d [] = d
brought_all s d (a ∷ rest) = brought_all s (brought s d a) rest

-- the addresses of the stale pages, lowest first, of marks that begin at an address
unfoldable pub stale_from : ℕ → List ℕ → List ℕ
stale_from a [] = []
stale_from a (m ∷ ms) = cond (is_current m) (stale_from (suc a) ms) (a ∷ stale_from (suc a) ms)

abbrev pub stale : LiveDisk → List ℕ
stale d = stale_from 0 d.marks

-- a copying step: what it reports, and the disk that it leaves
pub record CopyLeft : Type 0 where
  pub report : Copied
  pub disk : LiveDisk

-- with a budget n: the first n stale pages are brought to date, or all where there are fewer
unfoldable pub copy_step : Live → ℕ → CopyLeft
copy_step l n =
    cond (eqb (live_check l) 0)
    (let pages = take n (stale l.disk) in
    record { report = record { refusal = 0; count = length pages }; disk = brought_all l.store l.disk pages })
    (record { report = record { refusal = live_check l; count = 0 }; disk = l.disk })
