-- The live disk (change request Six): a list of calls, what each tells, and marks and disk after it; live disks that 18 refuses; and the facts that they hold.
use Rattle.std.specs.Prelude.{ℕ, ◌*◌, ◌≡◌, refl, List, [], ◌∷◌, ◌++◌, map, Bool, true, ◌&&◌, eqb, length, get_or, set, replicate}
use Rattle.model.specs.Store.{Store, keep, any, branches, newest, records, names, page_at, with_page}
use Rattle.model.specs.Lookup.{is_readable, holds, ancestry, within, latest, first_found, lookup, any_up_to, is_given}
use Rattle.model.specs.Soundness.{sizes_allowed, in_range, chained, branches_sound, names_sound, rows_sound, precedes, ascending, by_itself, placed, used, records_sound, table_check}
use Rattle.model.specs.Wire.{number, bytes, packed, by_operation, parse, answer_bytes}
use Rattle.model.specs.Step.{first_free, before, inserted, do_write, do_mark, branched, do_revert, do_read, stays, landing, settled, reclaimed, do_reclaim, step}
use Rattle.model.specs.Fresh.{fresh}
use Rattle.model.specs.Batch.{run, batch}
use Rattle.live.specs.declared.Spot.{Spot}
use Rattle.live.specs.declared.Spot.TheVariants.{Nowhere, OnDisk, InSlab}
use Rattle.live.specs.Live.{LiveDisk, disk_of, Live, marks_small, disk_check, live_check, played, live_batch, spot_of, live_read, brought, brought_all, stale_from, copy_step}
use Rattle.live.specs.LiveDemand.{Call, batched, read_live, copied, after_call}
use Rattle.worked_examples.specs.Session.{same_list, letter, marks, reverts, reclaims}
use Rattle.worked_examples.specs.RowsRead.{holding_four, four, five}

-- where a page lies, by area and offset
abbrev pub spot : Spot → List ℕ
spot Nowhere = 0 ∷ 0 ∷ []
spot (OnDisk at) = 1 ∷ at ∷ []
spot (InSlab at) = 2 ∷ at ∷ []

-- what a call tells: stop number and requests answered; refusal, area and offset; refusal and pages copied
abbrev pub tells : Live → Call → List ℕ
tells l (batched input space) = let r = (live_batch l input space).run in r.stop ∷ length r.log ∷ []
tells l (read_live a) = let r = live_read l a in r.refusal ∷ spot r.spot
tells l (copied n) = let c = copy_step l n in c.report.refusal ∷ c.report.count ∷ []

-- a call, what it tells, and then the marks, and the first byte of each page on the disk
pub record Row : Type 0 where
  pub call : Call
  pub told : List ℕ
  pub left : List ℕ
  pub pages : List ℕ

-- each call on what the last one left
unfoldable pub runs_as : Live → List Row → Bool
runs_as l [] = true
runs_as l (r ∷ rs) =
    let d = (after_call l r.call).disk in
    same_list (tells l r.call) r.told
    && (same_list d.marks r.left
    && (same_list (map (λ a. get_or d.bytes (256 * a) 0) (0 ∷ 1 ∷ 2 ∷ 3 ∷ 4 ∷ 5 ∷ [])) r.pages && runs_as (after_call l r.call) rs))

-- the bytes of a write of a letter to an address below 8
abbrev pub writes_to : ℕ → ℕ → List ℕ
writes_to a l = 0x20 ∷ 0x00 ∷ a * 32 ∷ 0x00 ∷ 0x00 ∷ 0x00 ∷ 0x00 ∷ letter l

-- a fresh store of 6 pages; every page stale, two of them marked blank; the disk holds nines
abbrev pub begins : Live
begins = record { store = fresh 6 4 6 6 (replicate (256 * 6) 0); disk = disk_of (replicate (256 * 6) 9) (0 ∷ 2 ∷ 0 ∷ 2 ∷ 0 ∷ 0 ∷ []) }

abbrev pub of_disk : ℕ → ℕ → ℕ → ℕ → ℕ → ℕ → List ℕ
of_disk a b c d e f = a ∷ b ∷ c ∷ d ∷ e ∷ f ∷ []

abbrev pub live_session : List Row
live_session =
    -- a stale page that nobody wrote: none. A write goes to both, and its page is current
    record { call = read_live 5; told = 0 ∷ 0 ∷ 0 ∷ []; left = of_disk 0 2 0 2 0 0; pages = of_disk 9 9 9 9 9 9 }
    ∷ record { call = batched (writes_to 5 65) 5; told = 0 ∷ 1 ∷ []; left = of_disk 0 2 0 2 0 1; pages = of_disk 9 9 9 9 9 65 }
    ∷ record { call = read_live 5; told = 0 ∷ 1 ∷ 1280 ∷ []; left = of_disk 0 2 0 2 0 1; pages = of_disk 9 9 9 9 9 65 }
    -- a mark touches neither; a page that was marked blank is not, once written
    ∷ record { call = batched (marks ++ (writes_to 5 66 ++ writes_to 1 67)) 15; told = 0 ∷ 3 ∷ []; left = of_disk 0 1 0 2 0 1; pages = of_disk 9 67 9 9 9 66 }
    -- a step takes the stale pages of the lowest addresses; those without a page are blank, counted, and keep their bytes
    ∷ record { call = copied 2; told = 0 ∷ 2 ∷ []; left = of_disk 3 1 3 2 0 1; pages = of_disk 9 67 9 9 9 66 }
    -- a revert makes every page stale, and leaves bytes and blank marks; live reads find the stored pages, or none
    ∷ record { call = batched (reverts 0) 5; told = 0 ∷ 1 ∷ []; left = of_disk 2 0 2 2 0 0; pages = of_disk 9 67 9 9 9 66 }
    ∷ record { call = read_live 5; told = 0 ∷ 2 ∷ 0 ∷ []; left = of_disk 2 0 2 2 0 0; pages = of_disk 9 67 9 9 9 66 }
    ∷ record { call = read_live 1; told = 0 ∷ 0 ∷ 0 ∷ []; left = of_disk 2 0 2 2 0 0; pages = of_disk 9 67 9 9 9 66 }
    -- five of six stale pages; a blank one is none, though the disk has bytes there
    ∷ record { call = copied 5; told = 0 ∷ 5 ∷ []; left = of_disk 3 3 3 3 3 0; pages = of_disk 9 67 9 9 9 66 }
    ∷ record { call = read_live 1; told = 0 ∷ 0 ∷ 0 ∷ []; left = of_disk 3 3 3 3 3 0; pages = of_disk 9 67 9 9 9 66 }
    ∷ record { call = read_live 5; told = 0 ∷ 2 ∷ 0 ∷ []; left = of_disk 3 3 3 3 3 0; pages = of_disk 9 67 9 9 9 66 }
    -- budget 0; the last stale page, copied to the disk; none is left
    ∷ record { call = copied 0; told = 0 ∷ 0 ∷ []; left = of_disk 3 3 3 3 3 0; pages = of_disk 9 67 9 9 9 66 }
    ∷ record { call = copied 9; told = 0 ∷ 1 ∷ []; left = of_disk 3 3 3 3 3 1; pages = of_disk 9 67 9 9 9 65 }
    ∷ record { call = copied 3; told = 0 ∷ 0 ∷ []; left = of_disk 3 3 3 3 3 1; pages = of_disk 9 67 9 9 9 65 }
    ∷ record { call = read_live 5; told = 0 ∷ 1 ∷ 1280 ∷ []; left = of_disk 3 3 3 3 3 1; pages = of_disk 9 67 9 9 9 65 }
    -- an address at A; a refused write and a refused revert; an answer that does not fit
    ∷ record { call = read_live 6; told = 4 ∷ 0 ∷ 0 ∷ []; left = of_disk 3 3 3 3 3 1; pages = of_disk 9 67 9 9 9 65 }
    ∷ record { call = batched (writes_to 6 68 ++ reverts 7) 10; told = 0 ∷ 2 ∷ []; left = of_disk 3 3 3 3 3 1; pages = of_disk 9 67 9 9 9 65 }
    ∷ record { call = batched (writes_to 0 68) 4; told = 14 ∷ 0 ∷ []; left = of_disk 3 3 3 3 3 1; pages = of_disk 9 67 9 9 9 65 }
    ∷ record { call = batched (reverts 1) 4; told = 14 ∷ 0 ∷ []; left = of_disk 3 3 3 3 3 1; pages = of_disk 9 67 9 9 9 65 }
    -- a blank page written; a reclaim touches neither; the set-back set back
    ∷ record { call = batched (writes_to 0 68 ++ reclaims 1) 10; told = 0 ∷ 2 ∷ []; left = of_disk 1 3 3 3 3 1; pages = of_disk 68 67 9 9 9 65 }
    ∷ record { call = batched (reverts 1) 5; told = 0 ∷ 1 ∷ []; left = of_disk 0 2 2 2 2 0; pages = of_disk 68 67 9 9 9 65 }
    ∷ record { call = copied 6; told = 0 ∷ 6 ∷ []; left = of_disk 3 1 3 3 3 1; pages = of_disk 68 67 9 9 9 66 }
    ∷ []

-- a live disk beside a store of A 6, and the refusal of the checks
pub record Fitting : Type 0 where
  pub store : Store
  pub disk : LiveDisk
  pub refusal : ℕ

unfoldable pub fits_as : List Fitting → Bool
fits_as [] = true
fits_as (c ∷ cs) = eqb (live_check (record { store = c.store; disk = c.disk })) c.refusal && fits_as cs

-- a disk of so many bytes and marks, the last one m
abbrev pub sized : ℕ → ℕ → ℕ → LiveDisk
sized n k m = disk_of (replicate n 0) (replicate k 1 ++ (m ∷ []))

-- 18: bytes or marks too few or too many, the first or the last mark above 3; 3 before it
abbrev pub fittings : List Fitting
fittings =
    record { store = holding_four four five; disk = sized 1536 5 0; refusal = 0 }
    ∷ record { store = holding_four four five; disk = sized 1536 5 3; refusal = 0 }
    ∷ record { store = holding_four four five; disk = sized 1536 5 4; refusal = 18 }
    ∷ record { store = holding_four four five; disk = disk_of (replicate 1536 0) (4 ∷ replicate 5 0); refusal = 18 }
    ∷ record { store = holding_four four five; disk = sized 1535 5 0; refusal = 18 }
    ∷ record { store = holding_four four five; disk = sized 1537 5 0; refusal = 18 }
    ∷ record { store = holding_four four five; disk = sized 1536 4 0; refusal = 18 }
    ∷ record { store = holding_four four five; disk = sized 1536 6 0; refusal = 18 }
    ∷ record { store = holding_four four (set five 0 0); disk = sized 1536 5 4; refusal = 3 }
    ∷ []

pub live_calls : runs_as begins live_session ≡ true
unfolding runs_as after_call marks_small disk_check live_check played live_batch spot_of live_read brought brought_all stale_from copy_step keep any branches newest records names page_at with_page is_readable holds ancestry within latest first_found lookup any_up_to is_given sizes_allowed in_range chained branches_sound names_sound rows_sound precedes ascending by_itself placed used records_sound table_check number bytes packed by_operation parse answer_bytes first_free before inserted do_write do_mark branched do_revert do_read stays landing settled reclaimed do_reclaim step fresh run batch
live_calls = refl

pub disks_fit : fits_as fittings ≡ true
unfolding fits_as marks_small disk_check live_check keep any branches newest records names holds sizes_allowed in_range chained branches_sound names_sound rows_sound precedes ascending by_itself placed used records_sound table_check
disks_fit = refl
