-- Change request Six said of the C entries: lists of batches, live reads and copying steps on the areas of a fresh store and a live disk.
-- proofs/LiveDemand.antt proves it.
use Rattle.std.specs.Prelude.{ℕ, ◌+◌, ◌-◌, ◌/◌, ◌≤◌, ◌<◌, ◌≡◌, List, [], ◌∷◌, map, false, length}
use Rattle.model.specs.Store.{◌∈◌}
use Rattle.live.specs.declared.Spot.TheVariants.{Nowhere}
use Rattle.live.specs.Live.{LiveDisk, disk_check, part_at, stale}
use Rattle.live.specs.LiveDemand as model
use Rattle.live.specs.LiveDemand.{Call, AllStale, read_now, reverts_in, budgets, Advances}
use Rattle.areas.specs.Lent.{Lent, store_in, live_in}
use Rattle.fresh_areas.specs.Fresh.{fresh_bytes}
use Rattle.batch_areas.specs.Batch.{check_in, batch_bytes}
use Rattle.live_areas.specs.Live.{live_read_bytes, copy_bytes}

-- the areas of a store, and the live disk beside them
pub record LiveAreas : Type 0 where
  pub areas : Lent
  pub disk : LiveDisk

abbrev pub live_areas : Lent → LiveDisk → LiveAreas
live_areas areas disk = record { areas = areas; disk = disk }

-- a call: a batch of bytes with an answer area, a live read of an address, a copying step with a budget
pub data LiveCall : Type 0 where
  batched : List ℕ → List ℕ → LiveCall
  read_live : ℕ → LiveCall
  copied : ℕ → LiveCall

-- what a call leaves, and a list of calls, each on what the last one left
unfoldable pub call_leaves : LiveAreas → LiveCall → LiveAreas
call_leaves x (batched input area) = let b = batch_bytes x.areas x.disk input area in live_areas b.areas b.disk
call_leaves x (read_live a) = x
call_leaves x (copied n) = live_areas x.areas (copy_bytes x.areas x.disk n).disk

unfoldable pub calls_leave : LiveAreas → List LiveCall → LiveAreas
calls_leave x [] = x
calls_leave x (c ∷ cs) = calls_leave (call_leaves x c) cs

-- the 256 bytes where a live read finds the page, or none
abbrev pub part_in : LiveAreas → ℕ → List ℕ
part_in x a = part_at (live_read_bytes x.areas x.disk a).spot x.disk.bytes x.areas.tables.slab

-- the call on the store that the areas hold
abbrev pub call_of : LiveCall → Call
call_of (batched input area) = model.batched input (length area)
call_of (read_live a) = model.read_live a
call_of (copied n) = model.copied n

-- no revert is accepted in a list
abbrev pub NoRevert : LiveAreas → List LiveCall → Type 0
NoRevert x [] = Unit {0}
NoRevert x (c ∷ cs) = (reverts_in (live_in x.areas x.disk) (call_of c) ≡ false) × NoRevert (call_leaves x c) cs

-- what holds after calls on areas of a store of `size` pages, where no other hand touched them
pub record LiveHolds (size : ℕ) (first : LiveAreas) (cs : List LiveCall) : Type 0 where
  -- if every page began stale, a live read gives the page of a read at now, or an empty part where that finds none
  pub reads : AllStale first.disk → (a : ℕ) → a < size
      → ((live_read_bytes (calls_leave first cs).areas (calls_leave first cs).disk a).refusal ≡ 0) × (part_in (calls_leave first cs) a ≡ read_now (store_in (calls_leave first cs).areas) a)
  -- no later call is refused by 1, 2, 3 or 18
  pub served : check_in (calls_leave first cs).areas (calls_leave first cs).disk ≡ 0
  -- with no revert between, as many steps of a budget of at least n as A divided by n, rounded up, leave no page stale
  pub ends : (n : ℕ) → 1 ≤ n → NoRevert first cs → ((m : ℕ) → m ∈ budgets (map call_of cs) → n ≤ m) → (size + (n - 1)) / n ≤ length (budgets (map call_of cs))
      → stale (calls_leave first cs).disk ≡ []

-- what holds of every live read and every copying step, whatever is lent
pub record LiveAnswers (l : Lent) (d : LiveDisk) : Type 0 where
  -- 4 for an address at or above A, where the checks pass
  pub outside : (a : ℕ) → check_in l d ≡ 0 → (store_in l).head.size ≤ a → (live_read_bytes l d a).refusal ≡ 4
  -- a refused live read has an empty part; a refused step the count 0, and the live disk is as it was
  pub refused_read : (a : ℕ) → ((live_read_bytes l d a).refusal ≡ 0 → ⊥) → ((live_read_bytes l d a).spot ≡ Nowhere) × (part_in (live_areas l d) a ≡ [])
  pub refused_step : (n : ℕ) → ((copy_bytes l d n).report.refusal ≡ 0 → ⊥) → ((copy_bytes l d n).report.count ≡ 0) × ((copy_bytes l d n).disk ≡ d)
  -- a step that is not refused copies the smaller of its budget and of the stale pages, lowest address first
  pub advances : (n : ℕ) → (copy_bytes l d n).report.refusal ≡ 0 → Advances d n (copy_bytes l d n)

pub record LiveDemand : Type 0 where
  pub answers : (l : Lent) (d : LiveDisk) → LiveAnswers l d
  -- for whatever areas are lent, if a fresh store of `size` pages is not refused there, and whatever live disk fits it: every list of calls
  pub lists : (l : Lent) (size : ℕ) (d : LiveDisk) (cs : List LiveCall) → (fresh_bytes size l).result ≡ 0 → disk_check size d ≡ 0
      → LiveHolds size (live_areas (fresh_bytes size l).areas d) cs
