-- What is claimed of the live disk: of every list of batches, live reads and copying steps. proofs/LiveDemand.antt proves it.
use Rattle.std.specs.Prelude.{ℕ, ◌+◌, ◌-◌, ◌/◌, ◌≤◌, ◌<◌, min, ◌≡◌, List, [], ◌∷◌, Bool, true, false, ◌&&◌, eqb, length, drop}
use Rattle.std.proofs.Math.Option.{Option, some, none}
use Rattle.model.specs.Store.{Store, Page, any, open_end, ◌∈◌}
use Rattle.model.specs.Wire.{Request, write, mark, revert, read_at, reclaim, give, withdraw}
use Rattle.model.specs.Step.{step}
use Rattle.model.specs.Batch.{Answered}
use Rattle.live.specs.declared.Spot.TheVariants.{Nowhere}
use Rattle.live.specs.Live.{LiveDisk, Live, is_current, mark_of, live_check, live_batch, left_live, live_read, handed, stale, CopyLeft, copy_step}

-- a call: a batch of any bytes with so much space for answers, a live read of any address, a copying step with any budget
pub data Call : Type 0 where
  batched : List ℕ → ℕ → Call
  read_live : ℕ → Call
  copied : ℕ → Call

-- what a call leaves, and a list of calls, each on what the last one left
unfoldable pub after_call : Live → Call → Live
after_call l (batched input space) = left_live (live_batch l input space)
after_call l (read_live a) = l
after_call l (copied n) = record { store = l.store; disk = (copy_step l n).disk }

unfoldable pub after_calls : Live → List Call → Live
after_calls l [] = l
after_calls l (c ∷ cs) = after_calls (after_call l c) cs

-- every page is stale; blank marks are any
abbrev pub AllStale : LiveDisk → Type 0
AllStale d = (a : ℕ) → a < length d.marks → is_current (mark_of d a) ≡ false

-- the 256 bytes of a page, or none
abbrev pub bytes_of : Option Page → List ℕ
bytes_of none = []
bytes_of (some p) = p.bytes

-- the page of a read at now, empty where that finds none
abbrev pub read_now : Store → ℕ → List ℕ
read_now s a = bytes_of (step s (read_at a s.head.now)).answer.page

-- a revert that was accepted
abbrev pub is_revert : Request → Bool
is_revert (write a page) = false
is_revert mark = false
is_revert (revert m w) = true
is_revert (read_at a m) = false
is_revert (reclaim m) = false
is_revert (give n) = false
is_revert (withdraw high low) = false

abbrev pub reverts : Answered → Bool
reverts e = eqb e.answer.refusal 0 && is_revert e.request

-- no call of a list has one
abbrev pub reverts_in : Live → Call → Bool
reverts_in l (batched input space) = any reverts (live_batch l input space).run.log
reverts_in l (read_live a) = false
reverts_in l (copied n) = false

abbrev pub NoRevert : Live → List Call → Type 0
NoRevert l [] = Unit {0}
NoRevert l (c ∷ cs) = (reverts_in l c ≡ false) × NoRevert (after_call l c) cs

-- the budgets of the copying steps of a list
unfoldable pub budgets : List Call → List ℕ
budgets [] = []
budgets (batched input space ∷ cs) = budgets cs
budgets (read_live a ∷ cs) = budgets cs
budgets (copied n ∷ cs) = n ∷ budgets cs

-- what holds of a step that is not refused: its count is the smaller of the budget and of the stale pages; just that many pages, those of
-- the lowest addresses, turn from stale to current
pub record Advances (before : LiveDisk) (n : ℕ) (s : CopyLeft) : Type 0 where
  pub smaller : s.report.count ≡ min n (length (stale before))
  pub left : stale s.disk ≡ drop s.report.count (stale before)
  pub turned : length (stale before) ≡ s.report.count + length (stale s.disk)

pub record LiveDemand : Type 0 where
  -- if every page began stale: a live read gives the page of a read at now, whatever was called meanwhile
  pub reads : (l : Live) → live_check l ≡ 0 → l.store.head.now ≤ open_end → AllStale l.disk → (cs : List Call) (a : ℕ) → a < l.store.head.size
      → ((live_read (after_calls l cs) a).refusal ≡ 0) × (handed (after_calls l cs) a ≡ read_now (after_calls l cs).store a)
  -- no later call is refused by 1, 2, 3 or 18
  pub served : (l : Live) → live_check l ≡ 0 → l.store.head.now ≤ open_end → (cs : List Call) → live_check (after_calls l cs) ≡ 0
  -- refused live reads have an empty part, refused steps the count 0 and the disk as it was
  pub outside : (l : Live) (a : ℕ) → live_check l ≡ 0 → l.store.head.size ≤ a → (live_read l a).refusal ≡ 4
  pub refused_read : (l : Live) (a : ℕ) → ((live_read l a).refusal ≡ 0 → ⊥) → ((live_read l a).spot ≡ Nowhere) × (handed l a ≡ [])
  pub refused_step : (l : Live) (n : ℕ) → ((copy_step l n).report.refusal ≡ 0 → ⊥) → ((copy_step l n).report.count ≡ 0) × ((copy_step l n).disk ≡ l.disk)
  pub advances : (l : Live) (n : ℕ) → (copy_step l n).report.refusal ≡ 0 → Advances l.disk n (copy_step l n)
  -- with no revert between, as many steps of a budget of at least n as A divided by n, rounded up, leave no page stale
  pub ends : (l : Live) → live_check l ≡ 0 → l.store.head.now ≤ open_end → (cs : List Call) (n : ℕ) → 1 ≤ n → NoRevert l cs
      → ((m : ℕ) → m ∈ budgets cs → n ≤ m) → (l.store.head.size + (n - 1)) / n ≤ length (budgets cs) → stale (after_calls l cs).disk ≡ []
