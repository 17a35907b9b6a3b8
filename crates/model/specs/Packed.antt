-- Change request Two, pages packed towards the front: what is promised, over definitions alone. proofs/Packed and proofs/Copies prove it.
use Rattle.std.specs.Prelude.{ℕ, zero, suc, ◌*◌, ◌≤◌, ◌<◌, ◌≡◌, ◌⊎◌, List, [], ◌∷◌, ◌++◌, true, cond, ltb, length, get_or, take, replicate}
use Rattle.model.specs.declared.Record.{Record}
use Rattle.model.specs.Store.{Store, branches, records, names, open_end, ◌∈◌}
use Rattle.model.specs.Soundness.{lent_allowed, table_check}
use Rattle.model.specs.Wire.{Request, write, mark, revert, read_at, reclaim, give, withdraw}
use Rattle.model.specs.Step.{Stepped, step}
use Rattle.model.specs.Fresh.{fresh_check, made_fresh}
use Rattle.model.specs.Batch.{Answered}
use Rattle.model.specs.Reference.{Reference, empty}
use Rattle.model.specs.Demand3.{Call, after, answered, next, fed, Agrees}

-- the free place with the smallest number
pub record SmallestFree (ps : List ℕ) (p : ℕ) : Type 0 where
  pub inside : p < length ps
  pub free : get_or ps p 0 ≡ 0
  pub least : (k : ℕ) → k < p → get_or ps k 0 ≡ 0 → ⊥

-- a request puts in this record: it is a write, and takes the free place with the smallest number as the place rows stand before it
abbrev pub PutIn : Store → Request → Record → Type 0
PutIn s (write a page) r = (r.address ≡ a) × (r.moment ≡ s.head.now) × SmallestFree s.place_rows r.place
PutIn s mark r = ⊥
PutIn s (revert m w) r = ⊥
PutIn s (read_at a m) r = ⊥
PutIn s (reclaim m) r = ⊥
PutIn s (give n) r = ⊥
PutIn s (withdraw high low) r = ⊥

-- what a request left of a store: a record was there before, in the same place, or is the one put in; 6 only where no place is free
pub record Packs (s : Store) (q : Request) (st : Stepped) : Type 0 where
  pub placed : (r : Record) → r ∈ records st.store → (r ∈ records s) ⊎ PutIn s q r
  pub full : st.answer.refusal ≡ 6 → (k : ℕ) → k < length s.place_rows → get_or s.place_rows k 0 ≡ 0 → ⊥

-- every request on every store that passes the table checks, whose now is a number of 32 bits
abbrev pub TakesSmallest : Type 0
TakesSmallest = (s : Store) (q : Request) → s.head.now ≤ open_end → table_check s ≡ 0 → Packs s q (step s q)

-- how many places there are up to the last one in use; a free one counts where one behind it is in use
unfoldable pub reach : List ℕ → ℕ
reach [] = 0
reach (zero ∷ ps) = cond (ltb 0 (reach ps)) (suc (reach ps)) 0
reach (suc k ∷ ps) = suc (reach ps)

-- up to which byte the slab is in use
abbrev pub slab_in_use : Store → ℕ
slab_in_use s = 256 * reach s.place_rows

-- no more than n pairs are held at once, from the reference p through the requests
abbrev pub HeldUpTo : ℕ → Reference → List Answered → Type 0
HeldUpTo n p [] = length p.held ≤ n
HeldUpTo n p (e ∷ es) = (length p.held ≤ n) × HeldUpTo n (next p e) es

-- every list of calls to a fresh store: the slab is never in use past the pages of the most records held at once
abbrev pub StaysPacked : Type 0
StaysPacked =
    (lent : Store) (size : ℕ) (calls : List Call) (n : ℕ) → fresh_check lent size ≡ 0
    → HeldUpTo n empty (answered (made_fresh lent size) calls)
    → slab_in_use (after (made_fresh lent size) calls) ≤ 256 * n

-- a copy over tables as large or larger: head and counted rows are the same, place rows behind are free, and of the slab the bytes in
-- use are the same
pub record Copy (s c : Store) : Type 0 where
  pub allowed : lent_allowed c c.head.size ≡ true
  pub head : c.head ≡ s.head
  pub branches : branches c ≡ branches s
  pub records : records c ≡ records s
  pub names : names c ≡ names s
  pub more : ℕ
  pub places : c.place_rows ≡ s.place_rows ++ replicate more 0
  pub slab : take (slab_in_use s) c.slab ≡ take (slab_in_use s) s.slab

-- a list of calls to a fresh store, a copy of it, and a list of calls to the copy: what demand 3 claims holds of the one list
abbrev pub CopiesAgree : Type 0
CopiesAgree =
    (lent : Store) (size : ℕ) (calls : List Call) (c : Store) (more : List Call) → fresh_check lent size ≡ 0
    → Copy (after (made_fresh lent size) calls) c
    → Agrees size (after c more) (fed empty (answered (made_fresh lent size) calls ++ answered c more))
    (answered (made_fresh lent size) calls ++ answered c more)
