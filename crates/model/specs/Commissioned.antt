-- Change request Three, what a name is for: a named moment reads as it did, until its name is withdrawn. proofs/Commissioned proves it.
use Rattle.std.specs.Prelude.{ℕ, ◌≡◌, List, Bool, false}
use Rattle.model.specs.declared.Name.{Name}
use Rattle.model.specs.Store.{Store, names, is_called, any, ◌∈◌}
use Rattle.model.specs.Wire.{Request, write, mark, revert, read_at, reclaim, give, withdraw}
use Rattle.model.specs.Step.{step}
use Rattle.model.specs.Fresh.{fresh_check, made_fresh}
use Rattle.model.specs.Batch.{Answered}
use Rattle.model.specs.Demand3.{Call, after, answered}

-- a request withdraws the name of this row
abbrev pub withdraws : Name → Request → Bool
withdraws n (write a page) = false
withdraws n mark = false
withdraws n (revert m w) = false
withdraws n (read_at a m) = false
withdraws n (reclaim m) = false
withdraws n (give x) = false
withdraws n (withdraw high low) = is_called high low n

-- none of the requests does
abbrev pub StaysGiven : Name → List Answered → Type 0
StaysGiven n es = any (λ e. withdraws n e.request) es ≡ false

-- a row that a store had is there later, and every read at its moment has the same answer
pub record AsNamed (s u : Store) (n : Name) : Type 0 where
  pub named : n ∈ names u
  pub reads : (a : ℕ) → (step u (read_at a n.moment)).answer ≡ (step s (read_at a n.moment)).answer

-- a list of calls to a fresh store, a name that it then has, and more calls in which this name is not withdrawn: writes, reverts, reclaims
-- to any floor, other names
abbrev pub Commissioned : Type 0
Commissioned =
    (lent : Store) (size : ℕ) (calls more : List Call) (n : Name) → fresh_check lent size ≡ 0 → n ∈ names (after (made_fresh lent size) calls)
    → StaysGiven n (answered (after (made_fresh lent size) calls) more)
    → AsNamed (after (made_fresh lent size) calls) (after (after (made_fresh lent size) calls) more) n
