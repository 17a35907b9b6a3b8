-- One claim about a whole list of batches to a fresh store (change request Seven): a list of work orders has what a crew's own log has, of
-- the branches that are still counted. proofs/Logging proves it.
use Rattle.std.specs.Prelude.{ℕ, ◌+◌, ◌≡◌, List, [], ◌∷◌, map, Bool, cond, eqb}
use Rattle.model.specs.Store.{Store, branches, keep, any}
use Rattle.model.specs.Wire.{Request, write, mark, revert, read_at, reclaim, give, withdraw}
use Rattle.model.specs.Fresh.{fresh_check, made_fresh}
use Rattle.model.specs.Batch.{Answered}
use Rattle.model.specs.Demand3.{Call, after, answered, refuses}
use Rattle.work_orders.specs.Orders.{work_orders}
use Rattle.work_orders.specs.Demand.{CanRead}

-- an entry of the log: the first moment of a branch, and the work order of the revert that began it
pub record Entry : Type 0 where
  pub start : ℕ
  pub order : ℕ

-- now, and for each moment the entries that led there, nearest first
pub record Log : Type 0 where
  pub now : ℕ
  pub entries : ℕ → List Entry

-- at first there is the first branch, without a work order
abbrev pub first_entry : Entry
first_entry = record { start = 0; order = 0 }

abbrev pub opened : Log
opened = record { now = 0; entries = λ t. first_entry ∷ [] }

-- one more moment, with these entries
abbrev pub goes_on : Log → List Entry → Log
goes_on p es = record { now = p.now + 1; entries = λ t. cond (eqb t (p.now + 1)) es (p.entries t) }

-- an accepted request: a mark goes on with the entries of now; a revert to m puts one before the entries of m
abbrev pub noted : Log → Request → Log
noted p (write a page) = p
noted p mark = goes_on p (p.entries p.now)
noted p (revert m w) = goes_on p (record { start = p.now + 1; order = w } ∷ p.entries m)
noted p (read_at a m) = p
noted p (reclaim m) = p
noted p (give n) = p
noted p (withdraw high low) = p

-- a refused one is not noted
abbrev pub note : Log → Answered → Log
note p e = cond (refuses e.answer) p (noted p e.request)

unfoldable pub logged : Log → List Answered → Log
logged p [] = p
logged p (e ∷ es) = logged (note p e) es

-- the branch of an entry is counted
abbrev pub is_counted : Store → Entry → Bool
is_counted s e = any (λ b. eqb b.start e.start) (branches s)

-- for whatever is lent, if a fresh store of `size` pages is not refused there: every list of calls, and every moment that can be read then
abbrev pub FromLog : Type 0
FromLog =
    (lent : Store) (size : ℕ) (calls : List Call) (t : ℕ) → fresh_check lent size ≡ 0 → CanRead (after (made_fresh lent size) calls) t
    → work_orders (after (made_fresh lent size) calls) t
    ≡ map (λ e. e.order) (keep (is_counted (after (made_fresh lent size) calls)) ((logged opened (answered (made_fresh lent size) calls)).entries t))
