-- Reading: document 004, Figure 1, and what the reads of readable moments give.
use Rattle.std.specs.Prelude.{ℕ, zero, suc, List, [], ◌∷◌, Bool, false, cond, ◌&&◌, ◌||◌, leb, eqb}
use Rattle.std.proofs.Math.Option.{Option, some, none}
use Rattle.model.specs.declared.Branch.{Branch}
use Rattle.model.specs.declared.Record.{Record}
use Rattle.model.specs.Store.{Store, newest, records, names, moments, any}

-- a branch holds a moment: both ends count
unfoldable pub holds : Branch → ℕ → Bool
holds b t = leb b.start t && leb t b.end

-- a branch of an ancestry, with the moment up to which it is searched
pub record Stage : Type 0 where
  pub branch : Branch
  pub up_to : ℕ

-- the ancestry of a moment ("the way through parents to the first row"), of branches that stand newest first:
-- the branch that holds the moment, then, among the earlier ones, the ancestry of its cut
unfoldable pub ancestry : List Branch → ℕ → List Stage
ancestry [] t = []
ancestry (b ∷ earlier) t =
    cond (holds b t) (record { branch = b; up_to = t } ∷ ancestry earlier b.cut) (ancestry earlier t)

-- a record at the address with a moment from lo to hi, both included
unfoldable pub within : ℕ → ℕ → ℕ → Record → Bool
within a lo hi r = eqb r.address a && (leb lo r.moment && leb r.moment hi)

abbrev pub or_else : {A : Type 0} → Option A → Option A → Option A
or_else (some x) o = some x
or_else none o = o

-- the latest record at the address from lo to hi: records ascend, so it is the last that is within
unfoldable pub latest : List Record → ℕ → ℕ → ℕ → Option Record
latest [] a lo hi = none
latest (r ∷ rs) a lo hi = or_else (latest rs a lo hi) (cond (within a lo hi r) (some r) none)

-- the first record found along an ancestry: in each branch the latest from its start to where it is searched
unfoldable pub first_found : List Record → ℕ → List Stage → Option Record
first_found rs a [] = none
first_found rs a (g ∷ gs) = or_else (latest rs a g.branch.start g.up_to) (first_found rs a gs)

-- lookup(address) of Figure 1 at a moment
unfoldable pub lookup : Store → ℕ → ℕ → Option Record
lookup s a t = first_found (records s) a (ancestry (newest s) t)

-- some moment from 0 to n passes
unfoldable pub any_up_to : (ℕ → Bool) → ℕ → Bool
any_up_to p zero = p zero
any_up_to p (suc n) = p (suc n) || any_up_to p n

-- a moment up to now is readable: it is not below the floor, or it is named; named moments are below now
unfoldable pub is_readable : ℕ → List ℕ → ℕ → Bool
is_readable floor named t = leb floor t || any (λ m. eqb m t) named

-- a store with this floor can read a moment up to its now
abbrev pub readable_from : Store → ℕ → ℕ → Bool
readable_from s floor = is_readable floor (moments (names s))

abbrev pub readable : Store → ℕ → Bool
readable s = readable_from s s.head.floor

-- some readable moment up to now passes
abbrev pub some_readable : (ℕ → Bool) → ℕ → (ℕ → Bool) → Bool
some_readable readable now p = any_up_to (λ t. readable t && p t) now

-- what was found is a record of this moment
abbrev pub is_at : ℕ → Option Record → Bool
is_at m (some r) = eqb r.moment m
is_at m none = false

-- some read of a moment that is readable with this floor gives the record
unfoldable pub is_given : Store → ℕ → Record → Bool
is_given s floor r = some_readable (readable_from s floor) s.head.now (λ t. is_at r.moment (lookup s r.address t))
