-- The moments that decide a reclaim, and the records that it keeps, as bytes by row number.
use Rattle.std.specs.Prelude.{◌≡◌, List, ◌++◌, Bool, true, cond, ◌&&◌, ◌||◌, ℕ, zero, suc, ◌+◌, ◌≤◌, leb, length, get_or, take}
use Rattle.model.specs.declared.Branch.{Branch}
use Rattle.model.specs.declared.Record.{Record}
use Rattle.model.specs.Store.{any}
use Rattle.model.specs.Lookup.{is_at}
use Rattle.model.specs.ByNumber.{find, candidates, deciding, entry, newest_of}
use Rattle.branch_marks.specs.Marks.{bit}

-- the first r numbers are the floor m and the starts above it, the others are as they were
pub record Started (bs : List Branch) (n m r : ℕ) (old table : List ℕ) : Type 0 where
  pub within : r ≤ length table
  pub few : r ≤ n + 1
  pub moments : take r table ≡ candidates m (newest_of bs n)
  pub rest : (k : ℕ) → r ≤ k → get_or table k 0 ≡ get_or old k 0
  pub long : length table ≡ length old

-- from the number c up to r the list stands, the others are as they were
pub record Behind (more : List ℕ) (c r : ℕ) (old table : List ℕ) : Type 0 where
  pub count : r ≡ c + length more
  pub first : take r table ≡ take c old ++ more
  pub rest : (k : ℕ) → r ≤ k → get_or table k 0 ≡ get_or old k 0
  pub long : length table ≡ length old

-- none of the first n records is older than the floor m
unfoldable pub none_older : List Record → ℕ → ℕ → Bool
none_older rs m zero = true
none_older rs m (suc k) = leb m (entry rs k).moment && none_older rs m k

-- a byte that is 1 too where the record is not older than the floor
abbrev pub young_too : List Record → ℕ → List ℕ → ℕ → ℕ
young_too rs m marks k = cond (leb m (entry rs k).moment) 1 (get_or marks k 0)

-- the record is given by a read at the floor m or above, or at a named moment, by the model's lookup
unfoldable pub given : List Branch → ℕ → List Record → ℕ → List ℕ → Record → Bool
given bs n rs m named r =
    leb m r.moment || any (λ t. is_at r.moment (find rs r.address (newest_of bs n) t)) (deciding named m (newest_of bs n))

-- the byte of a record: 1 where a reclaim to the floor m keeps it
abbrev pub kept_record : List Branch → ℕ → List Record → ℕ → ℕ → List ℕ → ℕ → ℕ
kept_record bs n rs nr m named k = bit (given bs n (take nr rs) m named (entry rs k))
