-- Branches by row number: the branch that holds a moment, the parent of a branch, and the branches that stay.
use Rattle.std.specs.Prelude.{◌≡◌, List, map, Bool, true, cond, ℕ, zero, suc, ◌≤◌, ◌<◌, ltb, length, get_or}
use Rattle.model.specs.declared.Branch.{Branch}
use Rattle.model.specs.declared.Record.{Record}
use Rattle.model.specs.Store.{keep, any, ◌∈◌}
use Rattle.model.specs.Lookup.{holds}
use Rattle.model.specs.Step.{stays}
use Rattle.model.specs.ByNumber.{branch, entry, held}

-- the newest of the first n rows that holds the moment t
unfoldable pub holder : List Branch → ℕ → ℕ → ℕ
holder bs zero t = zero
holder bs (suc i) t = cond (holds (branch bs i) t) i (holder bs i t)

-- r is that row, and it holds t
pub record Holder (bs : List Branch) (n t r : ℕ) : Type 0 where
  pub here : r ≡ holder bs n t
  pub inside : r < n
  pub low : (branch bs r).start ≤ t
  pub high : t ≤ (branch bs r).end

-- a test as a byte
abbrev pub bit : Bool → ℕ
bit b = cond b 1 0

-- moments that are held by one of the first n branches
pub record Held (bs : List Branch) (n : ℕ) (moments : List ℕ) : Type 0 where
  pub each : (t : ℕ) → t ∈ moments → held bs n t ≡ true

-- the moments of the records are held
pub record Placed (bs : List Branch) (n : ℕ) (rs : List Record) (nr : ℕ) : Type 0 where
  pub each : (k : ℕ) → k < nr → held bs n (entry rs k).moment ≡ true

-- a table whose first n numbers are f 0, f 1, .., the others as they were
pub record Filled (f : ℕ → ℕ) (n : ℕ) (old new : List ℕ) : Type 0 where
  pub first : (k : ℕ) → k < n → get_or new k 0 ≡ f k
  pub rest : (k : ℕ) → n ≤ k → get_or new k 0 ≡ get_or old k 0
  pub long : length new ≡ length old

-- the numbers from n on are as they were
pub record Rest (n : ℕ) (old new : List ℕ) : Type 0 where
  pub rest : (k : ℕ) → n ≤ k → get_or new k 0 ≡ get_or old k 0
  pub long : length new ≡ length old

-- n numbers, all 0
pub record Zeros (n : ℕ) (t : List ℕ) : Type 0 where
  pub long : length t ≡ n
  pub zero : (k : ℕ) → k < n → get_or t k 0 ≡ 0

-- the parent: the earlier row that holds the cut; the first row has none, and 0 stands for it
abbrev pub parent_of : List Branch → ℕ → ℕ
parent_of bs i = holder bs i (branch bs i).cut

-- the byte of a branch: 1 where it holds one of the moments, else as it was
abbrev pub held_too : List Branch → List ℕ → List ℕ → ℕ → ℕ
held_too bs moments marks i = cond (any (holds (branch bs i)) moments) 1 (get_or marks i 0)

-- the moments of the records that are older than the floor
abbrev pub older_moments : ℕ → List Record → List ℕ
older_moments floor rs = map (λ r. r.moment) (keep (λ r. ltb r.moment floor) rs)

-- the byte of a branch: 1 where it stays
abbrev pub kept_branch : List Branch → ℕ → List ℕ → List Record → ℕ → ℕ
kept_branch bs floor named kept i = bit (stays floor named kept (branch bs i))
