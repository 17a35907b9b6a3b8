-- Rows that close up by their marks, and the place rows that follow.
use Rattle.std.specs.Prelude.{◌≡◌, List, [], ◌∷◌, map, Bool, cond, ℕ, zero, suc, eqb, length, get_or, take}
use Rattle.model.specs.declared.Record.{Record}
use Rattle.model.specs.Store.{zero_branch, zero_record}
use Rattle.model.specs.Step.{closed_up}
use Rattle.rows.specs.Rows.{branch_rows_of, record_rows_of, BranchesLaid, RecordsLaid}

-- a row is marked: its byte is 1
abbrev pub marked : List ℕ → ℕ → Bool
marked ms i = eqb (get_or ms i 0) 1

-- the elements whose index passes a test, in order
unfoldable pub keep_by : {A : Type 0} → (ℕ → Bool) → List A → List A
keep_by p [] = []
keep_by p (x ∷ xs) = cond (p 0) (x ∷ keep_by (λ i. p (suc i)) xs) (keep_by (λ i. p (suc i)) xs)

-- a place row after a reclaim: that of a kept record names its new row, counted from 1; any other is free
abbrev pub renamed : (ℕ → Bool) → List Record → ℕ → ℕ
renamed p rs zero = 0
renamed p rs (suc i) = cond (p i) (suc (length (keep_by p (take i rs)))) 0

-- of n records in the table rt, with the place rows ps, the marked ones close up in order: w are kept, rt' and ps' are left
pub record ClosedRecords (ms : List ℕ) (n : ℕ) (rt rt' ps ps' : List ℕ) (w : ℕ) : Type 0 where
  pub table : RecordsLaid rt (closed_up zero_record (keep_by (marked ms) (take n (record_rows_of rt))) n (record_rows_of rt)) rt'
  pub places : ps' ≡ map (renamed (marked ms) (take n (record_rows_of rt))) ps
  pub count : w ≡ length (keep_by (marked ms) (take n (record_rows_of rt)))

-- of n branches in the table bt the marked ones close up in order: w are kept, bt' is left
pub record ClosedBranches (ms : List ℕ) (n : ℕ) (bt bt' : List ℕ) (w : ℕ) : Type 0 where
  pub table : BranchesLaid bt (closed_up zero_branch (keep_by (marked ms) (take n (branch_rows_of bt))) n (branch_rows_of bt)) bt'
  pub count : w ≡ length (keep_by (marked ms) (take n (branch_rows_of bt)))
