-- The branches that stay in a reclaim, closed up, with what their cuts become.
use Rattle.std.specs.Prelude.{◌≡◌, List, map, Bool, ℕ, length, take}
use Rattle.model.specs.declared.Branch.{Branch}
use Rattle.model.specs.Store.{keep, zero_branch}
use Rattle.model.specs.Step.{landing, with_cut, closed_up}
use Rattle.model.specs.ByNumber.{newest_of}
use Rattle.rows.specs.Rows.{branch_rows_of, BranchesLaid}

-- of the first n rows those that pass, with what their cuts become
abbrev pub settled_rows : (Branch → Bool) → ℕ → List Branch → List Branch
settled_rows left n bs = map (λ b. with_cut b (landing left (newest_of bs n) b.cut)) (keep left (take n bs))

-- of n branches in the table bt those that pass are settled, and close up in order: w are left, and the table bt'
pub record Settled (left : Branch → Bool) (n : ℕ) (bt bt' : List ℕ) (w : ℕ) : Type 0 where
  pub table : BranchesLaid bt (closed_up zero_branch (settled_rows left n (branch_rows_of bt)) n (branch_rows_of bt)) bt'
  pub count : w ≡ length (settled_rows left n (branch_rows_of bt))
