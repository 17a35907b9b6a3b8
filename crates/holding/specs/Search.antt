-- A search among branch rows.
use Rattle.std.specs.Prelude.{ℕ, ◌+◌, ◌≤◌, ◌<◌, List, [], ◌∷◌, cond, eqb}
use Rattle.model.specs.declared.Branch.{Branch}
use Rattle.model.specs.ByNumber.{branch}

-- of n branches the one in row k is the first that ends at t or later
pub record FirstEnding (bs : List Branch) (n t k : ℕ) : Type 0 where
  pub inside : k < n
  pub below : (i : ℕ) → i < k → (branch bs i).end < t
  pub ends : t ≤ (branch bs k).end

-- from which moment on branches, newest first, leave no gap: the start of the newest that does not follow the one before it, else 0
unfoldable pub unbroken : List Branch → ℕ
unbroken [] = 0
unbroken (b ∷ []) = 0
unbroken (b ∷ c ∷ earlier) = cond (eqb b.start (c.end + 1)) (unbroken (c ∷ earlier)) b.start
