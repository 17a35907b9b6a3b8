-- A run of stores, at any width: what stands in it, before it and after it.
use mathlib.Core.Path.{◌≡◌, refl, ◌∙◌}
use mathlib.Core.List.{List, [], ◌∷◌}
use Prim.Native.Nat.{ℕ, zero, suc, ◌+◌, ◌≤◌, ◌<◌}
use native.Mathlib.Omega.{arith}
use native.Mathlib.Nat.{le_of_suc-le-suc, not-suc-le-zero}
use lib.ListN.{length, get_or, set, length-set}
use lib.Seq.{sets, get_or-set_same, get_or-set_other}

-- outside the run
pub sets_out : (vs t : List ℕ) (p q : ℕ) → (p ≤ q → q < p + length vs → ⊥) → get_or (sets t p vs) q 0 ≡ get_or t q 0
sets_out [] t p q h = refl
sets_out (v ∷ vs) t p q h =
    sets_out vs (set t p v) (suc p) q (λ a b. h (omega arith) (omega arith)) ∙ get_or-set_other t p q v 0 (λ e. h (omega arith) (omega arith))

-- in the run
pub sets_in : (vs t : List ℕ) (p j : ℕ) → p + length vs ≤ length t → j < length vs → get_or (sets t p vs) (p + j) 0 ≡ get_or vs j 0
sets_in [] t p j l h = absurd (not-suc-le-zero h)
sets_in (v ∷ vs) t p zero l h =
    sets_out vs (set t p v) (suc p) (p + 0) (λ a b. omega arith)
    ∙ (let e : p + 0 ≡ p = omega arith in rw e (get_or-set_same t p v 0 (omega arith)))
sets_in (v ∷ vs) t p (suc j) l h =
    let e : p + suc j ≡ suc p + j = omega arith in
    rw e (sets_in vs (set t p v) (suc p) j (rw (length-set t p v) (omega arith)) (le_of_suc-le-suc h))
