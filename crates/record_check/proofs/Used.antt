-- The place rows in use, counted from the first on.
use mathlib.Core.Path.{◌≡◌, refl, ap}
use mathlib.Core.List.{List, []}
use Prim.Native.Nat.{ℕ, ◌+◌, ◌<◌}
use native.Mathlib.Omega.{arith}
use lib.ListN.{length, get_or, take}
use lib.Seq.{take-length}
use borrow.Author.Tests.{eq-eqb, ne_eqb}
use Rattle.std.specs.List.{count_by}
use Rattle.std.proofs.lemmas.List.Recursion.{is_count_by}
use Rattle.std.proofs.lemmas.List.Sums.{count_by_more_yes, count_by_more_no}
use Rattle.model.specs.Store.{keep}
use Rattle.model.specs.Soundness.{used, in_use}
use Rattle.model.proofs.Base.{case}

-- the model's count is the library's
used_count : (ps : List ℕ) → used ps ≡ count_by in_use ps
unfolding used keep
used_count = is_count_by used in_use refl (λ p ps. case (in_use p) (λ e. rw e (omega arith)) (λ e. rw e))

pub used_none : 0 ≡ used []
unfolding used keep
used_none = refl

pub used_all : (ps : List ℕ) → used (take (length ps) ps) ≡ used ps
used_all ps = ap used (take-length ps)

module _ (ps : List ℕ) (i : ℕ) (l : i < length ps) where
  pub used_more : (get_or ps i 0 ≡ 0 → ⊥) → used (take (i + 1) ps) ≡ used (take i ps) + 1
  used_more h = rw (used_count (take (i + 1) ps), used_count (take i ps)) (count_by_more_yes in_use ps i 0 l (rw (ne_eqb _ _ h)))

  pub used_free : get_or ps i 0 ≡ 0 → used (take (i + 1) ps) ≡ used (take i ps)
  used_free h = rw (used_count (take (i + 1) ps), used_count (take i ps)) (count_by_more_no in_use ps i 0 l (rw (eq-eqb _ _ h)))
