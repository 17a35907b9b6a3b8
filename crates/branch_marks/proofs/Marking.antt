-- The laws of tables that are filled.
use mathlib.Core.Path.{◌≡◌, refl, sym, ◌∙◌}
use mathlib.Core.List.{List}
use Prim.Native.Nat.{ℕ, ◌≤◌, ◌<◌}
use native.Mathlib.Omega.{arith}
use lib.Dec.{eqb}
use lib.ListN.{length, set, length-set}
use lib.Seq.{get_or-set_same, get_or-set_other}
use borrow.Author.Tests.{eqb-true, eqb-false}
use Rattle.model.proofs.Base.{case}
use Rattle.branch_marks.specs.Marks.{Filled, Rest}

-- the numbers from n on stay where one below n is set
pub rest_start : {n : ℕ} {t : List ℕ} → Rest n t t
rest_start = record { rest = λ k a. refl; long = refl }

pub rest_set : {n : ℕ} {old new : List ℕ} (i v : ℕ) → Rest n old new → i < n → Rest n old (set new i v)
rest_set {n} {old} {new} i v r l =
    record { rest = λ k a. get_or-set_other new i k v 0 (λ e. omega arith) ∙ r.rest k a; long = length-set new i v ∙ r.long }

-- one number more is set
pub filled_set : {f g : ℕ → ℕ} {n i v : ℕ} {old new : List ℕ} → Filled f n old new → i < n → n ≤ length old
    → g i ≡ v → ((k : ℕ) → k < n → (k ≡ i → ⊥) → g k ≡ f k) → Filled g n old (set new i v)
filled_set {f} {g} {n} {i} {v} {old} {new} h l room e o =
    record {
      first =
          λ k a.
          case (eqb k i)
          (λ d.
          let q : k ≡ i = eqb-true k i d in
          rw q (get_or-set_same new i v 0 (omega (arith, h.long)) ∙ sym e))
          (λ d.
          let ne : k ≡ i → ⊥ = eqb-false k i d in
          get_or-set_other new i k v 0 ne ∙ h.first k a ∙ sym (o k a ne));
      rest = λ k a. get_or-set_other new i k v 0 (λ q. omega arith) ∙ h.rest k a;
      long = length-set new i v ∙ h.long;
    }
