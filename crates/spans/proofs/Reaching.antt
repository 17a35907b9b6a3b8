-- The laws of what a lookup sees: an order on moments in which those that one moment sees form a line.
use mathlib.Core.Path.{◌≡◌, refl, ap, sym, ◌∙◌}
use mathlib.Core.Logic.{◌⊎◌, inl, inr}
use mathlib.Core.List.{List}
use mathlib.Core.Bool.{true, false, ◌&&◌}
use Prim.Native.Nat.{ℕ, zero, suc, ◌≤◌, ◌<◌}
use native.Mathlib.Omega.{arith}
use lib.Dec.{leb, eqb}
use borrow.Author.Tests.{leb-true, le-leb, eqb-true, eqb-false}
use Rattle.model.specs.declared.Branch.{Branch}
use Rattle.model.specs.Lookup.{holds}
use Rattle.model.proofs.Base.{case, and→, or→, →or₂, absurd_test}
use Rattle.model.proofs.Ancestry.{Holds, holds→, →holds, not_holds}
use Rattle.model.specs.ByNumber.{branch, Line}
use Rattle.spans.specs.Reach.{reach}

-- the row r of the first k holds m
pub record Row (bs : List Branch) (k m : ℕ) : Type 0 where
  pub row : ℕ
  pub inside : row < k
  pub low : (branch bs row).start ≤ m
  pub high : m ≤ (branch bs row).end

module _ (bs : List Branch) (k t m : ℕ) where
  pub reach_own : holds (branch bs k) t ≡ true → (branch bs k).start ≤ m → m ≤ t → reach bs (suc k) t m ≡ true
  unfolding reach
  reach_own d a b = rw (d, le-leb (branch bs k).start m a, le-leb m t b)

  pub reach_next : holds (branch bs k) t ≡ true → reach bs k (branch bs k).cut m ≡ true → reach bs (suc k) t m ≡ true
  unfolding reach
  reach_next d e = rw d (→or₂ (leb (branch bs k).start m && leb m t) e)

  pub reach_skip : holds (branch bs k) t ≡ false → reach bs (suc k) t m ≡ reach bs k t m
  unfolding reach
  reach_skip d = rw d

  pub reach→ : holds (branch bs k) t ≡ true → reach bs (suc k) t m ≡ true → (((branch bs k).start ≤ m) × (m ≤ t)) ⊎ (reach bs k (branch bs k).cut m ≡ true)
  unfolding reach
  reach→ d e =
      elim (or→ (leb (branch bs k).start m && leb m t) (reach bs k (branch bs k).cut m) (rw d at e)) [
        | inl y ↦
            let z = and→ (leb (branch bs k).start m) (leb m t) y in
            inl (leb-true (branch bs k).start m z.0, leb-true m t z.1)
        | inr y ↦ inr y
      ]

pub reach_none : (bs : List Branch) (t m : ℕ) → reach bs 0 t m ≡ false
unfolding reach
reach_none bs t m = refl

-- what is seen was written in a row
pub reach_row : (bs : List Branch) (k t m : ℕ) → reach bs k t m ≡ true → Row bs k m
reach_row bs zero t m e = absurd_test e (reach_none bs t m)
reach_row bs (suc k) t m e =
    let up : Row bs k m → Row bs (suc k) m = λ r. record { row = r.row; inside = omega (arith, r.inside); low = r.low; high = r.high } in
    case (holds (branch bs k) t)
    (λ d.
    elim (reach→ bs k t m d e) [
      | inl y ↦ record { row = k; inside = omega arith; low = y.0; high = omega (arith, y.1, (holds→ (branch bs k) t d).high) }
      | inr y ↦ up (reach_row bs k (branch bs k).cut m y)
    ])
    (λ d. up (reach_row bs k t m (sym (reach_skip bs k t m d) ∙ e)))

module _ {bs : List Branch} {n : ℕ} (h : Line bs n) where
  row_below : (k m : ℕ) → k < n → Row bs k m → m < (branch bs k).start
  row_below k m l r = omega (arith, r.high, h.stairs.apart r.row k r.inside l)

  pub reach_below : (k t m : ℕ) → k < n → reach bs k t m ≡ true → m < (branch bs k).start
  reach_below k t m l e = row_below k m l (reach_row bs k t m e)

  -- a moment that is seen from below the row k is none of that row's
  reach_aside : (k t m : ℕ) → k < n → reach bs k t m ≡ true → holds (branch bs k) m ≡ false
  reach_aside k t m l e = not_holds (branch bs k) m (reach_below k t m l e)

  pub reach_trans : (k t u m : ℕ) → k ≤ n → reach bs k t u ≡ true → reach bs k u m ≡ true → reach bs k t m ≡ true
  reach_trans zero t u m l e f = absurd_test e (reach_none bs t u)
  reach_trans (suc k) t u m l e f =
      let ih : (s : ℕ) → reach bs k s u ≡ true → reach bs k s m ≡ true =
      λ s g. reach_trans k s u m (omega arith) g (sym (reach_skip bs k u m (reach_aside k s u (omega arith) g)) ∙ f) in
      case (holds (branch bs k) t)
      (λ d.
      elim (reach→ bs k t u d e) [
        | inl y ↦
            let i : Holds (branch bs k) t = holds→ (branch bs k) t d in
            elim (reach→ bs k u m (→holds (branch bs k) u y.0 (omega (arith, y.1, i.high))) f) [
              | inl z ↦ reach_own bs k t m d z.0 (omega (arith, z.1, y.1))
              | inr z ↦ reach_next bs k t m d z
            ]
        | inr y ↦ reach_next bs k t m d (ih (branch bs k).cut y)
      ])
      (λ d. reach_skip bs k t m d ∙ ih t (sym (reach_skip bs k t u d) ∙ e))

  pub reach_line : (k t u m : ℕ) → k ≤ n → reach bs k t u ≡ true → reach bs k t m ≡ true → m ≤ u → reach bs k u m ≡ true
  reach_line zero t u m l e f o = absurd_test e (reach_none bs t u)
  reach_line (suc k) t u m l e f o =
      let ih : (s : ℕ) → reach bs k s u ≡ true → reach bs k s m ≡ true → reach bs (suc k) u m ≡ true =
      λ s g j. reach_skip bs k u m (reach_aside k s u (omega arith) g) ∙ reach_line k s u m (omega arith) g j o in
      case (holds (branch bs k) t)
      (λ d.
      let i : Holds (branch bs k) t = holds→ (branch bs k) t d in
      elim (reach→ bs k t u d e) [
        | inl y ↦
            let hu : holds (branch bs k) u ≡ true = →holds (branch bs k) u y.0 (omega (arith, y.1, i.high)) in
            elim (reach→ bs k t m d f) [
              | inl z ↦ reach_own bs k u m hu z.0 o
              | inr z ↦ reach_next bs k u m hu z
            ]
        | inr y ↦
            elim (reach→ bs k t m d f) [
              | inl z ↦ absurd (omega (arith, reach_below k (branch bs k).cut u (omega arith) y, z.0))
              | inr z ↦ ih (branch bs k).cut y z
            ]
      ])
      (λ d. ih t (sym (reach_skip bs k t u d) ∙ e) (sym (reach_skip bs k t m d) ∙ f))

  -- newer rows do not matter to a moment that an older one holds
  pub reach_down : (k t r m : ℕ) → k ≤ n → r < k → (branch bs r).start ≤ t → t ≤ (branch bs r).end → reach bs k t m ≡ reach bs (suc r) t m
  reach_down zero t r m l i a b = absurd (omega arith)
  reach_down (suc k) t r m l i a b =
      case (eqb r k)
      (λ e. ap (λ (q : ℕ). reach bs (suc q) t m) (sym (eqb-true r k e)))
      (λ e.
      let ne : r ≡ k → ⊥ = eqb-false r k e in
      let j : r < k = omega arith in
      reach_skip bs k t m (not_holds (branch bs k) t (omega (arith, h.stairs.apart r k j (omega arith))))
      ∙ reach_down k t r m (omega arith) j a b)
