-- Laws of the branches on the way from a moment to the first row. Rows stand newest first.
use Prim.Native.Nat.{ℕ, ◌≤◌}
use mathlib.Core.Path.{◌≡◌, refl, sym, ap, ◌∙◌}
use mathlib.Core.Logic.{inl, inr}
use mathlib.Core.List.{List, [], ◌∷◌, ◌++◌, map}
use mathlib.Core.Bool.{Bool, true, false, false≢true}
use native.Mathlib.Omega.{arith}
use Rattle.model.specs.declared.Branch.{Branch}
use Rattle.model.specs.Store.{keep, any, open_end}
use Rattle.model.specs.Lookup.{holds, ancestry}
use Rattle.model.specs.Step.{closed_at, with_cut, landing}
use Rattle.model.specs.ByNumber.{Link, Chain, Open, SoundRows}
use Rattle.model.proofs.Base.{case, absurd_test, keep_true, keep_false}
use Rattle.model.proofs.Ancestry.{Holds, holds→, →holds, any_cons, any_head, any_tail, held_below}
use Rattle.model.proofs.Settling.{holds_cut, landing_left, landing_gone, landing_skip, left_rows, left_true, left_false, past}
use Rattle.work_orders.specs.Orders.{way_in, orders_in}

pub way_hold : (b : Branch) (bs : List Branch) (t : ℕ) → holds b t ≡ true → way_in (b ∷ bs) t ≡ b ∷ way_in bs b.cut
unfolding way_in ancestry
way_hold b bs t e = rw e

pub way_skip : (b : Branch) (bs : List Branch) (t : ℕ) → holds b t ≡ false → way_in (b ∷ bs) t ≡ way_in bs t
unfolding way_in ancestry
way_skip b bs t e = rw e

pub orders_hold : (b : Branch) (bs : List Branch) (t : ℕ) → holds b t ≡ true → orders_in (b ∷ bs) t ≡ b.order ∷ orders_in bs b.cut
unfolding orders_in
orders_hold b bs t e = rw (way_hold b bs t e)

pub orders_skip : (b : Branch) (bs : List Branch) (t : ℕ) → holds b t ≡ false → orders_in (b ∷ bs) t ≡ orders_in bs t
unfolding orders_in
orders_skip b bs t e = rw (way_skip b bs t e)

-- a row closed at a moment: what its end does not change is the same on every way up to there
pub way_closed : {A : Type 0} (f : Branch → A) (b : Branch) (bs : List Branch) (now t : ℕ) → f (closed_at now b) ≡ f b → t ≤ now → now ≤ b.end
    → map f (way_in (closed_at now b ∷ bs) t) ≡ map f (way_in (b ∷ bs) t)
way_closed {A} f b bs now t q l e =
    case (holds b t)
    (λ h.
    let y : Holds b t = holds→ b t h in
    rw (way_hold (closed_at now b) bs t (→holds (closed_at now b) t y.low l), way_hold b bs t h) (ap (λ (x : A). x ∷ map f (way_in bs b.cut)) q))
    (λ h.
    let n : holds (closed_at now b) t ≡ false =
    case (holds (closed_at now b) t)
    (λ c. let y : Holds (closed_at now b) t = holds→ (closed_at now b) t c in absurd_test (→holds b t y.low (omega (arith, y.high))) h)
    (λ c. c) in
    rw (way_skip (closed_at now b) bs t n, way_skip b bs t h))

-- the newest row is open: moments from now on have one way
pub open_way : (floor now : ℕ) (bs : List Branch) (t : ℕ) → SoundRows floor now bs → now ≤ t → t ≤ open_end → way_in bs t ≡ way_in bs now
open_way floor now [] t h l u = absurd h
open_way floor now (b ∷ bs) t h l u =
    let o : Open now b = h.0 in
    way_hold b bs t (→holds b t (omega arith) (omega arith)) ∙ sym (way_hold b bs now (→holds b now o.begun (omega arith)))

-- the way ends in the first row, whose work order is 0
pub orders_end : (floor : ℕ) (bs : List Branch) (t : ℕ) → Chain floor bs → any (λ d. holds d t) bs ≡ true → (ws : List ℕ) × (orders_in bs t ≡ ws ++ (0 ∷ []))
unfolding any orders_in way_in ancestry
orders_end floor [] t h e = absurd h
orders_end floor (b ∷ []) t h e =
    elim (any_cons b [] t e) [
      | inl d ↦ ([], orders_hold b [] t d ∙ rw h.order)
      | inr d ↦ absurd (false≢true d)
    ]
orders_end floor (b ∷ c ∷ bs) t h e =
    let l : Link floor b c bs = h.0 in
    case (holds b t)
    (λ d.
    let ih : (ws : List ℕ) × (orders_in (c ∷ bs) b.cut ≡ ws ++ (0 ∷ [])) = orders_end floor (c ∷ bs) b.cut h.1 l.parent in
    (b.order ∷ ih.0, orders_hold b (c ∷ bs) t d ∙ ap (λ (x : List ℕ). b.order ∷ x) ih.1))
    (λ d.
    let ih : (ws : List ℕ) × (orders_in (c ∷ bs) t ≡ ws ++ (0 ∷ [])) =
    orders_end floor (c ∷ bs) t h.1 (elim (any_cons b (c ∷ bs) t e) [ inl y ↦ absurd_test y d | inr y ↦ y ]) in
    (ih.0, orders_skip b (c ∷ bs) t d ∙ ih.1))

-- of the rows that are left: a property of the rows on the way that another cut does not change
module _ {A : Type 0} (f : Branch → A) (same : (b : Branch) (t : ℕ) → f (with_cut b t) ≡ f b) (κ : Branch → Bool) (floor : ℕ)
    (first : (b : Branch) → b.start ≡ 0 → κ b ≡ true) where
  -- where a row goes, it is missing, and the others are as they were
  way_left : (b : Branch) (bs : List Branch) (t : ℕ) → Chain floor (b ∷ bs) → any (λ d. holds d t) (b ∷ bs) ≡ true
      → map f (way_in (left_rows κ (b ∷ bs)) (landing κ (b ∷ bs) t)) ≡ map f (keep κ (way_in (b ∷ bs) t))
  unfolding way_in ancestry left_rows any keep
  way_left b [] t h e =
      let k : κ b ≡ true = first b h.start in
      elim (any_cons b [] t e) [
        | inl d ↦ rw (landing_left κ b [] t d k, k, holds_cut b (landing κ [] b.cut) t, d, k) (rw (same b (landing κ [] b.cut)))
        | inr d ↦ absurd (false≢true d)
      ]
  way_left b (c ∷ bs) t h e =
      let l : Link floor b c bs = h.0 in
      let up = way_left c bs b.cut h.1 l.parent in
      let b' : Branch = with_cut b (landing κ (c ∷ bs) b.cut) in
      case (holds b t)
      (λ d.
      case (κ b)
      (λ k.
      rw (
        landing_left κ b (c ∷ bs) t d k,
        left_true κ b (c ∷ bs) k,
        way_hold b' (left_rows κ (c ∷ bs)) t (holds_cut b _ t ∙ d),
        way_hold b (c ∷ bs) t d,
        keep_true κ b (way_in (c ∷ bs) b.cut) k,
        same b (landing κ (c ∷ bs) b.cut),
      )
      (ap (λ (x : List A). f b ∷ x) up))
      (λ k.
      rw (landing_gone κ b (c ∷ bs) t d k, left_false κ b (c ∷ bs) k, way_hold b (c ∷ bs) t d, keep_false κ b (way_in (c ∷ bs) b.cut) k) up))
      (λ d.
      let e' : any (λ x. holds x t) (c ∷ bs) ≡ true = elim (any_cons b (c ∷ bs) t e) [ inl y ↦ absurd_test y d | inr y ↦ y ] in
      let ih = way_left c bs t h.1 e' in
      case (κ b)
      (λ k.
      rw (landing_skip κ b (c ∷ bs) t d, left_true κ b (c ∷ bs) k, way_skip b' (left_rows κ (c ∷ bs)) (landing κ (c ∷ bs) t) (holds_cut b _ _ ∙ past κ floor b c bs t h e'), way_skip b (c ∷ bs) t d) ih)
      (λ k. rw (landing_skip κ b (c ∷ bs) t d, left_false κ b (c ∷ bs) k, way_skip b (c ∷ bs) t d) ih))

  pub way_rows : (bs : List Branch) (t : ℕ) → Chain floor bs → any (λ d. holds d t) bs ≡ true
      → map f (way_in (left_rows κ bs) (landing κ bs t)) ≡ map f (keep κ (way_in bs t))
  way_rows [] t h e = absurd h
  way_rows (b ∷ bs) t h e = way_left b bs t h e

-- what is held by a row left was held, and stays where it is
pub left_held : (κ : Branch → Bool) (bs : List Branch) (t : ℕ) → any (λ d. holds d t) (left_rows κ bs) ≡ true → any (λ d. holds d t) bs ≡ true
unfolding left_rows
left_held κ [] t e = e
left_held κ (b ∷ bs) t e =
    case (κ b)
    (λ k.
    let e' : any (λ d. holds d t) (with_cut b (landing κ bs b.cut) ∷ left_rows κ bs) ≡ true = rw k at e in
    elim (any_cons (with_cut b (landing κ bs b.cut)) (left_rows κ bs) t e') [
      | inl d ↦ any_head b bs t (sym (holds_cut b (landing κ bs b.cut) t) ∙ d)
      | inr d ↦ any_tail b bs t (left_held κ bs t d)
    ])
    (λ k. let e' : any (λ d. holds d t) (left_rows κ bs) ≡ true = rw k at e in any_tail b bs t (left_held κ bs t e'))

pub landing_at : (κ : Branch → Bool) (floor : ℕ) (bs : List Branch) (t : ℕ) → Chain floor bs → any (λ d. holds d t) (left_rows κ bs) ≡ true → landing κ bs t ≡ t
unfolding left_rows any landing
landing_at κ floor [] t h e = refl
landing_at κ floor (b ∷ []) t h e =
    case (holds b t)
    (λ d. case (κ b) (λ k. rw (d, k)) (λ k. absurd (false≢true (rw k at e))))
    (λ d. rw d)
landing_at κ floor (b ∷ c ∷ bs) t h e =
    let l : Link floor b c bs = h.0 in
    case (holds b t)
    (λ d.
    case (κ b)
    (λ k. landing_left κ b (c ∷ bs) t d k)
    (λ k.
    let e' : any (λ x. holds x t) (left_rows κ (c ∷ bs)) ≡ true = rw (left_false κ b (c ∷ bs) k) at e in
    let i : t ≤ c.end = held_below floor c bs t h.1 (left_held κ (c ∷ bs) t e') in
    let y : Holds b t = holds→ b t d in
    absurd (omega (arith, y.low))))
    (λ d.
    let f : any (λ x. holds x t) (left_rows κ (c ∷ bs)) ≡ true =
    case (κ b)
    (λ k.
    elim (any_cons (with_cut b (landing κ (c ∷ bs) b.cut)) (left_rows κ (c ∷ bs)) t (rw (left_true κ b (c ∷ bs) k) at e)) [
      | inl y ↦ absurd_test (sym (holds_cut b (landing κ (c ∷ bs) b.cut) t) ∙ y) d
      | inr y ↦ y
    ])
    (λ k. rw (left_false κ b (c ∷ bs) k) at e) in
    landing_skip κ b (c ∷ bs) t d ∙ landing_at κ floor (c ∷ bs) t h.1 f)
