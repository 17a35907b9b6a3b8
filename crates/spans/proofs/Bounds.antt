-- No row has more leaves than there are events: so sums fit.
use mathlib.Core.Path.{◌≡◌, refl, ap, sym, ◌∙◌}
use mathlib.Core.Logic.{◌⊎◌, inl, inr}
use mathlib.Core.Bool.{cond}
use Prim.Native.Nat.{ℕ, zero, suc, ◌+◌, ◌-◌, ◌≤◌, ◌<◌}
use native.Mathlib.Omega.{arith}
use lib.Dec.{leb, ltb, eqb}
use borrow.Author.Tests.{leb-true, leb-false, ltb-true, ltb-false, eqb-true, eqb-false, le-leb, lt-ltb, le-ltb, eq-eqb, ne_eqb}
use Rattle.model.proofs.Base.{case}

sum : (ℕ → ℕ) → ℕ → ℕ
sum f zero = 0
sum f (suc n) = sum f n + f n

only : ℕ → ℕ → ℕ → ℕ
only x w j = cond (eqb j x) w 0

only_at : (x w : ℕ) → only x w x ≡ w
unfolding only
only_at x w = rw (eq-eqb x x refl)

only_other : (x w j : ℕ) → (j ≡ x → ⊥) → only x w j ≡ 0
unfolding only
only_other x w j z = rw (ne_eqb j x z)

sum_same : (f g : ℕ → ℕ) (n : ℕ) → ((j : ℕ) → j < n → f j ≡ g j) → sum f n ≡ sum g n
unfolding sum
sum_same f g zero h = refl
sum_same f g (suc n) h = rw (sum_same f g n (λ j l. h j (omega arith)), h n (omega arith))

sum_past : (f : ℕ → ℕ) (x w n : ℕ) → n ≤ x → sum (λ j. f j + only x w j) n ≡ sum f n
unfolding sum
sum_past f x w zero l = refl
sum_past f x w (suc n) l = omega (arith, sum_past f x w n (omega arith), only_other x w n (λ z. omega arith))

sum_only : (f : ℕ → ℕ) (x w n : ℕ) → x < n → sum (λ j. f j + only x w j) n ≡ sum f n + w
unfolding sum
sum_only f x w zero l = absurd (omega arith)
sum_only f x w (suc n) l =
    case (eqb x n)
    (λ d.
    let e : x ≡ n = eqb-true x n d in
    let o : only x w n ≡ w = ap (only x w) (sym e) ∙ only_at x w in
    omega (arith, sum_past f x w n (omega arith), o))
    (λ d.
    let e : x ≡ n → ⊥ = eqb-false x n d in
    omega (arith, sum_only f x w n (omega arith), only_other x w n (λ z. e (sym z))))

sum_has : (f : ℕ → ℕ) (n j : ℕ) → j < n → f j ≤ sum f n
unfolding sum
sum_has f zero j l = absurd (omega arith)
sum_has f (suc n) j l =
    case (eqb j n)
    (λ d. rw (eqb-true j n d) (omega arith))
    (λ d. let e : j ≡ n → ⊥ = eqb-false j n d in omega (arith, sum_has f n j (omega arith)))

sum_zero : (f : ℕ → ℕ) (n : ℕ) → ((j : ℕ) → j < n → f j ≡ 0) → sum f n ≡ 0
unfolding sum
sum_zero f zero h = refl
sum_zero f (suc n) h = omega (arith, sum_zero f n (λ j l. h j (omega arith)), h n (omega arith))

-- the sums of the first m of ne events are made
pub record Stage (n ne m : ℕ) (kind row ws we ev P : ℕ → ℕ) : Type 0 where
  pub within : m ≤ ne
  pub seat : (k : ℕ) → k < ne → (row k < n) × (ws (row k) ≤ k) × (k < we (row k))
  pub same : (i k : ℕ) → i < n → ws i ≤ k → k < we i → row k ≡ i
  pub window : (i : ℕ) → i < n → (ws i ≤ we i) × (we i ≤ ne)
  pub child : (k : ℕ) → k < ne → 0 < kind k → (row k < kind k) × (kind k < n) × (ev (kind k) ≡ k)
  pub event : (j : ℕ) → 0 < j → j < n → (ev j < ne) × (kind (ev j) ≡ j)
  pub past : (k : ℕ) → k < ne → 0 < kind k → we (kind k) ≤ k
  pub rises : (k : ℕ) → k < m → P k ≤ P (suc k)
  pub leaf : (k : ℕ) → k < m → kind k ≡ 0 → P (suc k) ≡ P k + 1
  pub inner : (k : ℕ) → k < m → 0 < kind k → P (suc k) + P (ws (kind k)) ≡ P k + P (we (kind k))

clip : ℕ → ℕ → ℕ
clip a k = cond (leb a k) a k

clip_low : (a k : ℕ) → a ≤ k → clip a k ≡ a
unfolding clip
clip_low a k l = rw (le-leb a k l)

clip_high : (a k : ℕ) → k ≤ a → clip a k ≡ k
unfolding clip
clip_high a k l =
    case (leb a k)
    (λ d. let z : a ≡ k = omega (arith, leb-true a k d) in rw d z)
    (λ d. rw d)

module _ {n ne m : ℕ} {kind row ws we ev P : ℕ → ℕ} (f : Stage n ne m kind row ws we ev P) where
  stage_rising : (a b : ℕ) → a ≤ b → b ≤ m → P a ≤ P b
  stage_rising a zero l h = let e : a ≡ 0 = omega arith in rw e (omega arith)
  stage_rising a (suc b) l h =
      case (eqb a (suc b))
      (λ d. rw (eqb-true a (suc b) d) (omega arith))
      (λ d.
      let z : a ≡ suc b → ⊥ = eqb-false a (suc b) d in
      omega (arith, stage_rising a b (omega arith) (omega arith), f.rises b (omega arith)))

-- where a row hangs; the first nowhere
hook : ℕ → (ℕ → ℕ) → ℕ → ℕ
hook ne ev j = cond (eqb j 0) ne (ev j)

-- the leaves of the row j below its events before k, while the row does not hang from one of these
share : ℕ → (ws we ev P : ℕ → ℕ) → ℕ → ℕ → ℕ
share ne ws we ev P k j = cond (ltb (hook ne ev j) k) 0 (P (clip (we j) k) - P (clip (ws j) k))

share_taken : (ne : ℕ) (ws we ev P : ℕ → ℕ) (k j : ℕ) → hook ne ev j < k → share ne ws we ev P k j ≡ 0
unfolding share
share_taken ne ws we ev P k j l = rw (lt-ltb (hook ne ev j) k l)

share_free : (ne : ℕ) (ws we ev P : ℕ → ℕ) (k j : ℕ) → k ≤ hook ne ev j → share ne ws we ev P k j ≡ P (clip (we j) k) - P (clip (ws j) k)
unfolding share
share_free ne ws we ev P k j l = rw (le-ltb (hook ne ev j) k l)

hook_first : (ne : ℕ) (ev : ℕ → ℕ) → hook ne ev 0 ≡ ne
unfolding hook
hook_first ne ev = refl

hook_other : (ne : ℕ) (ev : ℕ → ℕ) (j : ℕ) → 0 < j → hook ne ev j ≡ ev j
unfolding hook
hook_other ne ev j l = rw (ne_eqb j 0 (λ (z : j ≡ 0). omega arith))

module _ {n ne m : ℕ} {kind row ws we ev P : ℕ → ℕ} (f : Stage n ne m kind row ws we ev P) where
  abbrev T : ℕ → ℕ → ℕ
  T = share ne ws we ev P

  module _ (k : ℕ) (l : k < m) where
    -- its own row gains
    gain : T (suc k) (row k) ≡ T k (row k) + (P (suc k) - P k)
    gain =
        let s = f.seat k (omega (arith, f.within)) in
        let z : suc k ≤ hook ne ev (row k) =
        case (eqb (row k) 0)
        (λ d. rw (eqb-true (row k) 0 d, hook_first ne ev) (omega (arith, f.within)))
        (λ d.
        let p : row k ≡ 0 → ⊥ = eqb-false (row k) 0 d in
        let v = f.event (row k) (omega arith) s.0 in
        let w : we (kind (ev (row k))) ≤ ev (row k) = f.past (ev (row k)) v.0 (omega (arith, v.1)) in
        let w' : we (row k) ≤ ev (row k) = rw v.1 at w in
        rw (hook_other ne ev (row k) (omega arith)) (omega (arith, s.2))) in
        let a = share_free ne ws we ev P (suc k) (row k) z in
        let b = share_free ne ws we ev P k (row k) (omega (arith, z)) in
        let c₁ = ap P (clip_high (we (row k)) (suc k) s.2) in
        let c₂ = ap P (clip_low (ws (row k)) (suc k) (omega (arith, s.1))) in
        let c₃ = ap P (clip_high (we (row k)) k (omega (arith, s.2))) in
        let c₄ = ap P (clip_low (ws (row k)) k s.1) in
        omega (arith, a, b, c₁, c₂, c₃, c₄, stage_rising f (ws (row k)) k s.1 (omega arith), f.rises k l)

    -- the row that hangs there loses what it had
    loss : 0 < kind k → (T k (kind k) ≡ P (suc k) - P k) × (T (suc k) (kind k) ≡ 0)
    loss z =
        let c = f.child k (omega (arith, f.within)) z in
        let e : hook ne ev (kind k) ≡ k = hook_other ne ev (kind k) z ∙ c.2 in
        let p = f.past k (omega (arith, f.within)) z in
        let w = f.window (kind k) c.1 in
        let b = share_free ne ws we ev P k (kind k) (omega (arith, e)) in
        let c₁ = ap P (clip_low (we (kind k)) k p) in
        let c₂ = ap P (clip_low (ws (kind k)) k (omega (arith, w.0))) in
        (omega (arith, b, c₁, c₂, f.inner k l z, stage_rising f (ws (kind k)) (we (kind k)) w.0 (omega arith)), share_taken ne ws we ev P (suc k) (kind k) (omega (arith, e)))

    -- no other row changes
    stay : (j : ℕ) → j < n → (j ≡ row k → ⊥) → (j ≡ kind k → ⊥) ⊎ (j ≡ 0) → T (suc k) j ≡ T k j
    stay j i z y =
        let h : hook ne ev j ≡ k → ⊥ =
        λ d.
        case (eqb j 0)
        (λ x. let x' : ne ≡ k = sym (ap (hook ne ev) (eqb-true j 0 x) ∙ hook_first ne ev) ∙ d in omega (arith, x', f.within))
        (λ x.
        let x' : j ≡ 0 → ⊥ = eqb-false j 0 x in
        let v = f.event j (omega arith) i in
        let q : ev j ≡ k = sym (hook_other ne ev j (omega arith)) ∙ d in
        let u : j ≡ kind k = sym v.1 ∙ ap kind q in
        elim y [ inl g ↦ g u | inr g ↦ x' g ]) in
        case (ltb (hook ne ev j) k)
        (λ d. let d' = ltb-true (hook ne ev j) k d in share_taken ne ws we ev P (suc k) j (omega arith) ∙ sym (share_taken ne ws we ev P k j d'))
        (λ d.
        let d' = ltb-false (hook ne ev j) k d in
        let w = f.window j i in
        share_free ne ws we ev P (suc k) j (omega arith)
        ∙ (case (leb (we j) k)
        (λ x.
        let x' = leb-true (we j) k x in
        rw (clip_low (we j) (suc k) (omega arith), clip_low (ws j) (suc k) (omega (arith, w.0)), clip_low (we j) k x', clip_low (ws j) k (omega (arith, w.0))))
        (λ x.
        let x' = leb-false (we j) k x in
        let g : k < ws j = case (ltb k (ws j)) (λ t. ltb-true k (ws j) t) (λ t. absurd (z (sym (f.same j k i (ltb-false k (ws j) t) x')))) in
        let c₁ = ap P (clip_high (we j) (suc k) x') in
        let c₂ = ap P (clip_high (ws j) (suc k) g) in
        let c₃ = ap P (clip_high (we j) k (omega arith)) in
        let c₄ = ap P (clip_high (ws j) k (omega arith)) in
        omega (arith, c₁, c₂, c₃, c₄))
        ∙ sym (share_free ne ws we ev P k j d')))

  total : (k : ℕ) → k ≤ m → sum (T k) n ≤ k
  total zero l =
      let e : sum (T 0) n ≡ 0 =
      sum_zero (T 0) n (λ j i. share_free ne ws we ev P 0 j (omega arith) ∙ (let c₁ = ap P (clip_high (we j) 0 (omega arith)) in let c₂ = ap P (clip_high (ws j) 0 (omega arith)) in omega (arith, c₁, c₂))) in
      omega (arith, e)
  total (suc k) l =
      let ih = total k (omega arith) in
      let s = f.seat k (omega (arith, f.within)) in
      let w : ℕ = P (suc k) - P k in
      let g = gain k l in
      case (eqb (kind k) 0)
      (λ d.
      let z : kind k ≡ 0 = eqb-true (kind k) 0 d in
      let e : sum (T (suc k)) n ≡ sum (λ j. T k j + only (row k) w j) n =
      sum_same (T (suc k)) (λ j. T k j + only (row k) w j) n
      (λ j i.
      case (eqb j (row k))
      (λ y. rw (eqb-true j (row k) y) (omega (arith, g, only_at (row k) w)))
      (λ y.
      let y' : j ≡ row k → ⊥ = eqb-false j (row k) y in
      let t = stay k l j i y' (case (eqb j 0) (λ x. inr (eqb-true j 0 x)) (λ x. let x' : j ≡ 0 → ⊥ = eqb-false j 0 x in inl (λ q. x' (q ∙ z)))) in
      omega (arith, t, only_other (row k) w j y'))) in
      omega (arith, e, sum_only (T k) (row k) w n s.0, f.leaf k l z))
      (λ d.
      let z : kind k ≡ 0 → ⊥ = eqb-false (kind k) 0 d in
      let c = f.child k (omega (arith, f.within)) (omega arith) in
      let o = loss k l (omega arith) in
      let e : sum (λ j. T (suc k) j + only (kind k) w j) n ≡ sum (λ j. T k j + only (row k) w j) n =
      sum_same (λ j. T (suc k) j + only (kind k) w j) (λ j. T k j + only (row k) w j) n
      (λ j i.
      case (eqb j (row k))
      (λ y.
      let y' : j ≡ row k = eqb-true j (row k) y in
      let q : row k ≡ kind k → ⊥ = λ x. omega (arith, c.0) in
      rw y' (omega (arith, g, only_at (row k) w, only_other (kind k) w (row k) q)))
      (λ y.
      let y' : j ≡ row k → ⊥ = eqb-false j (row k) y in
      case (eqb j (kind k))
      (λ x.
      let x' : j ≡ kind k = eqb-true j (kind k) x in
      let q : kind k ≡ row k → ⊥ = λ x. omega (arith, c.0) in
      rw x' (omega (arith, o.0, o.1, only_at (kind k) w, only_other (row k) w (kind k) q)))
      (λ x.
      let x' : j ≡ kind k → ⊥ = eqb-false j (kind k) x in
      omega (arith, stay k l j i y' (inl x'), only_other (row k) w j y', only_other (kind k) w j x')))) in
      omega (arith, e, sum_only (T k) (row k) w n s.0, sum_only (T (suc k)) (kind k) w n c.1))

  -- the row that hangs at the next event
  pub next_small : m < ne → 0 < kind m → P (we (kind m)) ≤ P (ws (kind m)) + m
  next_small l z =
      let c = f.child m l z in
      let w = f.window (kind m) c.1 in
      let p = f.past m l z in
      let e : hook ne ev (kind m) ≡ m = hook_other ne ev (kind m) z ∙ c.2 in
      let b = share_free ne ws we ev P m (kind m) (omega (arith, e)) in
      let c₁ = ap P (clip_low (we (kind m)) m p) in
      let c₂ = ap P (clip_low (ws (kind m)) m (omega (arith, w.0))) in
      omega (arith, b, c₁, c₂, sum_has (T m) n (kind m) c.1, total m (omega arith))

  -- the first row, at the end
  pub first_small : m ≡ ne → 0 < n → P (we 0) ≤ P (ws 0) + ne
  first_small e z =
      let w = f.window 0 z in
      let b = share_free ne ws we ev P m 0 (rw (hook_first ne ev) (omega arith)) in
      let c₁ = ap P (clip_low (we 0) m (omega (arith, w.1))) in
      let c₂ = ap P (clip_low (ws 0) m (omega (arith, w.0, w.1))) in
      omega (arith, b, c₁, c₂, sum_has (T m) n 0 z, total m (omega arith))
