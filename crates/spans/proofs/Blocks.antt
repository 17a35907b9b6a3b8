-- Events in rows, each a leaf or the place where a further row hangs, and the numbers that they give to the leaves.
use mathlib.Core.Path.{◌≡◌, refl, ap, sym, ◌∙◌}
use mathlib.Core.Logic.{◌⊎◌, inl, inr}
use Prim.Native.Nat.{ℕ, zero, suc, ◌+◌, ◌≤◌, ◌<◌}
use native.Mathlib.Omega.{arith}
use lib.Dec.{ltb, leb, eqb}
use borrow.Author.Tests.{leb-true, leb-false, ltb-true, ltb-false, eqb-true, eqb-false}
use Rattle.model.proofs.Base.{case}

-- ne events in n rows. A row's events stand from ws to we; kind 0 is a leaf, kind j the place of the row j, which is the event ev j.
-- P counts the leaves below the events before one; pre is the number of a row's first leaf
pub record Frame (n ne : ℕ) (kind row ws we ev P pre : ℕ → ℕ) : Type 0 where
  pub seat : (k : ℕ) → k < ne → (row k < n) × (ws (row k) ≤ k) × (k < we (row k))
  pub same : (i k : ℕ) → i < n → ws i ≤ k → k < we i → row k ≡ i
  pub window : (i : ℕ) → i < n → (ws i ≤ we i) × (we i ≤ ne)
  pub child : (k : ℕ) → k < ne → 0 < kind k → (row k < kind k) × (kind k < n) × (ev (kind k) ≡ k)
  pub event : (j : ℕ) → 0 < j → j < n → (ev j < ne) × (kind (ev j) ≡ j)
  pub rises : (k : ℕ) → k < ne → P k ≤ P (suc k)
  pub leaf : (k : ℕ) → k < ne → kind k ≡ 0 → P (suc k) ≡ P k + 1
  pub inner : (k : ℕ) → k < ne → 0 < kind k → P (suc k) + P (ws (kind k)) ≡ P k + P (we (kind k))
  pub next : (j : ℕ) → 0 < j → j < n → pre j + P (ws (row (ev j))) ≡ pre (row (ev j)) + P (ev j)

-- the way of an event up the rows passes an event
pub data On (row ev : ℕ → ℕ) : ℕ → ℕ → Type 0 where
  here : {e : ℕ} → On row ev e e
  up : {e q : ℕ} → 0 < row e → On row ev (ev (row e)) q → On row ev e q

module _ {n ne : ℕ} {kind row ws we ev P pre : ℕ → ℕ} (f : Frame n ne kind row ws we ev P pre) where
  pub rising : (a b : ℕ) → a ≤ b → b ≤ ne → P a ≤ P b
  rising a zero l h = let e : a ≡ 0 = omega arith in rw e (omega arith)
  rising a (suc b) l h =
      case (eqb a (suc b))
      (λ d. rw (eqb-true a (suc b) d) (omega arith))
      (λ d.
      let z : a ≡ suc b → ⊥ = eqb-false a (suc b) d in
      omega (arith, rising a b (omega arith) (omega arith), f.rises b (omega arith)))

  on_kind : {e q : ℕ} → On row ev e q → e < ne → 0 < kind q → (e ≡ q) ⊎ (kind q ≤ row e)
  on_kind here l z = inl refl
  on_kind {e} {q} (up y o) l z =
      let v = f.event (row e) y (f.seat e l).0 in
      let c = f.child (ev (row e)) v.0 (omega (arith, v.1)) in
      elim (on_kind o v.0 z) [
        | inl d ↦ (let w : kind q ≡ row e = ap kind (sym d) ∙ v.1 in inr (omega arith))
        | inr d ↦ inr (omega (arith, d, c.0, v.1))
      ]

  on_leaf : {e q : ℕ} → On row ev e q → e < ne → kind q ≡ 0 → e ≡ q
  on_leaf here l z = refl
  on_leaf {e} {q} (up y o) l z =
      let v = f.event (row e) y (f.seat e l).0 in
      let d : ev (row e) ≡ q = on_leaf o v.0 z in
      let w : kind q ≡ row e = ap kind (sym d) ∙ v.1 in
      absurd (omega arith)

  on_more : {e q : ℕ} → On row ev e q → 0 < row q → On row ev e (ev (row q))
  on_more here z = up z here
  on_more (up y o) z = up y (on_more o z)

-- p is the number of a leaf below the event k
pub record Block (row ws P pre : ℕ → ℕ) (k p : ℕ) : Type 0 where
  pub low : pre (row k) + P k ≤ p + P (ws (row k))
  pub high : p + P (ws (row k)) < pre (row k) + P (suc k)

-- p is the number of a leaf below the events of the row i before c
pub record Span (ws P pre : ℕ → ℕ) (i c p : ℕ) : Type 0 where
  pub low : pre i ≤ p
  pub high : p + P (ws i) < pre i + P c

-- the leaf of a number
pub record Leaf (ne : ℕ) (kind row ws ev P pre : ℕ → ℕ) (i c p : ℕ) : Type 0 where
  pub event : ℕ
  pub inside : event < ne
  pub leaf : kind event ≡ 0
  pub block : Block row ws P pre event p
  pub stop : ℕ
  pub from : ws i ≤ stop
  pub to : stop < c
  pub on : On row ev event stop

module _ {n ne : ℕ} {kind row ws we ev P pre : ℕ → ℕ} (f : Frame n ne kind row ws we ev P pre) where
  block_up : (k p : ℕ) → k < ne → 0 < row k → Block row ws P pre k p → Block row ws P pre (ev (row k)) p
  block_up k p l z b =
      let s = f.seat k l in
      let v = f.event (row k) z s.0 in
      let q = f.inner (ev (row k)) v.0 (omega (arith, v.1)) in
      let q' : P (suc (ev (row k))) + P (ws (row k)) ≡ P (ev (row k)) + P (we (row k)) = rw v.1 at q in
      let x = f.next (row k) z s.0 in
      let y = rising f (ws (row k)) k s.1 (omega arith) in
      let w = rising f (suc k) (we (row k)) s.2 (f.window (row k) s.0).1 in
      record { low = omega (arith, b.low, x, y); high = omega (arith, b.high, x, q', w) }

  pub block_on : {e q : ℕ} → On row ev e q → (p : ℕ) → e < ne → Block row ws P pre e p → Block row ws P pre q p
  block_on here p l b = b
  block_on {e} {q} (up y o) p l b = block_on o p (f.event (row e) y (f.seat e l).0).0 (block_up e p l y b)

  -- the event of the row in whose block a number is
  split : (i c p : ℕ) → i < n → ws i ≤ c → c ≤ we i → Span ws P pre i c p → (q : ℕ) × (ws i ≤ q) × (q < c) × Block row ws P pre q p
  split i zero p l a b s = let e : ws i ≡ 0 = omega arith in absurd (omega (arith, s.low, s.high, ap P e))
  split i (suc c) p l a b s =
      case (leb (pre i + P c) (p + P (ws i)))
      (λ d.
      let z = leb-true (pre i + P c) (p + P (ws i)) d in
      case (eqb (ws i) (suc c))
      (λ x. absurd (omega (arith, s.low, s.high, ap P (eqb-true (ws i) (suc c) x))))
      (λ x.
      let ne' : ws i ≡ suc c → ⊥ = eqb-false (ws i) (suc c) x in
      let e : row c ≡ i = f.same i c l (omega arith) (omega arith) in
      (c, omega arith, omega arith, record { low = rw e z; high = rw e s.high })))
      (λ d.
      let z = leb-false (pre i + P c) (p + P (ws i)) d in
      case (eqb (ws i) (suc c))
      (λ x. absurd (omega (arith, s.low, s.high, ap P (eqb-true (ws i) (suc c) x))))
      (λ x.
      let ne' : ws i ≡ suc c → ⊥ = eqb-false (ws i) (suc c) x in
      let r = split i c p l (omega arith) (omega arith) (record { low = s.low; high = z }) in
      (r.0, r.1, omega (arith, r.2), r.3)))

  -- of two events whose blocks meet, one is on the way of the other
  cross : (m e g p : ℕ) → row e + row g < m → e < ne → g < ne → Block row ws P pre e p → Block row ws P pre g p → On row ev e g ⊎ On row ev g e
  cross zero e g p l i j a b = absurd (omega arith)
  cross (suc m) e g p l i j a b =
      case (ltb (row e) (row g))
      (λ d.
      let z : row e < row g = ltb-true (row e) (row g) d in
      let v = f.event (row g) (omega arith) (f.seat g j).0 in
      let c = f.child (ev (row g)) v.0 (omega (arith, v.1)) in
      elim (cross m e (ev (row g)) p (omega (arith, c.0, v.1)) i v.0 a (block_up g p j (omega arith) b)) [
        | inl o ↦
            elim (on_kind f o i (omega (arith, v.1))) [
              | inl q ↦ inr (up (omega arith) (rw q here))
              | inr q ↦ absurd (omega (arith, q, v.1))
            ]
        | inr o ↦ inr (up (omega arith) o)
      ])
      (λ d.
      case (ltb (row g) (row e))
      (λ d'.
      let z : row g < row e = ltb-true (row g) (row e) d' in
      let v = f.event (row e) (omega arith) (f.seat e i).0 in
      let c = f.child (ev (row e)) v.0 (omega (arith, v.1)) in
      elim (cross m g (ev (row e)) p (omega (arith, c.0, v.1)) j v.0 b (block_up e p i (omega arith) a)) [
        | inl o ↦
            elim (on_kind f o j (omega (arith, v.1))) [
              | inl q ↦ inl (up (omega arith) (rw q here))
              | inr q ↦ absurd (omega (arith, q, v.1))
            ]
        | inr o ↦ inl (up (omega arith) o)
      ])
      (λ d'.
      let r : row e ≡ row g = omega (arith, ltb-false (row e) (row g) d, ltb-false (row g) (row e) d') in
      let a' = ap pre r in
      let w' : P (ws (row e)) ≡ P (ws (row g)) = ap (λ (x : ℕ). P (ws x)) r in
      let q : e ≡ g =
      case (ltb e g)
      (λ x. let x' : e < g = ltb-true e g x in absurd (omega (arith, rising f (suc e) g x' (omega arith), a.high, b.low)))
      (λ x.
      case (ltb g e)
      (λ y. let y' : g < e = ltb-true g e y in absurd (omega (arith, rising f (suc g) e y' (omega arith), b.high, a.low)))
      (λ y. omega (arith, ltb-false e g x, ltb-false g e y))) in
      inl (rw q here)))

  -- a leaf of the row that hangs at q is a leaf below q
  hang : (i c p q : ℕ) → ws i ≤ q → q < c → q < ne → 0 < kind q → Leaf ne kind row ws ev P pre (kind q) (we (kind q)) p → Leaf ne kind row ws ev P pre i c p
  hang i c p q a b j z t =
      let k = f.child q j z in
      let g : row t.stop ≡ kind q = f.same (kind q) t.stop k.1 t.from t.to in
      let w : ev (row t.stop) ≡ q = ap ev g ∙ k.2 in
      let o : On row ev t.event (ev (row t.stop)) = on_more f t.on (omega (arith, g)) in
      record { event = t.event; inside = t.inside; leaf = t.leaf; block = t.block; stop = q; from = a; to = b; on = rw w at o }

  -- each number of a span is that of a leaf
  pub descend : (m i c p : ℕ) → n ≤ m + i → i < n → ws i ≤ c → c ≤ we i → Span ws P pre i c p → Leaf ne kind row ws ev P pre i c p
  descend zero i c p h l a b s = absurd (omega arith)
  descend (suc m) i c p h l a b s =
      let r = split i c p l a b s in
      let q : ℕ = r.0 in
      let w = f.window i l in
      let x : row q ≡ i = f.same i q l r.1 (omega (arith, r.2)) in
      let j : q < ne = omega (arith, r.2, w.1) in
      case (eqb (kind q) 0)
      (λ d. record { event = q; inside = j; leaf = eqb-true (kind q) 0 d; block = r.3; stop = q; from = r.1; to = r.2; on = here })
      (λ d.
      let z : kind q ≡ 0 → ⊥ = eqb-false (kind q) 0 d in
      let k = f.child q j (omega arith) in
      let y : pre (kind q) + P (ws (row (ev (kind q)))) ≡ pre (row (ev (kind q))) + P (ev (kind q)) = f.next (kind q) (omega arith) k.1 in
      let y' : pre (kind q) + P (ws (row q)) ≡ pre (row q) + P q = rw k.2 at y in
      let u = f.inner q j (omega arith) in
      let v = f.window (kind q) k.1 in
      hang i c p q r.1 r.2 j (omega arith)
      (descend m (kind q) (we (kind q)) p (omega (arith, k.0, x)) k.1 v.0 (omega arith) (record { low = omega (arith, y', r.3.low); high = omega (arith, y', u, r.3.high) })))

  -- a leaf whose number is in a span is below one of the span's events
  pub leaf_in : (e i c p : ℕ) → e < ne → kind e ≡ 0 → Block row ws P pre e p → i < n → ws i ≤ c → c ≤ we i → Span ws P pre i c p
      → (q : ℕ) × (ws i ≤ q) × (q < c) × On row ev e q
  leaf_in e i c p l z b h x y s =
      let r = split i c p h x y s in
      let j : r.0 < ne = omega (arith, r.2, (f.window i h).1) in
      elim (cross (suc (row e + row r.0)) e r.0 p (omega arith) l j b r.3) [
        | inl o ↦ (r.0, r.1, r.2, o)
        | inr o ↦ (let d : r.0 ≡ e = on_leaf f o j z in (r.0, r.1, r.2, rw d here))
      ]

  pub in_leaf : (e q i c p : ℕ) → e < ne → i < n → ws i ≤ q → q < c → c ≤ we i → On row ev e q → Block row ws P pre e p → Span ws P pre i c p
  in_leaf e q i c p l h a b d o k =
      let w = f.window i h in
      let r : row q ≡ i = f.same i q h a (omega arith) in
      let g : Block row ws P pre q p = block_on o p l k in
      let g₁ : pre i + P q ≤ p + P (ws i) = rw r at g.low in
      let g₂ : p + P (ws i) < pre i + P (suc q) = rw r at g.high in
      record { low = omega (arith, g₁, rising f (ws i) q a (omega (arith, w.1))); high = omega (arith, g₂, rising f (suc q) c b (omega (arith, w.1))) }
