-- Laws of `latest`, and of the first record found along a ancestry.
use Prim.Native.Nat.{ℕ, ◌≤◌, ◌<◌}
use mathlib.Core.Path.{◌≡◌, refl, sym, ◌∙◌}
use mathlib.Core.Logic.{◌⊎◌, inl, inr}
use mathlib.Core.List.{List, [], ◌∷◌, ◌++◌}
use mathlib.Core.Option.{Option, some, none}
use mathlib.Core.Bool.{Bool, true, false, ◌&&◌}
use native.Mathlib.Omega.{arith}
use lib.Dec.{leb, ltb, eqb}
use borrow.Author.Tests.{ltb-true, leb-true, eqb-true, lt-ltb, le-ltb, le-leb, eq-eqb}
use Rattle.model.specs.declared.Record.{Record}
use Rattle.model.specs.Store.{keep, ◌∈◌}
use Rattle.model.specs.Lookup.{Stage, within, or_else, latest, first_found}
use Rattle.model.specs.Soundness.{precedes}
use Rattle.model.specs.ByNumber.{Asc}
use Rattle.model.proofs.Base.{case, and→, →and, or→}

pub case_option : {A C : Type 0} (o : Option A) → (o ≡ none → C) → ((x : A) → o ≡ some x → C) → C
case_option none f g = f refl
case_option (some x) f g = g x refl

pub or_else→ : {A : Type 0} (o p : Option A) (x : A) → or_else o p ≡ some x → (o ≡ some x) ⊎ (p ≡ some x)
or_else→ none p x e = inr e
or_else→ (some y) p x e = inl e

-- a record is at the address, from lo to hi
pub record Within (a lo hi : ℕ) (r : Record) : Type 0 where
  pub at : r.address ≡ a
  pub low : lo ≤ r.moment
  pub high : r.moment ≤ hi

pub within→ : (a lo hi : ℕ) (r : Record) → within a lo hi r ≡ true → Within a lo hi r
unfolding within
within→ a lo hi r e =
    let p : (eqb r.address a ≡ true) × ((leb lo r.moment && leb r.moment hi) ≡ true) = and→ _ _ e in
    let q : (leb lo r.moment ≡ true) × (leb r.moment hi ≡ true) = and→ _ _ p.1 in
    record { at = eqb-true _ _ p.0; low = leb-true _ _ q.0; high = leb-true _ _ q.1 }

pub →within : (a lo hi : ℕ) (r : Record) → Within a lo hi r → within a lo hi r ≡ true
unfolding within
→within a lo hi r w = →and (eq-eqb _ _ w.at) (→and (le-leb _ _ w.low) (le-leb _ _ w.high))

pub not_within : (a lo hi : ℕ) (r : Record) → (Within a lo hi r → ⊥) → within a lo hi r ≡ false
not_within a lo hi r h = case (within a lo hi r) (λ e. absurd (h (within→ a lo hi r e))) (λ e. e)

pub record Before (r q : Record) : Type 0 where
  pub order : (r.address < q.address) ⊎ ((r.address ≡ q.address) × (r.moment < q.moment))

pub precedes→ : (r q : Record) → precedes r q ≡ true → Before r q
unfolding precedes
precedes→ r q e =
    record {
      order =
          elim (or→ (ltb r.address q.address) (eqb r.address q.address && ltb r.moment q.moment) e) [
            | inl p ↦ inl (ltb-true _ _ p)
            | inr p ↦
                let d : (eqb r.address q.address ≡ true) × (ltb r.moment q.moment ≡ true) = and→ _ _ p in
                inr (eqb-true _ _ d.0, ltb-true _ _ d.1)
          ];
    }

pub →precedes : (r q : Record) → (r.address < q.address) ⊎ ((r.address ≡ q.address) × (r.moment < q.moment)) → precedes r q ≡ true
unfolding precedes
→precedes r q (inl h) = rw (lt-ltb _ _ h)
→precedes r q (inr h) =
    let e : ltb r.address q.address ≡ false = le-ltb r.address q.address (omega arith) in
    rw e (→and (eq-eqb _ _ h.0) (lt-ltb _ _ h.1))

pub precedes_trans : (r q x : Record) → precedes r q ≡ true → precedes q x ≡ true → precedes r x ≡ true
precedes_trans r q x e d =
    let p : Before r q = precedes→ r q e in
    let o : Before q x = precedes→ q x d in
    →precedes r x
    (elim p.order [
      | inl a ↦ elim o.order [ inl b ↦ inl (omega arith) | inr b ↦ inl (omega arith) ]
      | inr a ↦ elim o.order [ inl b ↦ inl (omega arith) | inr b ↦ inr (omega arith) ]
    ])

pub latest→ : (rs : List Record) (a lo hi : ℕ) (r : Record) → latest rs a lo hi ≡ some r → (r ∈ rs) × Within a lo hi r
unfolding latest
latest→ [] a lo hi r e = let z : ◌≡◌ {A = ℕ} 0 1 = cc in absurd (omega arith)
latest→ (q ∷ rs) a lo hi r e =
    let ih : latest rs a lo hi ≡ some r → (r ∈ rs) × Within a lo hi r = latest→ rs a lo hi r in
    elim (or_else→ (latest rs a lo hi) _ r e) [
      | inl p ↦ (inr (ih p).0, (ih p).1)
      | inr p ↦
          case (within a lo hi q)
          (λ w.
          let p' : some q ≡ some r = rw w at p in
          let qr : q ≡ r = cc in
          (inl (sym qr), rw qr at (within→ a lo hi q w)))
          (λ w.
          let p' : none ≡ some r = rw w at p in
          let z : ◌≡◌ {A = ℕ} 0 1 = cc in absurd (omega arith))
    ]

pub latest_none : (rs : List Record) (a lo hi : ℕ) → ((q : Record) → q ∈ rs → within a lo hi q ≡ false) → latest rs a lo hi ≡ none
unfolding latest
latest_none [] a lo hi h = refl
latest_none (q ∷ rs) a lo hi h = rw (latest_none rs a lo hi (λ x m. h x (inr m)), h q (inl refl))

pub latest_same : (rs : List Record) (a lo hi lo' hi' : ℕ) → ((q : Record) → q ∈ rs → within a lo hi q ≡ within a lo' hi' q)
    → latest rs a lo hi ≡ latest rs a lo' hi'
unfolding latest
latest_same [] a lo hi lo' hi' h = refl
latest_same (q ∷ rs) a lo hi lo' hi' h = rw (latest_same rs a lo hi lo' hi' (λ x m. h x (inr m)), h q (inl refl))

pub latest_skip : (xs : List Record) (r : Record) (ys : List Record) (a lo hi : ℕ) → within a lo hi r ≡ false
    → latest (xs ++ (r ∷ ys)) a lo hi ≡ latest (xs ++ ys) a lo hi
unfolding latest
latest_skip [] r ys a lo hi e = rw e (case_option (latest ys a lo hi) (λ d. rw d) (λ x d. rw d))
latest_skip (x ∷ xs) r ys a lo hi e = rw (latest_skip xs r ys a lo hi e)

-- the last moment that can be asked for is found first
pub latest_top : (rs : List Record) (a lo hi : ℕ) (r : Record) → Asc rs → r ∈ rs → r.address ≡ a → r.moment ≡ hi → lo ≤ hi
    → latest rs a lo hi ≡ some r
unfolding latest
latest_top [] a lo hi r asc x5 ra rm l = elim x5 [ ]
latest_top (q ∷ rs) a lo hi r asc (inl e) ra rm l =
    let w : within a lo hi q ≡ true =
    rw (← e) (→within a lo hi r (record { at = ra; low = omega arith; high = omega arith })) in
    let z : latest rs a lo hi ≡ none =
    latest_none rs a lo hi
    (λ x m.
    not_within a lo hi x
    (λ (i : Within a lo hi x).
    let b : Before r x = rw e (precedes→ q x (asc.0 x m)) in
    elim b.order [ inl p ↦ omega arith | inr p ↦ omega arith ])) in
    rw (z, w, e)
latest_top (q ∷ rs) a lo hi r asc (inr m) ra rm l = rw (latest_top rs a lo hi r asc.1 m ra rm l)

module _ (k : Record → Bool) (a lo hi : ℕ) where
  pub latest_keep_none : (rs : List Record) → latest rs a lo hi ≡ none → latest (keep k rs) a lo hi ≡ none
  unfolding latest keep
  latest_keep_none [] e = refl
  latest_keep_none (q ∷ rs) e =
      case_option (latest rs a lo hi)
      (λ n.
      let ih : latest (keep k rs) a lo hi ≡ none = latest_keep_none rs n in
      case (within a lo hi q)
      (λ w.
      let e' : some q ≡ none = rw (n, w) at e in
      let z : ◌≡◌ {A = ℕ} 0 1 = cc in absurd (omega arith))
      (λ w. case (k q) (λ d. rw (d, ih, w)) (λ d. rw d ih)))
      (λ x s.
      let e' : some x ≡ none = rw s at e in
      let z : ◌≡◌ {A = ℕ} 0 1 = cc in absurd (omega arith))

  pub latest_keep_some : (rs : List Record) (r : Record) → latest rs a lo hi ≡ some r → k r ≡ true → latest (keep k rs) a lo hi ≡ some r
  unfolding latest keep
  latest_keep_some [] r e h = e
  latest_keep_some (q ∷ rs) r e h =
      case_option (latest rs a lo hi)
      (λ n.
      let m : latest (keep k rs) a lo hi ≡ none = latest_keep_none rs n in
      case (within a lo hi q)
      (λ w.
      let e' : some q ≡ some r = rw (n, w) at e in
      let qr : q ≡ r = cc in
      let d : k q ≡ true = rw qr h in
      rw (d, m, w) e')
      (λ w.
      let e' : none ≡ some r = rw (n, w) at e in
      let z : ◌≡◌ {A = ℕ} 0 1 = cc in absurd (omega arith)))
      (λ x s.
      let e' : some x ≡ some r = rw s at e in
      let ih : latest (keep k rs) a lo hi ≡ some r = latest_keep_some rs r (s ∙ e') h in
      case (k q) (λ d. rw (d, ih)) (λ d. rw d ih))

-- what is found along a ancestry is found again where it is kept
pub first_found_keep : (k : Record → Bool) (rs : List Record) (a : ℕ) (gs : List Stage) → ((r : Record) → first_found rs a gs ≡ some r → k r ≡ true)
    → first_found (keep k rs) a gs ≡ first_found rs a gs
unfolding first_found
first_found_keep k rs a [] h = refl
first_found_keep k rs a (g ∷ gs) h =
    case_option (latest rs a g.branch.start g.up_to)
    (λ n.
    let m : latest (keep k rs) a g.branch.start g.up_to ≡ none = latest_keep_none k a _ _ rs n in
    rw (n, m) (first_found_keep k rs a gs (λ r e. h r (rw n e))))
    (λ x s.
    let m : latest (keep k rs) a g.branch.start g.up_to ≡ some x = latest_keep_some k a _ _ rs x s (h x (rw s)) in
    rw (s, m))

-- a record is told by its address and moment
pub asc_unique : (rs : List Record) (q r : Record) → Asc rs → q ∈ rs → r ∈ rs → q.address ≡ r.address → q.moment ≡ r.moment → q ≡ r
asc_unique [] q r asc x5 _ ea em = elim x5 [ ]
asc_unique (x ∷ rs) q r asc (inl e) (inl d) ea em = e ∙ sym d
asc_unique (x ∷ rs) q r asc (inl e) (inr m) ea em =
    let b : Before q r = rw e (precedes→ x r (asc.0 r m)) in
    absurd (elim b.order [ inl p ↦ omega arith | inr p ↦ omega arith ])
asc_unique (x ∷ rs) q r asc (inr m) (inl d) ea em =
    let b : Before r q = rw d (precedes→ x q (asc.0 q m)) in
    absurd (elim b.order [ inl p ↦ omega arith | inr p ↦ omega arith ])
asc_unique (x ∷ rs) q r asc (inr m) (inr n) ea em = asc_unique rs q r asc.1 m n ea em
