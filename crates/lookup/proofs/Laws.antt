-- Laws of records in their order.
use mathlib.Core.Path.{◌≡◌, refl, ap, sym}
use mathlib.Core.Logic.{◌⊎◌, inl, inr}
use mathlib.Core.List.{List, [], ◌∷◌}
use mathlib.Core.Bool.{Bool, true, false, cond}
use Prim.Native.Nat.{ℕ, zero, suc, ◌+◌, ◌≤◌, ◌<◌, suc-le-suc}
use native.Mathlib.Nat.{le_of_suc-le-suc, not-suc-le-zero, le_refl}
use native.Mathlib.Decide.{dec_lt}
use native.Mathlib.Omega.{arith}
use lib.ListN.{length, take}
use lib.Seq.{get_or-take, length-take-le}
use Rattle.model.specs.declared.Record.{Record}
use Rattle.model.specs.Store.{zero_record}
use Rattle.model.specs.Soundness.{precedes}
use Rattle.model.proofs.Base.{case, absurd_test}
use Rattle.model.proofs.Latest.{precedes→, →precedes}
use Rattle.lookup.specs.Order.{up_to}
use Rattle.model.specs.ByNumber.{Ascend, entry}

ordered : (q r : Record) → precedes q r ≡ true → (q.address ≤ r.address) × (q.address ≡ r.address → q.moment < r.moment)
ordered q r e = elim (precedes→ q r e).order [ inl h ↦ (omega arith, λ z. absurd (omega arith)) | inr h ↦ (omega arith, λ z. h.1) ]

-- a record against (a, t)
abbrev pub Low : ℕ → ℕ → Record → Type 0
Low a t r = (r.address ≤ a) × (r.address ≡ a → r.moment ≤ t)

abbrev pub High : ℕ → ℕ → Record → Type 0
High a t r = (a ≤ r.address) × (a ≡ r.address → t < r.moment)

abbrev point : ℕ → ℕ → Record
point a t = record { address = a; moment = t; place = 0 }

module _ (a t : ℕ) (r : Record) where
  low→ : precedes (point a t) r ≡ false → Low a t r
  low→ e = (go (dec_lt a r.address), λ z. up z (dec_lt t r.moment))
    where
      go : Dec (a < r.address) → r.address ≤ a
      go (yes h) = absurd_test (→precedes (point a t) r (inl h)) e
      go (no h) = omega arith

      up : r.address ≡ a → Dec (t < r.moment) → r.moment ≤ t
      up z (yes h) = absurd_test (→precedes (point a t) r (inr (sym z, h))) e
      up z (no h) = omega arith

  high→ : precedes (point a t) r ≡ true → High a t r
  high→ e = ordered (point a t) r e

  →low : Low a t r → precedes (point a t) r ≡ false
  →low l = case (precedes (point a t) r) (λ e. absurd (go (precedes→ (point a t) r e).order)) (λ e. e)
    where
      go : (a < r.address) ⊎ ((a ≡ r.address) × (t < r.moment)) → ⊥
      go (inl h) = omega (arith, l.0)
      go (inr h) = omega (arith, l.1 (sym h.0))

  →high : High a t r → precedes (point a t) r ≡ true
  →high h = go (dec_lt a r.address)
    where
      go : Dec (a < r.address) → precedes (point a t) r ≡ true
      go (yes l) = →precedes (point a t) r (inl l)
      go (no l) =
          let z : a ≡ r.address = omega (arith, h.0) in
          →precedes (point a t) r (inr (z, h.1 z))

-- the search: records below lo are up to (a, t), those from hi on are after
pub record Bracket (rows : List Record) (n a t lo hi : ℕ) : Type 0 where
  pub order : lo ≤ hi
  pub inside : hi ≤ n
  pub below : (k : ℕ) → k < lo → Low a t (entry rows k)
  pub above : (k : ℕ) → hi ≤ k → k < n → High a t (entry rows k)

module _ (rows : List Record) (n a t : ℕ) where
  pub bracket_start : Bracket rows n a t 0 n
  bracket_start = record { order = omega arith; inside = le_refl n; below = λ k l. absurd (not-suc-le-zero l); above = λ k l m. absurd (omega arith) }

  module _ (up : Ascend rows n) (lo hi mid : ℕ) (b : Bracket rows n a t lo hi) (in-lo : lo ≤ mid) (in-hi : mid < hi) where
    pub bracket_up : Low a t (entry rows mid) → Bracket rows n a t (mid + 1) hi
    bracket_up h = record { order = omega arith; inside = b.inside; below = λ k l. go k (dec_lt k mid) l; above = b.above }
      where
        go : (k : ℕ) → Dec (k < mid) → k < mid + 1 → Low a t (entry rows k)
        go k (yes m) l =
            let x : (entry rows k).address ≤ (entry rows mid).address = up.addresses k mid m (omega (arith, b.inside)) in
            (omega (arith, h.0), λ z. omega (arith, up.moments k mid m (omega (arith, b.inside)) (omega (arith, h.0)), h.1 (omega (arith, h.0))))
        go k (no m) l =
            let e : k ≡ mid = omega arith in
            rw e h

    pub bracket_down : High a t (entry rows mid) → Bracket rows n a t lo mid
    bracket_down h = record { order = in-lo; inside = omega (arith, b.inside); below = b.below; above = λ k l m. go k (dec_lt mid k) l m }
      where
        go : (k : ℕ) → Dec (mid < k) → mid ≤ k → k < n → High a t (entry rows k)
        go k (yes m) l z =
            let x : (entry rows mid).address ≤ (entry rows k).address = up.addresses mid k m z in
            (omega (arith, h.0), λ y. omega (arith, up.moments mid k m z (omega (arith, h.0)), h.1 (omega (arith, h.0))))
        go k (no m) l z =
            let e : k ≡ mid = omega arith in
            rw e h

-- what pins the count
up_to_is : (a t : ℕ) (xs : List Record) (c : ℕ) → c ≤ length xs → ((k : ℕ) → k < c → precedes (point a t) (entry xs k) ≡ false) → (c < length xs → precedes (point a t) (entry xs c) ≡ true) → c ≡ up_to a t xs
unfolding up_to
up_to_is a t [] zero l h e = refl
up_to_is a t [] (suc c) l h e = absurd (not-suc-le-zero l)
up_to_is a t (x ∷ xs) zero l h e = rw (e (omega arith))
up_to_is a t (x ∷ xs) (suc c) l h e =
    rw (h zero (omega arith))
    (ap suc (up_to_is a t xs c (le_of_suc-le-suc l) (λ k m. h (suc k) (suc-le-suc m)) (λ m. e (suc-le-suc m))))

record First (a t : ℕ) (xs : List Record) (c : ℕ) : Type 0 where
  inside : c ≤ length xs
  before : (k : ℕ) → k < c → precedes (point a t) (entry xs k) ≡ false
  found : c < length xs → precedes (point a t) (entry xs c) ≡ true

first_step : (a t : ℕ) (x : Record) (xs : List Record) (c : ℕ) (b : Bool) → precedes (point a t) x ≡ b → First a t xs c → First a t (x ∷ xs) (cond b 0 (suc c))
first_step a t x xs c true e f = record { inside = omega arith; before = λ k l. absurd (not-suc-le-zero l); found = λ l. e }
first_step a t x xs c false e f = record { inside = suc-le-suc f.inside; before = go; found = λ l. f.found (le_of_suc-le-suc l) }
  where
    go : (k : ℕ) → k < suc c → precedes (point a t) (entry (x ∷ xs) k) ≡ false
    go zero l = e
    go (suc k) l = f.before k (le_of_suc-le-suc l)

up_to_first : (a t : ℕ) (xs : List Record) → First a t xs (up_to a t xs)
unfolding up_to
up_to_first a t [] = record { inside = le_refl _; before = λ k l. absurd (not-suc-le-zero l); found = λ l. absurd (not-suc-le-zero l) }
up_to_first a t (x ∷ xs) = first_step a t x xs _ (precedes (point a t) x) refl (up_to_first a t xs)

module _ (rows : List Record) (n a t : ℕ) (room : n ≤ length rows) where
  long : length (take n rows) ≡ n
  long = length-take-le n rows room

  same : (k : ℕ) → k < n → entry (take n rows) k ≡ entry rows k
  same k l = get_or-take n rows k zero_record l

  pub bracket_end : (lo hi : ℕ) → Bracket rows n a t lo hi → hi ≤ lo → lo ≡ up_to a t (take n rows)
  bracket_end lo hi b h =
      up_to_is a t (take n rows) lo (omega (arith, long, b.order, b.inside))
      (λ k l. rw (same k (omega (arith, b.order, b.inside))) (→low a t (entry rows k) (b.below k l)))
      (λ l. let m : lo < n = omega (arith, long) in rw (same lo m) (→high a t (entry rows lo) (b.above lo h m)))

  -- and back
  pub bracket_of : Ascend rows n → (c : ℕ) → c ≡ up_to a t (take n rows) → Bracket rows n a t c c
  bracket_of up c e = rw e (make (up_to a t (take n rows)) (up_to_first a t (take n rows)))
    where
      make : (c : ℕ) → First a t (take n rows) c → Bracket rows n a t c c
      make c f =
          record {
            order = le_refl c;
            inside = omega (arith, f.inside, long);
            below = λ k l. low→ a t (entry rows k) (rw (same k (omega (arith, f.inside, long))) at (f.before k l));
            above = λ k l m. go k (dec_lt c k) l m;
          }
        where
          at_c : c < n → High a t (entry rows c)
          at_c l = high→ a t (entry rows c) (rw (same c l) at (f.found (omega (arith, long))))

          go : (k : ℕ) → Dec (c < k) → c ≤ k → k < n → High a t (entry rows k)
          go k (yes h) l m =
              let x : (entry rows c).address ≤ (entry rows k).address = up.addresses c k h m in
              let g : High a t (entry rows c) = at_c (omega arith) in
              (omega (arith, g.0), λ y. omega (arith, up.moments c k h m (omega (arith, g.0)), g.1 (omega (arith, g.0))))
          go k (no h) l m =
              let q : k ≡ c = omega arith in
              rw q (at_c (omega arith))
