-- The laws of branch rows by index.
use mathlib.Core.Path.{◌≡◌, sym}
use mathlib.Core.List.{List, ◌∷◌}
use mathlib.Core.Bool.{true, false, false≢true}
use Prim.Native.Nat.{ℕ, zero, suc, ◌+◌, ◌-◌, ◌≤◌, ◌<◌}
use native.Mathlib.Omega.{arith}
use lib.Dec.{ltb, eqb}
use lib.ListN.{length}
use borrow.Author.Tests.{ltb-true, ltb-false, eqb-true, eqb-false}
use Rattle.model.specs.declared.Branch.{Branch}
use Rattle.model.specs.Store.{zero_branch, any}
use Rattle.model.specs.Lookup.{holds}
use Rattle.model.proofs.Base.{case}
use Rattle.model.proofs.Ancestry.{Holds, holds→, →holds}
use Rattle.model.specs.ByNumber.{branch, newest_of, held, Stairs, Line}
use Rattle.model.proofs.ByNumber.{top}
use Rattle.branch_marks.specs.Marks.{holder, Holder, parent_of}

pub holder_of : (bs : List Branch) (n t : ℕ) → n ≤ length bs → held bs n t ≡ true → Holder bs n t (holder bs n t)
unfolding held holder any
holder_of bs zero t l e = absurd (false≢true (e))
holder_of bs (suc n) t l e =
    let e' : any (λ d. holds d t) (branch bs n ∷ newest_of bs n) ≡ true = rw (top bs n zero_branch (omega arith)) at e in
    let ih : held bs n t ≡ true → Holder bs n t (holder bs n t) = holder_of bs n t (omega arith) in
    case (holds (branch bs n) t)
    (λ d.
    let h : Holds (branch bs n) t = holds→ (branch bs n) t d in
    rw d (record { here = rw d; inside = omega arith; low = h.low; high = h.high }))
    (λ d.
    let s : Holder bs n t (holder bs n t) = ih (rw d at e') in
    rw d (record { here = rw d; inside = omega (arith, s.inside); low = s.low; high = s.high }))

module _ {bs : List Branch} {n : ℕ} (h : Stairs bs n) where
  -- one row holds a moment
  pub other_row : (t i j : ℕ) → i < n → j < n → holds (branch bs i) t ≡ true → (j ≡ i → ⊥) → holds (branch bs j) t ≡ false
  other_row t i j a b y ne =
      let k : Holds (branch bs i) t = holds→ (branch bs i) t y in
      case (holds (branch bs j) t)
      (λ e.
      let x : Holds (branch bs j) t = holds→ (branch bs j) t e in
      case (ltb i j)
      (λ d. let l : i < j = ltb-true i j d in absurd (omega (arith, h.apart i j l b)))
      (λ d. let l : j ≤ i = ltb-false i j d in absurd (omega (arith, h.apart j i (omega arith) a))))
      (λ e. e)

  pub holder_is : (m t r : ℕ) → m ≤ n → r < m → (branch bs r).start ≤ t → t ≤ (branch bs r).end → r ≡ holder bs m t
  unfolding holder
  holder_is zero t r l i a b = absurd (omega arith)
  holder_is (suc m) t r l i a b =
      let ih : r < m → r ≡ holder bs m t = λ j. holder_is m t r (omega arith) j a b in
      case (eqb r m)
      (λ e.
      let q : r ≡ m = eqb-true r m e in
      let d : holds (branch bs m) t ≡ true = →holds (branch bs m) t (rw q at a) (rw q at b) in
      rw d q)
      (λ e.
      let ne : r ≡ m → ⊥ = eqb-false r m e in
      rw (other_row t r m (omega arith) (omega arith) (→holds (branch bs r) t a b) (λ z. ne (sym z))) (ih (omega arith)))

  module _ {t s : ℕ} (k : Holder bs n t s) (mid : ℕ) (l : mid < n) where
    pub holder_up : (branch bs mid).start ≤ t → mid ≤ s
    holder_up a =
        case (ltb s mid)
        (λ e. let j : s < mid = ltb-true s mid e in absurd (omega (arith, h.apart s mid j l, k.high)))
        (λ e. ltb-false s mid e)

    pub holder_down : t < (branch bs mid).start → s < mid
    holder_down a =
        case (ltb s mid)
        (λ e. ltb-true s mid e)
        (λ e.
        let j : mid ≤ s = ltb-false s mid e in
        case (ltb mid s)
        (λ d. let i : mid < s = ltb-true mid s d in absurd (omega (arith, h.ordered mid l, h.apart mid s i k.inside, k.low)))
        (λ d.
        let i : s ≤ mid = ltb-false mid s d in
        let q : s ≡ mid = omega arith in
        let z : (branch bs mid).start ≤ t = rw q at k.low in
        absurd (omega arith)))

-- the row that holds t is one of those from lo up to hi, without hi
pub record Between (bs : List Branch) (n t lo hi : ℕ) : Type 0 where
  pub found : Holder bs n t (holder bs n t)
  pub low : lo ≤ holder bs n t
  pub high : holder bs n t < hi
  pub within : hi ≤ n

pub between_start : (bs : List Branch) (n t : ℕ) → n ≤ length bs → held bs n t ≡ true → Between bs n t 0 n
between_start bs n t room h =
    let k = holder_of bs n t room h in
    record { found = k; low = omega arith; high = k.inside; within = omega arith }

module _ {bs : List Branch} {n t lo hi : ℕ} (k : Between bs n t lo hi) where
  module _ (h : Stairs bs n) {mid : ℕ} (l : mid < hi) {b : Branch} (e : b ≡ branch bs mid) where
    pub between_up : b.start ≤ t → Between bs n t mid hi
    between_up a = record { found = k.found; low = holder_up h k.found mid (omega (arith, k.within)) (rw e at a); high = k.high; within = k.within }

    pub between_down : t < b.start → Between bs n t lo mid
    between_down a =
        record { found = k.found; low = k.low; high = holder_down h k.found mid (omega (arith, k.within)) (rw e at a); within = omega (arith, k.within) }

  pub between_end : hi ≤ lo + 1 → Holder bs n t lo
  between_end l = let e : lo ≡ holder bs n t = omega (arith, k.low, k.high) in rw e k.found

-- the row that holds a moment, tried
pub row_here : {bs : List Branch} {n i m : ℕ} {b : Branch} → Stairs bs n → i < n → b ≡ branch bs i → b.start ≤ m → m ≤ b.end → Holder bs n m i
row_here {bs} {n} {i} {m} {b} h l e a c =
    let a' : (branch bs i).start ≤ m = rw e at a in
    let c' : m ≤ (branch bs i).end = rw e at c in
    record { here = holder_is h n m i (omega arith) l a' c'; inside = l; low = a'; high = c' }

pub row_before : {bs : List Branch} {n i m : ℕ} {b d : Branch} → Stairs bs n → n ≤ length bs → held bs n m ≡ true → i < n → (i ≡ 0 → ⊥) → b ≡ branch bs i → m < b.start
    → d ≡ branch bs (i - 1) → d.start ≤ m → Holder bs n m (i - 1)
row_before {bs} {n} {i} {m} {b} {d} h room hd l z e a f c =
    let a' : m < (branch bs i).start = rw e at a in
    let c' : (branch bs (i - 1)).start ≤ m = rw f at c in
    let s = holder_of bs n m room hd in
    let q : i - 1 ≡ holder bs n m = omega (arith, holder_up h s (i - 1) (omega arith) c', holder_down h s i l a') in
    rw q s

pub parent_holder : {bs : List Branch} {n : ℕ} → Line bs n → n ≤ length bs → (i : ℕ) → 0 < i → i < n → Holder bs i (branch bs i).cut (parent_of bs i)
parent_holder {bs} h room i z l = holder_of bs i (branch bs i).cut (omega arith) (h.parent i z l)
