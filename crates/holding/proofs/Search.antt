-- The search for the branch that holds a moment: the first that ends at the moment or later is the only one that can.
use mathlib.Core.Path.{◌≡◌, sym}
use mathlib.Core.List.{List}
use mathlib.Core.Bool.{false, cond}
use Prim.Native.Nat.{ℕ, ◌+◌, ◌-◌, ◌*◌, ◌≤◌, ◌<◌}
use native.Mathlib.Nat.{le_refl}
use native.Mathlib.Decide.{dec_lt}
use native.Mathlib.Omega.{arith}
use lib.Dec.{leb, ltb}
use lib.ListN.{length}
use borrow.Author.Tests.{leb-true, leb-false, ltb-true, ltb-false}
use Rattle.model.specs.declared.Branch.{Branch}
use Rattle.model.specs.Store.{zero_branch}
use Rattle.model.specs.Lookup.{holds}
use Rattle.model.proofs.Base.{case}
use Rattle.model.proofs.Ancestry.{Holds, holds→, →holds}
use Rattle.model.proofs.ByNumber.{any_yes, any_no}
use Rattle.model.specs.ByNumber.{branch, held, Stairs}
use Rattle.holding.specs.Search.{FirstEnding}

-- the branches below base end before t, and of len from there on the last ends at t or later
pub record Bracket (rows : List Branch) (n t base len : ℕ) : Type 0 where
  pub some : 0 < len
  pub within : base + len ≤ n
  pub below : (k : ℕ) → k < base → (branch rows k).end < t
  pub ends : t ≤ (branch rows (base + len - 1)).end

module _ (rows : List Branch) (n t : ℕ) where
  pub bracket_start : 0 < n → t ≤ (branch rows (n - 1)).end → Bracket rows n t 0 n
  bracket_start l h =
      let e : 0 + n - 1 ≡ n - 1 = omega arith in
      record { some = l; within = omega arith; below = λ k m. absurd (omega arith); ends = rw e h }

  pub bracket_end : (base len : ℕ) → Bracket rows n t base len → len ≤ 1 → FirstEnding rows n t base
  bracket_end base len b l =
      let e : base + len - 1 ≡ base = omega (arith, b.some) in
      record { inside = omega (arith, b); below = b.below; ends = rw e at b.ends }

  module _ (up : Stairs rows n) where
    ends_up : (i j : ℕ) → i ≤ j → j < n → (branch rows i).end ≤ (branch rows j).end
    ends_up i j l m = go (dec_lt i j)
      where
        go : Dec (i < j) → (branch rows i).end ≤ (branch rows j).end
        go (yes p) = omega (arith, up.apart i j p m, up.ordered j m)
        go (no p) = let e : i ≡ j = omega arith in rw e (le_refl _)

    -- the last of the first half is looked at
    pub bracket_half : {base len half : ℕ} → Bracket rows n t base len → 0 < half → half + half ≤ len
        → (k : ℕ) → k ≡ cond (ltb (branch rows (base + half - 1)).end t) 1 0 → Bracket rows n t (base + half * k) (len - half)
    bracket_half {base} {len} {half} b l h k d =
        case (ltb (branch rows (base + half - 1)).end t)
        (λ c.
        let g : (branch rows (base + half - 1)).end < t = ltb-true _ _ c in
        let i : base + half * 1 ≡ base + half = omega arith in
        let e : base + half + (len - half) - 1 ≡ base + len - 1 = omega arith in
        rw (d, c, i)
        (record {
          some = omega arith;
          within = omega (arith, b.within);
          below = λ k m. omega (arith, ends_up k (base + half - 1) (omega arith) (omega (arith, b.within)));
          ends = rw e b.ends;
        }))
        (λ c.
        let g : t ≤ (branch rows (base + half - 1)).end = ltb-false _ _ c in
        let i : base + half * 0 ≡ base = omega arith in
        rw (d, c, i)
        (record {
          some = omega arith;
          within = omega (arith, b.within);
          below = b.below;
          ends = omega (arith, ends_up (base + half - 1) (base + (len - half) - 1) (omega arith) (omega (arith, b.within)));
        }))

    -- a row that holds t is the first that ends at t or later
    pub holds_first : (k : ℕ) → k < n → (branch rows k).start ≤ t → t ≤ (branch rows k).end → FirstEnding rows n t k
    holds_first k l a b = record { inside = l; below = λ i m. omega (arith, up.apart i k m l); ends = b }

    module _ (room : n ≤ length rows) where
      held_none : ((i : ℕ) → i < n → Holds (branch rows i) t → ⊥) → held rows n t ≡ false
      unfolding held
      held_none f = any_no (λ d. holds d t) rows zero_branch n room (λ i m. case (holds (branch rows i) t) (λ e. absurd (f i m (holds→ (branch rows i) t e))) (λ e. e))

      pub held_above : (branch rows (n - 1)).end < t → false ≡ held rows n t
      held_above h = sym (held_none (λ i m z. omega (arith, ends_up i (n - 1) (omega arith) (omega arith))))

      pub held_first : (k : ℕ) → FirstEnding rows n t k → leb (branch rows k).start t ≡ held rows n t
      unfolding held
      held_first k f =
          case (leb (branch rows k).start t)
          (λ e. rw e (sym (any_yes (λ d. holds d t) rows zero_branch n k room f.inside (→holds (branch rows k) t (leb-true _ _ e) f.ends))))
          (λ e. rw e (sym (held_none (λ i m z. go i m z (leb-false _ _ e) (dec_lt i k) (dec_lt k i)))))
        where
          go : (i : ℕ) → i < n → Holds (branch rows i) t → t < (branch rows k).start → Dec (i < k) → Dec (k < i) → ⊥
          go i m z h (yes p) q = omega (arith, f.below i p)
          go i m z h (no p) (yes q) = omega (arith, up.apart k i q m, f.ends)
          go i m z h (no p) (no q) =
              let e : k ≡ i = omega arith in
              let y : t < (branch rows i).start = rw e at h in
              omega arith
