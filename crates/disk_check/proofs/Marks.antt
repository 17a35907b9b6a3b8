-- Laws of check 18.
use mathlib.Core.Path.{◌≡◌}
use mathlib.Core.List.{List}
use mathlib.Core.Bool.{◌&&◌}
use Prim.Native.Nat.{ℕ, ◌+◌, ◌≤◌, ◌<◌, max}
use native.Mathlib.Omega.{arith}
use native.Mathlib.Numerals.{add-one}
use lib.Dec.{leb}
use lib.ListN.{length, drop, get_or, drop_of_length-le}
use lib.Seq.{drop-cons}
use borrow.Author.Tests.{le-leb, lt-leb, leb-true, leb-false}
use Rattle.model.proofs.Base.{case}
use Rattle.live.specs.Live.{marks_small}

-- the larger of two is small where both are
small_both : (a b : ℕ) → leb (max a b) 3 ≡ (leb a 3 && leb b 3)
small_both a b =
    case (leb a 3)
    (λ e.
    case (leb b 3)
    (λ f. rw (e, f) (le-leb (max a b) 3 (omega (arith, leb-true a 3 e, leb-true b 3 f))))
    (λ f. rw (e, f) (lt-leb (max a b) 3 (omega (arith, leb-false b 3 f)))))
    (λ e. rw e (lt-leb (max a b) 3 (omega (arith, leb-false a 3 e))))

-- the marks from i on, with the largest of those before
module _ (ms : List ℕ) (i most : ℕ) where
  pub small_next : i < length ms → (leb most 3 && marks_small (drop i ms)) ≡ (leb (max most (get_or ms i 0)) 3 && marks_small (drop (i + 1) ms))
  unfolding marks_small
  small_next l =
      case (leb most 3)
      (λ e. rw (add-one i, drop-cons ms i 0 l, small_both most (get_or ms i 0), e))
      (λ e. rw (small_both most (get_or ms i 0), e))

  pub small_end : length ms ≤ i → (leb most 3 && marks_small (drop i ms)) ≡ leb most 3
  unfolding marks_small
  small_end h = case (leb most 3) (λ f. rw (drop_of_length-le ms {i = i} h, f)) (λ f. rw f)
