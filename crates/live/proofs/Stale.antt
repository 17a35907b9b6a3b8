-- Laws of the marks, and of the stale pages in their order.
use Prim.Native.Nat.{ℕ, zero, suc, ◌+◌, ◌%◌, ◌≤◌, ◌<◌}
use mathlib.Core.Path.{◌≡◌, refl, sym, ◌∙◌}
use mathlib.Core.List.{List, [], ◌∷◌, map}
use mathlib.Core.Bool.{true, false, false≢true}
use native.Mathlib.Omega.{arith}
use lib.Dec.{leb, eqb}
use lib.ListN.{length, get_or, set}
use borrow.Author.Tests.{le-leb, leb-true, ne_eqb}
use Rattle.model.specs.Store.{any}
use Rattle.model.specs.Wire.{Request, write, mark, revert, read_at, reclaim, give, withdraw}
use Rattle.model.specs.Batch.{Answered}
use Rattle.model.proofs.Base.{case, and→, →and}
use Rattle.live.specs.Live.{LiveDisk, is_current, marks_small, staled, follows, following, played, stale_from, stale}
use Rattle.live.specs.LiveDemand.{is_revert, reverts}

-- no mark above 3
pub small_set : (ms : List ℕ) (a v : ℕ) → v ≤ 3 → marks_small ms ≡ true → marks_small (set ms a v) ≡ true
unfolding marks_small
small_set [] a v l h = refl
small_set (m ∷ ms) zero v l h = →and (le-leb v 3 l) (and→ (leb m 3) (marks_small ms) h).1
small_set (m ∷ ms) (suc a) v l h = →and (and→ (leb m 3) (marks_small ms) h).0 (small_set ms a v l (and→ (leb m 3) (marks_small ms) h).1)

pub small_staled : (ms : List ℕ) → marks_small ms ≡ true → marks_small (map staled ms) ≡ true
unfolding marks_small
small_staled [] h = refl
small_staled (m ∷ ms) h =
    let p : (leb m 3 ≡ true) × (marks_small ms ≡ true) = and→ _ _ h in
    →and (le-leb (staled m) 3 (omega (arith, leb-true m 3 p.0))) (small_staled ms p.1)

-- a mark made stale is not current
staled_stale : (m : ℕ) → is_current (staled m) ≡ false
staled_stale m = ne_eqb (staled m % 2) 1 (λ e. omega (arith, e))

pub all_staled : (ms : List ℕ) (a : ℕ) → is_current (get_or (map staled ms) a 0) ≡ false
all_staled [] a = refl
all_staled (m ∷ ms) zero = staled_stale m
all_staled (m ∷ ms) (suc a) = all_staled ms a

-- the stale pages of marks, by the first mark
pub stale_yes : (a m : ℕ) (ms : List ℕ) → is_current m ≡ false → stale_from a (m ∷ ms) ≡ a ∷ stale_from (suc a) ms
unfolding stale_from
stale_yes a m ms e = rw e

pub stale_no : (a m : ℕ) (ms : List ℕ) → is_current m ≡ true → stale_from a (m ∷ ms) ≡ stale_from (suc a) ms
unfolding stale_from
stale_no a m ms e = rw e

pub stale_count : (k : ℕ) (ms : List ℕ) → length (stale_from k ms) ≤ length ms
unfolding stale_from
stale_count k [] = omega arith
stale_count k (m ∷ ms) =
    let ih : length (stale_from (suc k) ms) ≤ length ms = stale_count (suc k) ms in
    case (is_current m) (λ e. rw e (omega arith)) (λ e. rw e (omega arith))

-- a mark made current leaves no more stale pages
stale_set : (k : ℕ) (ms : List ℕ) (a v : ℕ) → is_current v ≡ true → length (stale_from k (set ms a v)) ≤ length (stale_from k ms)
unfolding stale_from
stale_set k [] a v c = omega arith
stale_set k (m ∷ ms) zero v c = case (is_current m) (λ e. rw (e, c) (omega arith)) (λ e. rw (e, c) (omega arith))
stale_set k (m ∷ ms) (suc a) v c =
    let ih : length (stale_from (suc k) (set ms a v)) ≤ length (stale_from (suc k) ms) = stale_set (suc k) ms a v c in
    case (is_current m) (λ e. rw e ih) (λ e. rw e (omega arith))

-- the first stale page: where it stands, and what is left when it is made current
pub record FirstStale (k : ℕ) (ms : List ℕ) (a : ℕ) (rest : List ℕ) : Type 0 where
  pub at : ℕ
  pub is : a ≡ k + at
  pub inside : at < length ms
  pub left : (v : ℕ) → is_current v ≡ true → stale_from k (set ms at v) ≡ rest

head_is : {x y : ℕ} {xs ys : List ℕ} → x ∷ xs ≡ y ∷ ys → y ≡ x
head_is e = cc

tail_is : {x y : ℕ} {xs ys : List ℕ} → x ∷ xs ≡ y ∷ ys → xs ≡ ys
tail_is e = cc

nil_cons : {C : Type 0} {y : ℕ} {ys : List ℕ} → [] ≡ y ∷ ys → C
nil_cons e = let z : ◌≡◌ {A = ℕ} 0 1 = cc in absurd (omega arith)

later : (k m : ℕ) (ms : List ℕ) (a : ℕ) (rest : List ℕ) → is_current m ≡ true → FirstStale (suc k) ms a rest → FirstStale k (m ∷ ms) a rest
later k m ms a rest e f =
    record {
      at = suc f.at;
      is = omega (arith, f.is);
      inside = omega (arith, f.inside);
      left = λ v c. stale_no k m (set ms f.at v) e ∙ f.left v c;
    }

pub first_stale : (k : ℕ) (ms : List ℕ) (a : ℕ) (rest : List ℕ) → stale_from k ms ≡ a ∷ rest → FirstStale k ms a rest
unfolding stale_from
first_stale k [] a rest h = nil_cons h
first_stale k (m ∷ ms) a rest h =
    let ih : stale_from (suc k) ms ≡ a ∷ rest → FirstStale (suc k) ms a rest = first_stale (suc k) ms a rest in
    case (is_current m)
    (λ e. later k m ms a rest e (ih (sym (stale_no k m ms e) ∙ h)))
    (λ e.
    let g : k ∷ stale_from (suc k) ms ≡ a ∷ rest = sym (stale_yes k m ms e) ∙ h in
    record {
      at = 0;
      is = omega (arith, head_is g);
      inside = omega arith;
      left = λ v c. stale_no k v ms c ∙ tail_is g;
    })

-- requests leave no more stale pages, where no revert is accepted
follows_stale : (d : LiveDisk) (q : Request) → is_revert q ≡ false → length (stale (follows d q)) ≤ length (stale d)
follows_stale d (write a page) e = stale_set 0 d.marks a 1 refl
follows_stale d mark e = omega arith
follows_stale d (revert m w) e = absurd (false≢true (sym e))
follows_stale d (read_at a m) e = omega arith
follows_stale d (reclaim m) e = omega arith
follows_stale d (give n) e = omega arith
follows_stale d (withdraw high low) e = omega arith

following_stale : (d : LiveDisk) (e : Answered) → reverts e ≡ false → length (stale (following d e.request e.answer.refusal)) ≤ length (stale d)
following_stale d e h =
    case (eqb e.answer.refusal 0)
    (λ c. let g : is_revert e.request ≡ false = rw c at h in rw c (follows_stale d e.request g))
    (λ c. rw c (omega arith))

any_not : (e : Answered) (es : List Answered) → any reverts (e ∷ es) ≡ false → (reverts e ≡ false) × (any reverts es ≡ false)
unfolding any
any_not e es h = case (reverts e) (λ c. absurd (false≢true (sym (rw c at h)))) (λ c. (c, rw c at h))

pub played_stale : (d : LiveDisk) (es : List Answered) → any reverts es ≡ false → length (stale (played d es)) ≤ length (stale d)
unfolding played
played_stale d [] h = omega arith
played_stale d (e ∷ es) h =
    let g : (reverts e ≡ false) × (any reverts es ≡ false) = any_not e es h in
    omega (arith, played_stale (following d e.request e.answer.refusal) es g.1, following_stale d e g.0)
