-- Laws of pages in the slab.
use Prim.Native.Nat.{ℕ, ◌+◌, ◌*◌, ◌-◌, ◌≤◌, ◌<◌}
use mathlib.Core.Path.{◌≡◌, sym, ap, ◌∙◌}
use mathlib.Core.Logic.{◌≢◌}
use mathlib.Core.List.{List, ◌++◌, append_assoc}
use native.Mathlib.Omega.{arith}
use lib.Dec.{ltb}
use lib.ListN.{length, take, drop, length-append, length-take, length-drop, take-append-drop}
use lib.Seq.{drop_at, take_at, drop-append-le, take-append-le, drop-append-add, drop-drop, length-take-le}
use borrow.Author.Tests.{ltb-true, ltb-false}
use Rattle.model.specs.Store.{page_at, with_page}
use Rattle.model.proofs.Base.{case}

front : (xs ys : List ℕ) (q : ℕ) → 256 * q + 256 ≤ length xs → page_at (xs ++ ys) q ≡ page_at xs q
unfolding page_at
front xs ys q h =
    let l : 256 ≤ length (drop (256 * q) xs) = simp length-drop (omega arith) in
    rw (drop-append-le (256 * q) xs ys (omega arith), take-append-le 256 (drop (256 * q) xs) ys l)

-- a page that lies in the first n bytes
pub page_front : (slab : List ℕ) (n q : ℕ) → 256 * q + 256 ≤ length (take n slab) → page_at (take n slab) q ≡ page_at slab q
page_front slab n q h = sym (front (take n slab) (drop n slab) q h) ∙ ap (λ (x : List ℕ). page_at x q) (take-append-drop n slab)

module _ (slab : List ℕ) (p : ℕ) (page : List ℕ) (whole : length page ≡ 256) (inside : 256 * p + 256 ≤ length slab) where
  pub length_with_page : length (with_page slab p page) ≡ length slab
  unfolding with_page
  length_with_page = simp (length-append, length-take, length-drop) (omega arith)

  start : length (take (256 * p) slab) ≡ 256 * p
  start = length-take-le (256 * p) slab (omega arith)

  pub page_same : page_at (with_page slab p page) p ≡ page
  unfolding page_at with_page
  page_same = rw (drop_at (take (256 * p) slab) (page ++ drop (256 * p + 256) slab) (256 * p) start, take_at page (drop (256 * p + 256) slab) 256 whole)

  behind : (q : ℕ) → p < q → page_at (take (256 * p) slab ++ (page ++ drop (256 * p + 256) slab)) q ≡ page_at slab q
  unfolding page_at
  behind q l =
      let n : ℕ = 256 * q - (256 * p + 256) in
      let lw : length (take (256 * p) slab ++ page) ≡ 256 * p + 256 = simp length-append (omega (arith, start)) in
      let eq : 256 * q ≡ length (take (256 * p) slab ++ page) + n = omega arith in
      let eq' : 256 * p + 256 + n ≡ 256 * q = omega arith in
      let a : drop (length (take (256 * p) slab ++ page) + n) ((take (256 * p) slab ++ page) ++ drop (256 * p + 256) slab) ≡ drop n (drop (256 * p + 256) slab) =
      drop-append-add (take (256 * p) slab ++ page) (drop (256 * p + 256) slab) n in
      let b : drop n (drop (256 * p + 256) slab) ≡ drop (256 * p + 256 + n) slab = drop-drop n (256 * p + 256) slab in
      let c : drop (256 * q) (take (256 * p) slab ++ (page ++ drop (256 * p + 256) slab)) ≡ drop (256 * q) slab =
      ap (λ (x : List ℕ). drop (256 * q) x) (sym (append_assoc (take (256 * p) slab) page (drop (256 * p + 256) slab)))
      ∙ (ap (λ (x : ℕ). drop x ((take (256 * p) slab ++ page) ++ drop (256 * p + 256) slab)) eq
      ∙ (a ∙ (b ∙ ap (λ (x : ℕ). drop x slab) eq'))) in
      ap (λ (x : List ℕ). take 256 x) c

  pub page_other : (q : ℕ) → q ≢ p → page_at (with_page slab p page) q ≡ page_at slab q
  unfolding with_page
  page_other q ne =
      case (ltb q p)
      (λ e.
      let l : q < p = ltb-true q p e in
      let h : 256 * q + 256 ≤ length (take (256 * p) slab) = rw start (omega arith) in
      front (take (256 * p) slab) _ q h ∙ page_front slab (256 * p) q h)
      (λ e.
      let l : p ≤ q = ltb-false q p e in
      behind q (omega arith))

pub length_page : (slab : List ℕ) (p : ℕ) → 256 * p + 256 ≤ length slab → length (page_at slab p) ≡ 256
unfolding page_at
length_page slab p h = length-take-le 256 (drop (256 * p) slab) (omega (arith, length-drop (256 * p) slab))
