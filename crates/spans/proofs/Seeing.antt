-- A lookup gives the last record of the address that it sees.
use mathlib.Core.Path.{◌≡◌, refl, ap, sym, ◌∙◌}
use mathlib.Core.List.{List, []}
use mathlib.Core.Option.{none}
use mathlib.Core.Bool.{Bool, true, false, ◌&&◌, ◌||◌}
use Prim.Native.Nat.{ℕ, zero, suc, ◌≤◌, ◌<◌}
use native.Mathlib.Omega.{arith}
use lib.Dec.{ltb, eqb}
use lib.ListN.{length, take}
use borrow.Author.Tests.{ltb-true, ltb-false, eqb-true, eqb-false, eq-eqb}
use Rattle.model.specs.declared.Branch.{Branch}
use Rattle.model.specs.declared.Record.{Record}
use Rattle.model.specs.Store.{zero_branch}
use Rattle.model.specs.Lookup.{holds, within, is_at, ancestry, first_found}
use Rattle.model.proofs.Base.{case, and→, →and, absurd_test}
use Rattle.model.specs.ByNumber.{find, branch, newest_of, entry, Line, Ascend}
use Rattle.model.proofs.Ancestry.{find_hold, find_skip}
use Rattle.model.proofs.Latest.{Within, within→}
use Rattle.model.proofs.ByNumber.{top}
use Rattle.spans.specs.Last.{record_no, or_row, last_row}
use Rattle.spans.proofs.Lasting.{last_none, last_at, last_same, last_passes, last_inside, latest_row, record_no_or}
use Rattle.spans.specs.Reach.{reach}
use Rattle.spans.proofs.Reaching.{reach_none, reach_skip, reach_below}

-- where all that pass one test come after all that pass another, the last of either is that of the first, or else of the second
last_or : (p q : ℕ → Bool) (n : ℕ) → ((j i : ℕ) → j < n → i < n → q j ≡ true → p i ≡ true → j < i) → or_row (last_row p n) (last_row q n) ≡ last_row (λ k. p k || q k) n
unfolding last_row
last_or p q zero h = refl
last_or p q (suc n) h =
    let ih : or_row (last_row p n) (last_row q n) ≡ last_row (λ k. p k || q k) n = last_or p q n (λ j i a b c d. h j i (omega arith) (omega arith) c d) in
    case (p n)
    (λ e. rw e)
    (λ e.
    case (q n)
    (λ d.
    let z : last_row p n ≡ 0 =
    last_none p n (λ k l. case (p k) (λ f. absurd (omega (arith, h n k (omega arith) (omega arith) d f))) (λ f. f)) in
    rw (e, d, z))
    (λ d. rw (e, d) ih))

pub last_after : (p : ℕ → Bool) (n k : ℕ) → last_row p n ≡ suc k → (j : ℕ) → k < j → j < n → p j ≡ false
unfolding last_row
last_after p zero k e j a b = absurd (omega arith)
last_after p (suc n) k e j a b =
    case (p n)
    (λ d. let e' : suc n ≡ suc k = rw d at e in absurd (omega arith))
    (λ d.
    case (eqb j n)
    (λ f. rw (eqb-true j n f) d)
    (λ f. let ne : j ≡ n → ⊥ = eqb-false j n f in last_after p n k (rw d at e) j a (omega arith)))

and_false : (a : Bool) {b : Bool} → b ≡ false → (a && b) ≡ false
and_false true e = e
and_false false e = refl

nothing : (rs : List Record) (a t : ℕ) → find rs a [] t ≡ none
unfolding ancestry first_found
nothing rs a t = refl

-- the record k has the address, and a lookup at t comes by its moment
abbrev pub sees : List Record → ℕ → List Branch → ℕ → ℕ → ℕ → Bool
sees rs a bs n t k = eqb (entry rs k).address a && reach bs n t (entry rs k).moment

module _ {bs : List Branch} {n : ℕ} (h : Line bs n) (room : n ≤ length bs) {rs : List Record} {nr : ℕ} (up : Ascend rs nr) (rows : nr ≤ length rs) where
  order : (i j : ℕ) → i < nr → j < nr → (entry rs j).address ≡ (entry rs i).address → (entry rs j).moment < (entry rs i).moment → j < i
  order i j a b e l =
      case (ltb j i)
      (λ d. ltb-true j i d)
      (λ d.
      let o : i ≤ j = ltb-false j i d in
      case (eqb i j)
      (λ f. let q : i ≡ j = eqb-true i j f in let z : (entry rs i).moment ≡ (entry rs j).moment = rw q in absurd (omega arith))
      (λ f. let ne : i ≡ j → ⊥ = eqb-false i j f in absurd (omega (arith, up.moments i j (omega arith) b (sym e)))))

  either : (a k t : ℕ) (r : Record) → holds (branch bs k) t ≡ true
      → (within a (branch bs k).start t r || (eqb r.address a && reach bs k (branch bs k).cut r.moment)) ≡ (eqb r.address a && reach bs (suc k) t r.moment)
  unfolding within reach
  either a k t r d = case (eqb r.address a) (λ e. rw (e, d)) (λ e. rw e)

  pub find_last : (k a t : ℕ) → k ≤ n → find (take nr rs) a (newest_of bs k) t ≡ record_no rs (last_row (sees rs a bs k t) nr)
  find_last zero a t l =
      nothing (take nr rs) a t ∙ ap (record_no rs) (sym (last_none (sees rs a bs 0 t) nr (λ j i. and_false (eqb (entry rs j).address a) (reach_none bs t (entry rs j).moment))))
  find_last (suc k) a t l =
      let ih : (u : ℕ) → find (take nr rs) a (newest_of bs k) u ≡ record_no rs (last_row (sees rs a bs k u) nr) = λ u. find_last k a u (omega arith) in
      let c : ℕ = (branch bs k).cut in
      let s : ℕ = (branch bs k).start in
      rw (top bs k zero_branch (omega arith))
      (case (holds (branch bs k) t)
      (λ d.
      let sep : (j i : ℕ) → j < nr → i < nr → sees rs a bs k c j ≡ true → within a s t (entry rs i) ≡ true → j < i =
      λ j i x y p q.
      let p' = and→ (eqb (entry rs j).address a) (reach bs k c (entry rs j).moment) p in
      let w : Within a s t (entry rs i) = within→ a s t (entry rs i) q in
      order i j y x (eqb-true (entry rs j).address a p'.0 ∙ sym w.at) (omega (arith, reach_below h k c (entry rs j).moment (omega arith) p'.1, w.low)) in
      rw (find_hold (take nr rs) a (branch bs k) (newest_of bs k) t d, latest_row rs nr a s t rows, ih c)
      (sym (record_no_or rs (last_row (λ j. within a s t (entry rs j)) nr) (last_row (sees rs a bs k c) nr))
      ∙ ap (record_no rs)
      (last_or (λ j. within a s t (entry rs j)) (sees rs a bs k c) nr sep
      ∙ last_same (λ j. within a s t (entry rs j) || sees rs a bs k c j) (sees rs a bs (suc k) t) nr (λ j i. either a k t (entry rs j) d))))
      (λ d.
      rw (find_skip (take nr rs) a (branch bs k) (newest_of bs k) t d)
      (ih t ∙ ap (record_no rs) (last_same (sees rs a bs k t) (sees rs a bs (suc k) t) nr (λ j i. rw (reach_skip bs k t (entry rs j).moment d))))))

-- a lookup at t gives the record k: it comes by its moment, and by that of no later record of the address
pub record Gives (rs : List Record) (nr : ℕ) (bs : List Branch) (n t k : ℕ) : Type 0 where
  pub reached : reach bs n t (entry rs k).moment ≡ true
  pub newest : (j : ℕ) → k < j → j < nr → (entry rs j).address ≡ (entry rs k).address → reach bs n t (entry rs j).moment ≡ true → ⊥

module _ {bs : List Branch} {n : ℕ} (h : Line bs n) (room : n ≤ length bs) {rs : List Record} {nr : ℕ} (up : Ascend rs nr) (rows : nr ≤ length rs) (t k : ℕ) (l : k < nr) where
  a : ℕ
  a = (entry rs k).address

  pub gives→ : is_at (entry rs k).moment (find (take nr rs) (entry rs k).address (newest_of bs n) t) ≡ true → Gives rs nr bs n t k
  gives→ e =
      go (last_row (sees rs (entry rs k).address bs n t) nr) refl (rw (find_last h room up rows n (entry rs k).address t (omega arith)) at e)
    where
      go : (x : ℕ) → last_row (sees rs (entry rs k).address bs n t) nr ≡ x → is_at (entry rs k).moment (record_no rs x) ≡ true → Gives rs nr bs n t k
      go zero d f = let z : false ≡ true = f in absurd_test z refl
      go (suc q) d f =
          let s = and→ (eqb (entry rs q).address (entry rs k).address) (reach bs n t (entry rs q).moment) (last_passes (sees rs (entry rs k).address bs n t) nr q d) in
          let i : (entry rs q).address ≡ (entry rs k).address = eqb-true _ _ s.0 in
          let m : (entry rs q).moment ≡ (entry rs k).moment = eqb-true _ _ f in
          let b : q < nr = omega (arith, last_inside (sees rs (entry rs k).address bs n t) nr) in
          let z : q ≡ k = case (ltb q k)
          (λ y. let y' : q < k = ltb-true q k y in absurd (omega (arith, up.moments q k y' l i)))
          (λ y. case (ltb k q)
          (λ w. let w' : k < q = ltb-true k q w in absurd (omega (arith, up.moments k q w' b (sym i))))
          (λ w. omega (arith, ltb-false q k y, ltb-false k q w))) in
          let d' : last_row (sees rs (entry rs k).address bs n t) nr ≡ suc k = d ∙ ap suc z in
          record {
            reached = sym (ap (reach bs n t) m) ∙ s.1;
            newest = λ j c o p r. absurd_test (→and (eq-eqb (entry rs j).address (entry rs k).address p) r) (last_after (sees rs (entry rs k).address bs n t) nr k d' j c o);
          }

  pub →gives : Gives rs nr bs n t k → is_at (entry rs k).moment (find (take nr rs) (entry rs k).address (newest_of bs n) t) ≡ true
  →gives g =
      let e : last_row (sees rs (entry rs k).address bs n t) nr ≡ suc k =
      last_at (sees rs (entry rs k).address bs n t) nr k l (→and (eq-eqb (entry rs k).address (entry rs k).address refl) g.reached)
      (λ j c o. case (sees rs (entry rs k).address bs n t j)
      (λ d. let s = and→ (eqb (entry rs j).address (entry rs k).address) (reach bs n t (entry rs j).moment) d in absurd (g.newest j c o (eqb-true _ _ s.0) s.1))
      (λ d. d)) in
      rw (find_last h room up rows n (entry rs k).address t (omega arith), e) (eq-eqb (entry rs k).moment (entry rs k).moment refl)
