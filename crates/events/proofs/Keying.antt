-- The laws of keys: put in order they are the events.
use mathlib.Core.Path.{◌≡◌, refl, ap, sym, ◌∙◌}
use mathlib.Core.Logic.{◌⊎◌, inl, inr}
use mathlib.Core.List.{List, [], ◌∷◌}
use mathlib.Core.Bool.{true}
use Prim.Native.Nat.{ℕ, zero, suc, ◌+◌, ◌-◌, ◌*◌, ◌≤◌, ◌<◌}
use native.Mathlib.Omega.{arith}
use lib.Dec.{leb, ltb, eqb}
use lib.ListN.{length, get_or}
use borrow.Author.Tests.{leb-true, le-leb, ltb-true, ltb-false, eqb-true, eqb-false, eq-eqb}
use Rattle.model.specs.declared.Branch.{Branch}
use Rattle.model.specs.Store.{◌∈◌, zero_branch}
use Rattle.model.specs.Lookup.{holds}
use Rattle.model.proofs.Base.{case, get_d_mem}
use Rattle.model.proofs.Ancestry.{→holds}
use Rattle.model.specs.ByNumber.{branch, held, Line}
use Rattle.model.proofs.ByNumber.{any_yes}
use Rattle.branch_marks.specs.Marks.{parent_of}
use Rattle.branch_marks.proofs.Holders.{parent_holder}
use Rattle.spans.specs.Order.{when, kind, Falling}
use Rattle.sorting.specs.Sorted.{tally, Sorted}
use Rattle.branch_marks.specs.Marks.{Held}
use Rattle.events.specs.Keys.{wanted_key, cut_key, Laid, Keyed}

-- tallies
tally_find : (v : ℕ) (xs : List ℕ) (lo h : ℕ) → 0 < tally v xs lo h → (q : ℕ) × (lo ≤ q) × (q < h) × (get_or xs q 0 ≡ v)
unfolding tally
tally_find v xs lo zero l = absurd (omega arith)
tally_find v xs lo (suc h) l =
    let more : 0 < tally v xs lo h → (q : ℕ) × (lo ≤ q) × (q < suc h) × (get_or xs q 0 ≡ v) =
    λ i. let r = tally_find v xs lo h i in (r.0, r.1, omega (arith, r.2), r.3) in
    case (leb lo h)
    (λ d.
    case (eqb (get_or xs h 0) v)
    (λ e. (h, leb-true lo h d, omega arith, eqb-true (get_or xs h 0) v e))
    (λ e. let l' : 0 < tally v xs lo h + 0 = rw (d, e) at l in more (omega arith)))
    (λ d. let l' : 0 < tally v xs lo h + 0 = rw d at l in more (omega arith))

tally_has : (v : ℕ) (xs : List ℕ) (lo h q : ℕ) → lo ≤ q → q < h → get_or xs q 0 ≡ v → 0 < tally v xs lo h
unfolding tally
tally_has v xs lo zero q a b e = absurd (omega arith)
tally_has v xs lo (suc h) q a b e =
    case (eqb q h)
    (λ d.
    let z : q ≡ h = eqb-true q h d in
    let e' : get_or xs h 0 ≡ v = rw z at e in
    rw (le-leb lo h (omega arith), eq-eqb (get_or xs h 0) v e') (omega arith))
    (λ d. let z : q ≡ h → ⊥ = eqb-false q h d in omega (arith, tally_has v xs lo h q a (omega arith) e))

tally_two : (v : ℕ) (xs : List ℕ) (lo h p q : ℕ) → lo ≤ p → p < q → q < h → get_or xs p 0 ≡ v → get_or xs q 0 ≡ v → 1 < tally v xs lo h
unfolding tally
tally_two v xs lo zero p q a o b e f = absurd (omega arith)
tally_two v xs lo (suc h) p q a o b e f =
    case (eqb q h)
    (λ d.
    let z : q ≡ h = eqb-true q h d in
    let f' : get_or xs h 0 ≡ v = rw z at f in
    rw (le-leb lo h (omega arith), eq-eqb (get_or xs h 0) v f') (omega (arith, tally_has v xs lo h p a (omega arith) e)))
    (λ d. let z : q ≡ h → ⊥ = eqb-false q h d in omega (arith, tally_two v xs lo h p q a o (omega arith) e f))

tally_nothing : (v : ℕ) (xs : List ℕ) (lo h : ℕ) → ((q : ℕ) → lo ≤ q → q < h → get_or xs q 0 ≡ v → ⊥) → tally v xs lo h ≡ 0
tally_nothing v xs lo h f =
    case (ltb 0 (tally v xs lo h))
    (λ d. let r = tally_find v xs lo h (ltb-true 0 (tally v xs lo h) d) in absurd (f r.0 r.1 r.2 r.3))
    (λ d. omega (arith, ltb-false 0 (tally v xs lo h) d))

tally_once : (v : ℕ) (xs : List ℕ) (lo h : ℕ) → ((p q : ℕ) → p < h → q < h → get_or xs p 0 ≡ v → get_or xs q 0 ≡ v → p ≡ q) → tally v xs lo h ≤ 1
unfolding tally
tally_once v xs lo zero f = omega arith
tally_once v xs lo (suc h) f =
    let ih : tally v xs lo h ≤ 1 = tally_once v xs lo h (λ p q a b. f p q (omega arith) (omega arith)) in
    case (leb lo h)
    (λ d.
    case (eqb (get_or xs h 0) v)
    (λ e.
    let z : tally v xs lo h ≡ 0 = tally_nothing v xs lo h (λ q a b g. let y : q ≡ h = f q h (omega arith) (omega arith) g (eqb-true (get_or xs h 0) v e) in omega arith) in
    rw (d, e) (omega arith))
    (λ e. rw (d, e) (omega arith)))
    (λ d. rw d (omega arith))

-- members by number
mem_get_d : (xs : List ℕ) (t : ℕ) → t ∈ xs → (q : ℕ) × (q < length xs) × (get_or xs q 0 ≡ t)
mem_get_d [] t i = absurd i
mem_get_d (x ∷ xs) t (inl e) = (0, omega arith, sym e)
mem_get_d (x ∷ xs) t (inr i) = let r = mem_get_d xs t i in (suc r.0, omega (arith, r.1), r.2)

-- the keys as they are laid
pub record Keys (bs : List Branch) (n : ℕ) (wanted : List ℕ) (ne : ℕ) (keys : List ℕ) : Type 0 where
  pub count : ne + 1 ≡ length wanted + n
  pub few : n ≤ 4096
  pub want : (q : ℕ) → q < length wanted → get_or keys q 0 ≡ wanted_key wanted q
  pub cut : (i : ℕ) → i < n - 1 → get_or keys (length wanted + i) 0 ≡ cut_key bs i

module _ {bs : List Branch} {n : ℕ} {wanted : List ℕ} {ne : ℕ} {old new : List ℕ} (h : Line bs n) (room : n ≤ length bs) (hw : Held bs n wanted) (many : 0 < n) (ks : Keys bs n wanted ne old) (so : Sorted 0 ne old new) where
  -- where a key was
  was : (k : ℕ) → k < ne → (q : ℕ) × (q < ne) × (get_or old q 0 ≡ get_or new k 0)
  was k l =
      let r = tally_find (get_or new k 0) old 0 ne (omega (arith, so.same (get_or new k 0), tally_has (get_or new k 0) new 0 ne k (omega arith) l refl)) in
      (r.0, r.2, r.3)

  goes : (q : ℕ) → q < ne → (k : ℕ) × (k < ne) × (get_or new k 0 ≡ get_or old q 0)
  goes q l =
      let r = tally_find (get_or old q 0) new 0 ne (omega (arith, so.same (get_or old q 0), tally_has (get_or old q 0) old 0 ne q (omega arith) l refl)) in
      (r.0, r.2, r.3)

  -- a key is that of a wanted moment or of a row
  record Wanted (k : ℕ) : Type 0 where
    at : ℕ
    inside : at < length wanted
    kind_is : kind new k ≡ 0
    when_is : when new k ≡ get_or wanted at 0

  record Hanging (k : ℕ) : Type 0 where
    row : ℕ
    inside : row + 1 < n
    kind_is : kind new k ≡ row + 1
    when_is : when new k ≡ (branch bs (row + 1)).cut
    key : get_or new k 0 ≡ cut_key bs row

  sort_of : (k : ℕ) → k < ne → Wanted k ⊎ Hanging k
  unfolding kind when
  sort_of k l =
      let w = was k l in
      case (ltb w.0 (length wanted))
      (λ d.
      let i = ltb-true w.0 (length wanted) d in
      let e : get_or new k 0 ≡ get_or wanted w.0 0 * 4294967296 = sym w.2 ∙ ks.want w.0 i in
      inl (record { at = w.0; inside = i; kind_is = omega (arith, e); when_is = omega (arith, e) }))
      (λ d.
      let i = ltb-false w.0 (length wanted) d in
      let x : length wanted + (w.0 - length wanted) ≡ w.0 = omega arith in
      let y : get_or old w.0 0 ≡ cut_key bs (w.0 - length wanted) = rw x at (ks.cut (w.0 - length wanted) (omega (arith, ks.count, w.1))) in
      let e : get_or new k 0 ≡ cut_key bs (w.0 - length wanted) = sym w.2 ∙ y in
      inr (record { row = w.0 - length wanted; inside = omega (arith, ks.count, w.1); kind_is = omega (arith, e, ks.few, ks.count, w.1); when_is = omega (arith, e, ks.few, ks.count, w.1); key = e }))

  hangs_at : (k : ℕ) → k < ne → 0 < kind new k → Hanging k
  hangs_at k l z = elim (sort_of k l) [ inl y ↦ absurd (omega (arith, y.kind_is)) | inr y ↦ y ]

  wanted_at : (k : ℕ) → k < ne → kind new k ≡ 0 → Wanted k
  wanted_at k l z = elim (sort_of k l) [ inl y ↦ y | inr y ↦ absurd (omega (arith, y.kind_is)) ]

  cut_held : (j : ℕ) → 0 < j → j < n → held bs n (branch bs j).cut ≡ true
  unfolding held
  cut_held j z l =
      let s = parent_holder h room j z l in
      any_yes (λ d. holds d (branch bs j).cut) bs zero_branch n (parent_of bs j) room (omega (arith, s.inside)) (→holds (branch bs (parent_of bs j)) (branch bs j).cut s.low s.high)

  one_cut : (i j : ℕ) → i < n → j < n → cut_key bs i ≡ cut_key bs j → i ≡ j
  one_cut i j a b e = omega (arith, e, ks.few)

  old_once : (r : ℕ) → r + 1 < n → (p q : ℕ) → p < ne → q < ne → get_or old p 0 ≡ cut_key bs r → get_or old q 0 ≡ cut_key bs r → p ≡ q
  old_once r l p q a b e f = omega (arith, at p a e, at q b f)
    where
      at : (x : ℕ) → x < ne → get_or old x 0 ≡ cut_key bs r → x ≡ length wanted + r
      at x i g =
          case (ltb x (length wanted))
          (λ d. let w = ks.want x (ltb-true x (length wanted) d) in absurd (omega (arith, w, g, ks.few)))
          (λ d.
          let o = ltb-false x (length wanted) d in
          let y : length wanted + (x - length wanted) ≡ x = omega arith in
          let c : get_or old x 0 ≡ cut_key bs (x - length wanted) = rw y at (ks.cut (x - length wanted) (omega (arith, ks.count))) in
          omega (arith, one_cut (x - length wanted) r (omega (arith, ks.count)) (omega arith) (sym c ∙ g)))

  falling : Falling new ne
  unfolding when
  falling = record { falls = λ a b l i. omega (arith, so.ordered.falls a b (omega arith) l i) }

  row_kind : (k j : ℕ) → get_or new k 0 ≡ cut_key bs (j - 1) → 0 < j → j < n → kind new k ≡ j
  unfolding kind
  row_kind k j e z l = omega (arith, e, ks.few)

  leaf_kind : (k q : ℕ) → get_or new k 0 ≡ wanted_key wanted q → kind new k ≡ 0
  unfolding kind
  leaf_kind k q e = omega (arith, e)

  leaf_when : (k q : ℕ) → get_or new k 0 ≡ wanted_key wanted q → when new k ≡ get_or wanted q 0
  unfolding when
  leaf_when k q e = omega (arith, e)

  pub keyed : Keyed bs n wanted ne new
  keyed =
      record {
        count = ks.count;
        tree =
            record {
              order = falling;
              inside =
                  λ k l.
                  elim (sort_of k l) [
                    | inl y ↦ rw y.when_is (hw.each (get_or wanted y.at 0) (get_d_mem wanted y.at 0 y.inside))
                    | inr y ↦ rw y.when_is (cut_held (y.row + 1) (omega arith) y.inside)
                  ];
              inner = λ k l z. let y = hangs_at k l z in (omega (arith, y.kind_is, y.inside), rw y.kind_is y.when_is);
              once =
                  λ a b i j z e.
                  let y = hangs_at a i z in
                  let w = hangs_at b j (omega arith) in
                  let r : y.row ≡ w.row = omega (arith, y.kind_is, w.kind_is) in
                  let kb : get_or new b 0 ≡ cut_key bs y.row = w.key ∙ ap (cut_key bs) (sym r) in
                  let few = tally_once (cut_key bs y.row) old 0 ne (old_once y.row y.inside) in
                  let s = so.same (cut_key bs y.row) in
                  case (ltb a b)
                  (λ d. absurd (omega (arith, few, s, tally_two (cut_key bs y.row) new 0 ne a b (omega arith) (ltb-true a b d) j y.key kb)))
                  (λ d.
                  case (ltb b a)
                  (λ f. absurd (omega (arith, few, s, tally_two (cut_key bs y.row) new 0 ne b a (omega arith) (ltb-true b a f) i kb y.key)))
                  (λ f. omega (arith, ltb-false a b d, ltb-false b a f)));
              rows =
                  λ j z l.
                  let g = goes (length wanted + (j - 1)) (omega (arith, ks.count)) in
                  let c = ks.cut (j - 1) (omega arith) in
                  (g.0, g.1, row_kind g.0 j (g.2 ∙ c) z l);
            };
        leaves =
            record {
              leaf = λ k l z. let y = wanted_at k l z in rw y.when_is (get_d_mem wanted y.at 0 y.inside);
              every =
                  λ t i.
                  let m = mem_get_d wanted t i in
                  let g = goes m.0 (omega (arith, ks.count, m.1, many)) in
                  let e : get_or new g.0 0 ≡ wanted_key wanted m.0 = g.2 ∙ ks.want m.0 m.1 in
                  (g.0, g.1, leaf_kind g.0 m.0 e, leaf_when g.0 m.0 e ∙ m.2);
            };
      }

-- the keys when both kinds are laid
pub keys_of : {bs : List Branch} {n : ℕ} {wanted : List ℕ} {old mid new : List ℕ} → 0 < n → n ≤ 4096
    → Laid (wanted_key wanted) 0 (length wanted) old mid → Laid (cut_key bs) (length wanted) (n - 1) mid new → Keys bs n wanted (length wanted + n - 1) new
keys_of {bs} {n} {wanted} {old} {mid} {new} z l f g =
    record {
      count = omega arith;
      few = l;
      want = λ q a. g.below q a ∙ (let e : 0 + q ≡ q = omega arith in rw e at (f.inside q a));
      cut = g.inside;
    }
