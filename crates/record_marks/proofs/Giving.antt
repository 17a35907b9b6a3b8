-- Spans of records: what the bytes tell is whether a lookup at a wanted moment gives the record.
use mathlib.Core.Path.{◌≡◌, refl, ap, sym, ◌∙◌}
use mathlib.Core.Logic.{◌⊎◌, inl, inr}
use mathlib.Core.List.{List, [], ◌∷◌}
use mathlib.Core.Bool.{true, cond}
use Prim.Native.Nat.{ℕ, zero, suc, ◌+◌, ◌-◌, ◌≤◌, ◌<◌}
use native.Mathlib.Omega.{arith}
use lib.Dec.{ltb, eqb}
use lib.ListN.{length, set, take}
use borrow.Author.Tests.{ltb-true, ltb-false, eqb-true, eqb-false, eq-eqb, le-leb, lt-leb}
use Rattle.model.specs.declared.Branch.{Branch}
use Rattle.model.specs.declared.Record.{Record}
use Rattle.model.specs.Store.{any, ◌∈◌}
use Rattle.model.specs.Lookup.{is_at}
use Rattle.model.proofs.Base.{case, any_mem, mem_any}
use Rattle.model.specs.ByNumber.{find, entry, newest_of, Line, Ascend}
use Rattle.branch_marks.specs.Marks.{bit, Placed}
use Rattle.spans.specs.Reach.{reach}
use Rattle.spans.specs.Order.{when, kind, Tree, Leaves, Sums, Firsts, Numbered}
use Rattle.spans.proofs.Reaching.{reach_trans, reach_line}
use Rattle.spans.proofs.Seeing.{Gives, gives→, →gives}
use Rattle.spans.proofs.Framing.{numbered}
use Rattle.record_marks.specs.Marks.{address_of, low_of, high_of, spans_laid, given_row, GivenBy, Stopped}
use Rattle.record_marks.proofs.Hopping.{Rows, Hops, Told, yes_told, no_told, Marking, free_at, full_at, hops_set, hops_keep, marking_step}

-- the leaves among the events
leaf_list : List ℕ → ℕ → List ℕ
leaf_list keys zero = []
leaf_list keys (suc k) = cond (eqb (kind keys k) 0) (when keys k ∷ leaf_list keys k) (leaf_list keys k)

leaf_mem : (keys : List ℕ) (ne k : ℕ) → k < ne → kind keys k ≡ 0 → when keys k ∈ leaf_list keys ne
unfolding leaf_list
leaf_mem keys zero k l e = absurd (omega arith)
leaf_mem keys (suc ne) k l e =
    case (eqb k ne)
    (λ d. let q : k ≡ ne = eqb-true k ne d in let z : eqb (kind keys ne) 0 ≡ true = eq-eqb (kind keys ne) 0 (rw q at e) in rw z (inl (ap (when keys) q)))
    (λ d.
    let q : k ≡ ne → ⊥ = eqb-false k ne d in
    let ih : when keys k ∈ leaf_list keys ne = leaf_mem keys ne k (omega arith) e in
    case (eqb (kind keys ne) 0) (λ z. rw z (inr ih)) (λ z. rw z ih))

mem_leaf : (keys : List ℕ) (ne t : ℕ) → t ∈ leaf_list keys ne → (k : ℕ) × (k < ne) × (kind keys k ≡ 0) × (when keys k ≡ t)
unfolding leaf_list
mem_leaf keys zero t i = absurd i
mem_leaf keys (suc ne) t i =
    let more : t ∈ leaf_list keys ne → (k : ℕ) × (k < suc ne) × (kind keys k ≡ 0) × (when keys k ≡ t) =
    λ j. let m = mem_leaf keys ne t j in (m.0, omega (arith, m.1), m.2, m.3) in
    case (eqb (kind keys ne) 0)
    (λ z.
    let i' : (t ≡ when keys ne) ⊎ (t ∈ leaf_list keys ne) = rw z at i in
    elim i' [ inl e ↦ (ne, omega arith, eqb-true (kind keys ne) 0 z, sym e) | inr j ↦ more j ])
    (λ z. more (rw z at i))

own_leaves : (keys : List ℕ) (ne : ℕ) → Leaves (leaf_list keys ne) keys ne
own_leaves keys ne = record { leaf = leaf_mem keys ne; every = mem_leaf keys ne }

-- the spans of the records
abbrev pub at_moment : (ℕ → ℕ) → List Record → ℕ → ℕ
at_moment f rs k = f (entry rs k).moment

module _ {bs : List Branch} {n : ℕ} {rs : List Record} {nr : ℕ} {lo hi : ℕ → ℕ} (h : Line bs n) (room : n ≤ length bs) (up : Ascend rs nr) (rows : nr ≤ length rs) (pl : Placed bs n rs nr) where
  rows_from : {wanted : List ℕ} → Numbered bs n wanted lo hi → Rows (address_of rs) (at_moment lo rs) (at_moment hi rs) nr
  rows_from nb =
      record {
        rises = up.addresses;
        nested =
            λ k j p a b e x y z w.
            let hu = pl.each j b in
            let hm = pl.each k (omega arith) in
            let t = nb.at (entry rs j).moment p hu x y in
            let c : reach bs n (entry rs j).moment (entry rs k).moment ≡ true =
            reach_line h n t.0 (entry rs j).moment (entry rs k).moment (omega arith) (t.1.reached (entry rs j).moment hu x y) (t.1.reached (entry rs k).moment hm z w) (omega (arith, up.moments k j a b (sym e))) in
            let go : (q : ℕ) → at_moment lo rs j ≤ q → q < at_moment hi rs j → (at_moment lo rs k ≤ q) × (q < at_moment hi rs k) =
            λ q i o.
            let s = nb.at (entry rs j).moment q hu i o in
            s.1.inside (entry rs k).moment hm (reach_trans h n s.0 (entry rs j).moment (entry rs k).moment (omega arith) (s.1.reached (entry rs j).moment hu i o) c) in
            ((go (at_moment lo rs j) (omega arith) (omega arith)).0, omega (arith, (go (at_moment hi rs j - 1) (omega arith) (omega arith)).1));
      }

  module _ {wanted : List ℕ} (nb : Numbered bs n wanted lo hi) (k : ℕ) (l : k < nr) where
    told_given : {v : ℕ} → Told (address_of rs) (at_moment lo rs) (at_moment hi rs) nr k v → v ≡ given_row bs n rs nr wanted k
    unfolding given_row
    told_given {v} (yes_told e p f) =
        let t = nb.at (entry rs k).moment p (pl.each k l) f.low f.high in
        let g : Gives rs nr bs n t.0 k =
        record {
          reached = t.1.reached (entry rs k).moment (pl.each k l) f.low f.high;
          newest =
              λ j c o q r.
              let i = t.1.inside (entry rs j).moment (pl.each j o) r in
              f.free (record { row = j; later = c; inside = o; same = q; low = i.0; high = i.1 });
        } in
        let y : any (λ t. is_at (entry rs k).moment (find (take nr rs) (entry rs k).address (newest_of bs n) t)) wanted ≡ true =
        any_mem (λ t. is_at (entry rs k).moment (find (take nr rs) (entry rs k).address (newest_of bs n) t)) t.0 wanted t.1.listed (→gives h room up rows t.0 k l g) in
        rw y e
    told_given {v} (no_told e c) =
        case (any (λ t. is_at (entry rs k).moment (find (take nr rs) (entry rs k).address (newest_of bs n) t)) wanted)
        (λ d.
        let m = mem_any (λ t. is_at (entry rs k).moment (find (take nr rs) (entry rs k).address (newest_of bs n) t)) wanted d in
        let g : Gives rs nr bs n m.0 k = gives→ h room up rows m.0 k l m.2 in
        let p = nb.of m.0 m.1 in
        let i = p.1.inside (entry rs k).moment (pl.each k l) g.reached in
        let w = c p.0 i.0 i.1 in
        absurd (g.newest w.row w.later w.inside w.same (p.1.reached (entry rs w.row).moment (pl.each w.row w.inside) w.low w.high)))
        (λ d. rw d e)

module _ {bs : List Branch} {n : ℕ} {rs : List Record} {nr : ℕ} {keys : List ℕ} {ne : ℕ} {sums firsts : List ℕ} (h : Line bs n) (room : n ≤ length bs) (up : Ascend rs nr) (rows : nr ≤ length rs)
    (pl : Placed bs n rs nr) (tr : Tree bs n keys ne) (su : Sums bs keys ne ne sums) (fi : Firsts bs n keys ne 0 sums firsts) where
  pub span_rows : Rows (address_of rs) (low_of bs n firsts rs) (high_of bs n keys ne sums firsts rs) nr
  span_rows = rows_from h room up rows pl (numbered h room tr (own_leaves keys ne) su fi)

  pub all_given : {old new : List ℕ} → Marking (address_of rs) (low_of bs n firsts rs) (high_of bs n keys ne sums firsts rs) nr 0 old new → GivenBy bs n rs nr keys ne old new
  all_given m =
      record {
        marks =
            λ wanted lv.
            record {
              first = λ k l. told_given h room up rows pl (numbered h room tr lv su fi) k l (m.done k (omega arith) l);
              rest = m.rest;
              long = m.long;
            };
      }

-- a byte by the number where the jumps stopped
pub told_by : {A L H : ℕ → ℕ} {nr k : ℕ} {owner jump : List ℕ} → Rows A L H nr → Hops A L H nr (suc k) owner jump → k < nr → {r v : ℕ} → Stopped owner jump (A k + 1) (L k) (H k) r → v ≡ bit (ltb r (H k)) → Told A L H nr k v
told_by {A} {L} {H} {nr} {k} h hs l {r} {v} s e =
    case (ltb r (H k))
    (λ d. yes_told (e ∙ rw d) r (free_at h hs l s (ltb-true r (H k) d)))
    (λ d. no_told (e ∙ rw d) (full_at h hs l s (ltb-false r (H k) d)))

pub told_none : {A L H : ℕ → ℕ} {nr k : ℕ} → H k ≤ L k → Told A L H nr k 0
told_none l = no_told refl (λ p a b. absurd (omega arith))

-- one turn, at the row before k
module _ {A L H : ℕ → ℕ} {nr k : ℕ} {owner jump : List ℕ} (h : Rows A L H nr) (z : 0 < k) (i : k ≤ nr) (hs : Hops A L H nr k owner jump) where
  before : Hops A L H nr (suc (k - 1)) owner jump
  before = let e : k ≡ suc (k - 1) = omega arith in rw (← e) hs

  module _ {old new : List ℕ} (m : Marking A L H nr k old new) (room : nr ≤ length old) where
    marks_before : Marking A L H nr (suc (k - 1)) old new
    marks_before = let e : k ≡ suc (k - 1) = omega arith in rw (← e) m

    pub turn_none : {lo hi : ℕ} → lo ≡ L (k - 1) → hi ≡ H (k - 1) → hi ≤ lo → Hops A L H nr (k - 1) owner jump × Marking A L H nr (k - 1) old (set new (k - 1) 0)
    turn_none d e l = (hops_keep h before (omega arith) (omega arith), marking_step marks_before (omega arith) room (told_none (omega arith)))

    pub turn_mark : {a lo hi r v : ℕ} → a ≡ A (k - 1) + 1 → lo ≡ L (k - 1) → hi ≡ H (k - 1) → lo < hi → lo < length owner → lo < length jump → Stopped owner jump a lo hi r → v ≡ bit (ltb r hi)
        → Hops A L H nr (k - 1) (set owner lo a) (set jump lo hi) × Marking A L H nr (k - 1) old (set new (k - 1) v)
    turn_mark {a} {lo} {hi} {r} {v} b d e l x y s w =
        let s' : Stopped owner jump (A (k - 1) + 1) (L (k - 1)) (H (k - 1)) r = rw (b, d, e) at s in
        let w' : v ≡ bit (ltb r (H (k - 1))) = rw e at w in
        (rw (b, d, e) (hops_set h before (omega arith) (omega arith) (omega arith) (omega arith)), marking_step marks_before (omega arith) room (told_by h before (omega arith) s' w'))

-- what a turn lays, at the row before k
pub record Laying (L H v : ℕ → ℕ) (nr k : ℕ) (old new : List ℕ) : Type 0 where
  pub is : new ≡ spans_laid L H v nr (nr - k) old

pub laying_start : {L H v : ℕ → ℕ} {nr : ℕ} {t : List ℕ} → Laying L H v nr nr t t
unfolding spans_laid
laying_start {nr = nr} = let e : nr - nr ≡ 0 = omega arith in record { is = rw e }

module _ {L H v : ℕ → ℕ} {nr k : ℕ} {old new : List ℕ} (g : Laying L H v nr k old new) (z : 0 < k) (i : k ≤ nr) where
  steps : nr - (k - 1) ≡ suc (nr - k)
  steps = omega arith

  row : nr - suc (nr - k) ≡ k - 1
  row = omega arith

  pub laying_skip : {lo hi : ℕ} → lo ≡ L (k - 1) → hi ≡ H (k - 1) → hi ≤ lo → Laying L H v nr (k - 1) old new
  unfolding spans_laid
  laying_skip d e l = record { is = g.is ∙ rw (steps, row, ← d, ← e, le-leb _ _ l) }

  pub laying_put : {lo hi w : ℕ} → lo ≡ L (k - 1) → hi ≡ H (k - 1) → lo < hi → w ≡ v (k - 1) → Laying L H v nr (k - 1) old (set new lo w)
  unfolding spans_laid
  laying_put {lo} {hi} {w} d e l f = record { is = rw (steps, row, ← d, ← e, ← f, lt-leb hi lo l, ← g.is) }
