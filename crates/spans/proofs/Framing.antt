-- The events of the branches as a frame; what a lookup sees are the events on its way.
use mathlib.Core.Path.{◌≡◌, refl, ap, sym, ◌∙◌}
use mathlib.Core.Logic.{inl, inr}
use mathlib.Core.List.{List}
use mathlib.Core.Bool.{Bool, true, false}
use Prim.Native.Nat.{ℕ, zero, suc, ◌+◌, ◌-◌, ◌/◌, ◌≤◌, ◌<◌}
use native.Mathlib.Omega.{arith}
use lib.Dec.{leb, ltb, eqb}
use lib.ListN.{length, get_or, take}
use borrow.Author.Tests.{leb-true, leb-false, ltb-true, ltb-false, eqb-true, eqb-false, eq-eqb, ne_eqb, le-leb}
use Rattle.std.specs.List.Sorted.{IsPartitionedBy, IsPartitionPoint}
use Rattle.std.proofs.lemmas.List.{get_or-take, get_or_default, length-take}
use Rattle.model.specs.declared.Branch.{Branch}
use Rattle.model.specs.Lookup.{holds}
use Rattle.model.proofs.Base.{case, absurd_test}
use Rattle.model.proofs.Ancestry.{→holds}
use Rattle.model.specs.ByNumber.{branch, Line}
use Rattle.branch_marks.specs.Marks.{holder, Holder, parent_of}
use Rattle.branch_marks.proofs.Holders.{holder_of, holder_is, parent_holder}
use Rattle.spans.specs.Last.{last_row}
use Rattle.spans.proofs.Lasting.{last_at, last_passes, last_inside}
use Rattle.spans.specs.Reach.{reach}
use Rattle.spans.specs.Order.{reaches, when, kind, above, first_of, past_of, Falling, Tree, Leaves, Sums, Firsts, span_low, span_high, Numbers, Numbered}
use Rattle.spans.proofs.Reaching.{reach_own, reach_next, reach→, reach_none, reach_down}
use Rattle.spans.proofs.Blocks.{Frame, On, here, up, Block, Span, descend, leaf_in, in_leaf, rising}

pub last_high : (p : ℕ → Bool) (n j : ℕ) → last_row p n ≤ j → j < n → p j ≡ false
unfolding last_row
last_high p zero j a b = absurd (omega arith)
last_high p (suc n) j a b =
    case (p n)
    (λ d. let a' : suc n ≤ j = rw d at a in absurd (omega arith))
    (λ d. case (eqb j n) (λ f. rw (eqb-true j n f) d) (λ f. let ne : j ≡ n → ⊥ = eqb-false j n f in last_high p n j (rw d at a) (omega arith)))

last_low : (p : ℕ → Bool) (n k : ℕ) → k < last_row p n → (c : ℕ) × (k ≤ c) × (c < n) × (p c ≡ true)
last_low p n k l = go (last_row p n) refl l
  where
    go : (x : ℕ) → last_row p n ≡ x → k < x → (c : ℕ) × (k ≤ c) × (c < n) × (p c ≡ true)
    go zero e i = absurd (omega arith)
    go (suc c) e i = (c, omega arith, omega (arith, last_inside p n), last_passes p n c e)

pub above_within : (keys : List ℕ) (ne m : ℕ) → above keys ne m ≤ ne
unfolding above
above_within keys ne m = last_inside (λ k. leb m (when keys k)) ne

pub above_late : (keys : List ℕ) (ne m k : ℕ) → above keys ne m ≤ k → k < ne → when keys k < m
unfolding above
above_late keys ne m k a b = leb-false m (when keys k) (last_high (λ q. leb m (when keys q)) ne k a b)

module _ {keys : List ℕ} {ne : ℕ} (f : Falling keys ne) where
  pub above_early : (m k : ℕ) → k < above keys ne m → m ≤ when keys k
  unfolding above
  above_early m k l =
      let c = last_low (λ q. leb m (when keys q)) ne k l in
      omega (arith, leb-true m (when keys c.0) c.3, f.falls k c.0 c.1 c.2)

  pub above_order : (m x : ℕ) → m ≤ x → above keys ne x ≤ above keys ne m
  above_order m x l =
      case (leb (above keys ne x) (above keys ne m))
      (λ d. leb-true _ _ d)
      (λ d.
      let z : above keys ne m < above keys ne x = leb-false _ _ d in
      absurd (omega (arith, above_late keys ne m (above keys ne m) (omega arith) (omega (arith, above_within keys ne x)), above_early x (above keys ne m) z)))

-- the search
pub search_up : (keys : List ℕ) (ne m mid : ℕ) → mid < ne → m ≤ get_or keys mid 0 / 4294967296 → mid + 1 ≤ above keys ne m
unfolding when
search_up keys ne m mid l a =
    case (ltb mid (above keys ne m))
    (λ d. omega (arith, ltb-true mid (above keys ne m) d))
    (λ d. absurd (omega (arith, above_late keys ne m mid (ltb-false mid (above keys ne m) d) l)))

pub search_down : {keys : List ℕ} {ne : ℕ} → Falling keys ne → (m mid : ℕ) → get_or keys mid 0 / 4294967296 < m → above keys ne m ≤ mid
unfolding when
search_down {keys} {ne} f m mid a =
    case (leb (above keys ne m) mid)
    (λ d. leb-true _ _ d)
    (λ d. absurd (omega (arith, above_early f m mid (leb-false (above keys ne m) mid d))))

-- whether a number is that of the search
pub not_above : {keys : List ℕ} {ne : ℕ} → Falling keys ne → (m c : ℕ) → 0 < c → get_or keys (c - 1) 0 / 4294967296 < m → eqb c (above keys ne m) ≡ false
not_above {keys} {ne} f m c z l = ne_eqb c (above keys ne m) (λ (e : c ≡ above keys ne m). omega (arith, search_down f m (c - 1) l))

pub more_above : (keys : List ℕ) (ne m c : ℕ) → c < ne → m ≤ get_or keys c 0 / 4294967296 → eqb c (above keys ne m) ≡ false
more_above keys ne m c l a = ne_eqb c (above keys ne m) (λ (e : c ≡ above keys ne m). omega (arith, search_up keys ne m c l a))

pub just_above : {keys : List ℕ} {ne : ℕ} → Falling keys ne → (m c : ℕ) → c ≤ ne → (0 < c → m ≤ get_or keys (c - 1) 0 / 4294967296) → (c < ne → get_or keys c 0 / 4294967296 < m)
    → eqb c (above keys ne m) ≡ true
just_above {keys} {ne} f m c l a b =
    let low : c ≤ above keys ne m = case (ltb 0 c) (λ d. let z = ltb-true 0 c d in omega (arith, search_up keys ne m (c - 1) (omega arith) (a z))) (λ d. let z = ltb-false 0 c d in omega arith) in
    let high : above keys ne m ≤ c = case (ltb c ne) (λ d. search_down f m c (b (ltb-true c ne d))) (λ d. omega (arith, ltb-false c ne d, above_within keys ne m)) in
    eq-eqb c (above keys ne m) (omega (arith, low, high))

-- the keys pass the test of the search up to where they fall below the moment, and the search finds that place
module _ {keys : List ℕ} {ne : ℕ} (f : Falling keys ne) (within : ne ≤ length keys) (m : ℕ) where
  taken : (k d : ℕ) → k < ne → get_or (take ne keys) k d ≡ get_or keys k 0
  taken k d l = get_or-take ne keys k d l ∙ get_or_default keys k d 0 (omega arith)

  pub above_parted : IsPartitionedBy (λ (key : ℕ). leb m (key / 4294967296)) (take ne keys)
  unfolding when
  above_parted i j d l b e =
      let b' : j < ne = omega (arith, length-take ne keys) in
      let a : m ≤ get_or keys j 0 / 4294967296 = rw (taken j d b') at (leb-true m (get_or (take ne keys) j d / 4294967296) e) in
      rw (taken i d (omega arith)) (le-leb m (get_or keys i 0 / 4294967296) (omega (arith, f.falls i j l b')))

  pub above_point : {c : ℕ} → c ≤ length (take ne keys) → IsPartitionPoint (λ (key : ℕ). leb m (key / 4294967296) ≡ true) (λ (key : ℕ). leb m (key / 4294967296) ≡ false) (take ne keys) c → c ≡ above keys ne m
  above_point {c} b p =
      eqb-true c (above keys ne m)
      (just_above f m c (omega (arith, length-take ne keys))
      (λ z. rw (taken (c - 1) 0 (omega (arith, length-take ne keys))) at (leb-true m (get_or (take ne keys) (c - 1) 0 / 4294967296) (p.0 (c - 1) 0 (omega arith) (omega arith))))
      (λ z. rw (taken c 0 z) at (leb-false m (get_or (take ne keys) c 0 / 4294967296) (p.1 c 0 (omega arith) (omega (arith, length-take ne keys))))))

pub tried : {keys : List ℕ} {ne : ℕ} → Falling keys ne → (m c : ℕ) → c ≤ ne → (c < ne → get_or keys c 0 / 4294967296 < m) → reaches keys m c ≡ eqb c (above keys ne m)
tried {keys} {ne} f m c l b =
    case (eqb c 0)
    (λ d. let z : c ≡ 0 = eqb-true c 0 d in rw d (sym (just_above f m c l (λ q. absurd (omega arith)) b)))
    (λ d.
    let z : c ≡ 0 → ⊥ = eqb-false c 0 d in
    case (leb m (get_or keys (c - 1) 0 / 4294967296))
    (λ e. rw (d, e) (sym (just_above f m c l (λ q. leb-true m (get_or keys (c - 1) 0 / 4294967296) e) b)))
    (λ e. rw (d, e) (sym (not_above f m c (omega arith) (leb-false m (get_or keys (c - 1) 0 / 4294967296) e)))))

-- the event where the row j hangs
unfoldable pub event_of : List ℕ → ℕ → ℕ → ℕ
event_of keys ne j = last_row (λ k. eqb (kind keys k) j) ne - 1

-- the row of an event
abbrev pub row_of : List Branch → ℕ → List ℕ → ℕ → ℕ
row_of bs n keys k = holder bs n (when keys k)

module _ {bs : List Branch} {n : ℕ} {keys : List ℕ} {ne : ℕ} (h : Line bs n) (room : n ≤ length bs) (ev : Tree bs n keys ne) where
  event_is : (j k : ℕ) → 0 < j → k < ne → kind keys k ≡ j → event_of keys ne j ≡ k
  unfolding event_of
  event_is j k z l e =
      let y : last_row (λ q. eqb (kind keys q) j) ne ≡ suc k =
      last_at (λ q. eqb (kind keys q) j) ne k l (eq-eqb (kind keys k) j e)
      (λ i a b. ne_eqb (kind keys i) j (λ (d : kind keys i ≡ j). let x : k ≡ i = ev.once k i l b (omega arith) (e ∙ sym d) in omega arith)) in
      omega (arith, y)

  parent : (j : ℕ) → 0 < j → j < n → Holder bs j (branch bs j).cut (parent_of bs j)
  parent j z l = parent_holder h room j z l

  pub cut_row : (j : ℕ) → 0 < j → j < n → parent_of bs j ≡ holder bs n (branch bs j).cut
  cut_row j z l = let s = parent j z l in holder_is h.stairs n (branch bs j).cut (parent_of bs j) (omega arith) (omega (arith, s.inside)) s.low s.high

  pub event_held : (k : ℕ) → k < ne → Holder bs n (when keys k) (holder bs n (when keys k))
  event_held k l = holder_of bs n (when keys k) room (ev.inside k l)

  module _ {i m : ℕ} (l : i < n) (a : (branch bs i).start ≤ m) (b : m ≤ (branch bs i).end) where
    pub window_low : first_of bs keys ne i ≤ above keys ne m
    unfolding first_of
    window_low = above_order ev.order m ((branch bs i).end + 1) (omega arith)

    pub window_high : above keys ne m ≤ past_of bs keys ne i
    unfolding past_of
    window_high = above_order ev.order (branch bs i).start m a

  pub seated : (k : ℕ) → k < ne → (row_of bs n keys k < n) × (first_of bs keys ne (row_of bs n keys k) ≤ k) × (k < past_of bs keys ne (row_of bs n keys k))
  unfolding first_of past_of
  seated k l =
      let s = event_held k l in (
        s.inside,
        case (leb (first_of bs keys ne (row_of bs n keys k)) k) (λ d. leb-true _ _ d)
            (λ d. let z : k < above keys ne ((branch bs (row_of bs n keys k)).end + 1) = leb-false _ _ d in absurd (omega (arith, above_early ev.order ((branch bs (row_of bs n keys k)).end + 1) k z, s.high))),
        case (ltb k (past_of bs keys ne (row_of bs n keys k))) (λ d. ltb-true _ _ d)
            (λ d. let z : above keys ne (branch bs (row_of bs n keys k)).start ≤ k = ltb-false _ _ d in absurd (omega (arith, above_late keys ne (branch bs (row_of bs n keys k)).start k z l, s.low))),
      )

  pub same_row : (i k : ℕ) → i < n → first_of bs keys ne i ≤ k → k < past_of bs keys ne i → row_of bs n keys k ≡ i
  unfolding first_of past_of
  same_row i k l a b =
      let z : k < ne = omega (arith, above_within keys ne (branch bs i).start) in
      let x = above_late keys ne ((branch bs i).end + 1) k a z in
      let y = above_early ev.order (branch bs i).start k b in
      sym (holder_is h.stairs n (when keys k) i (omega arith) l y (omega arith))

  pub windowed : (i : ℕ) → i < n → (first_of bs keys ne i ≤ past_of bs keys ne i) × (past_of bs keys ne i ≤ ne)
  unfolding first_of past_of
  windowed i l = (above_order ev.order (branch bs i).start ((branch bs i).end + 1) (omega (arith, h.stairs.ordered i l)), above_within keys ne (branch bs i).start)

  pub hangs : (k : ℕ) → k < ne → 0 < kind keys k → (row_of bs n keys k < kind keys k) × (kind keys k < n) × (event_of keys ne (kind keys k) ≡ k)
  hangs k l z =
      let i = ev.inner k l z in
      let s = parent (kind keys k) z i.0 in
      let e : row_of bs n keys k ≡ parent_of bs (kind keys k) = ap (holder bs n) i.1 ∙ sym (cut_row (kind keys k) z i.0) in
      (omega (arith, e, s.inside), i.0, event_is (kind keys k) k z l refl)

  pub hung : (j : ℕ) → 0 < j → j < n → (event_of keys ne j < ne) × (kind keys (event_of keys ne j) ≡ j)
  hung j z l =
      let k = ev.rows j z l in
      let e : event_of keys ne j ≡ k.0 = event_is j k.0 z k.1 k.2 in
      (omega (arith, e, k.1), ap (kind keys) e ∙ k.2)

  -- a row's events come before the one where it hangs
  pub past_first : (k : ℕ) → k < ne → 0 < kind keys k → past_of bs keys ne (kind keys k) ≤ k
  unfolding past_of
  past_first k l z =
      case (leb (past_of bs keys ne (kind keys k)) k) (λ d. leb-true _ _ d)
      (λ d.
      let y : k < above keys ne (branch bs (kind keys k)).start = leb-false _ _ d in
      let i = ev.inner k l z in
      let s = parent (kind keys k) z i.0 in
      absurd (omega (arith, above_early ev.order (branch bs (kind keys k)).start k y, i.1, s.high, h.stairs.apart (parent_of bs (kind keys k)) (kind keys k) s.inside i.0)))

  module _ {sums firsts : List ℕ} (su : Sums bs keys ne ne sums) (fi : Firsts bs n keys ne 0 sums firsts) where
    pub frame : Frame n ne (kind keys) (row_of bs n keys) (first_of bs keys ne) (past_of bs keys ne) (event_of keys ne) (λ k. get_or sums k 0) (λ i. get_or firsts i 0)
    frame =
        record {
          seat = seated;
          same = same_row;
          window = windowed;
          child = hangs;
          event = hung;
          rises = su.rises;
          leaf = su.leaf;
          inner = su.inner;
          next =
              λ j z l.
              let v = hung j z l in
              let x = fi.next (event_of keys ne j) (omega arith) v.0 (omega (arith, v.1)) in
              rw v.1 at x;
        }

  -- one step of the way up
  cut_of : (e : ℕ) → e < ne → 0 < row_of bs n keys e → when keys (event_of keys ne (row_of bs n keys e)) ≡ (branch bs (row_of bs n keys e)).cut
  cut_of e l z =
      let v = hung (row_of bs n keys e) z (seated e l).0 in
      (ev.inner (event_of keys ne (row_of bs n keys e)) v.0 (omega (arith, v.1))).1 ∙ ap (λ (j : ℕ). (branch bs j).cut) v.1

  lift : (j m : ℕ) → 0 < j → j < n → reach bs n (branch bs j).cut m ≡ reach bs j (branch bs j).cut m
  lift j m z l =
      let s = parent j z l in
      reach_down h n (branch bs j).cut (parent_of bs j) m (omega arith) (omega (arith, s.inside)) s.low s.high
      ∙ sym (reach_down h j (branch bs j).cut (parent_of bs j) m (omega arith) s.inside s.low s.high)

  open_row : (e m : ℕ) → e < ne → reach bs n (when keys e) m ≡ reach bs (suc (row_of bs n keys e)) (when keys e) m
  open_row e m l = let s = event_held e l in reach_down h n (when keys e) (row_of bs n keys e) m (omega arith) s.inside s.low s.high

  event_holds : (e : ℕ) → e < ne → holds (branch bs (row_of bs n keys e)) (when keys e) ≡ true
  event_holds e l = let s = event_held e l in →holds (branch bs (row_of bs n keys e)) (when keys e) s.low s.high

  module _ {i m : ℕ} (l : i < n) (a : (branch bs i).start ≤ m) (b : m ≤ (branch bs i).end) where
    -- a lookup from an event comes by m exactly if an event of m's row, at m or later, is on its way
    pub seen : (d e : ℕ) → row_of bs n keys e < d → e < ne → reach bs n (when keys e) m ≡ true → (q : ℕ) × (first_of bs keys ne i ≤ q) × (q < above keys ne m) × On (row_of bs n keys) (event_of keys ne) e q
    seen zero e x j r = absurd (omega arith)
    seen (suc d) e x j r =
        let s = event_held e j in
        elim (reach→ bs (row_of bs n keys e) (when keys e) m (event_holds e j) (sym (open_row e m j) ∙ r)) [
          | inl y ↦
              let p : row_of bs n keys e ≡ i = holder_is h.stairs n m (row_of bs n keys e) (omega arith) s.inside y.0 (omega (arith, y.1, s.high)) ∙ sym (holder_is h.stairs n m i (omega arith) l a b) in
              (e, rw p at (seated e j).1, case (ltb e (above keys ne m)) (λ w. ltb-true _ _ w) (λ w. absurd (omega (arith, above_late keys ne m e (ltb-false _ _ w) j, y.1))), here)
          | inr y ↦
              case (ltb 0 (row_of bs n keys e))
              (λ w.
              let z : 0 < row_of bs n keys e = ltb-true 0 (row_of bs n keys e) w in
              let v = hung (row_of bs n keys e) z s.inside in
              let c = hangs (event_of keys ne (row_of bs n keys e)) v.0 (omega (arith, v.1)) in
              let r' : reach bs n (when keys (event_of keys ne (row_of bs n keys e))) m ≡ true = ap (λ (t : ℕ). reach bs n t m) (cut_of e j z) ∙ (lift (row_of bs n keys e) m z s.inside ∙ y) in
              let k = seen d (event_of keys ne (row_of bs n keys e)) (omega (arith, c.0, v.1)) v.0 r' in
              (k.0, k.1, k.2, up z k.3))
              (λ w.
              let z : row_of bs n keys e ≡ 0 = omega (arith, ltb-false 0 (row_of bs n keys e) w) in
              let y' : reach bs 0 (branch bs (row_of bs n keys e)).cut m ≡ true = ap (λ (q : ℕ). reach bs q (branch bs (row_of bs n keys e)).cut m) (sym z) ∙ y in
              absurd_test y' (reach_none bs (branch bs (row_of bs n keys e)).cut m))
        ]

    pub on_sees : {e q : ℕ} → On (row_of bs n keys) (event_of keys ne) e q → e < ne → first_of bs keys ne i ≤ q → q < above keys ne m → reach bs n (when keys e) m ≡ true
    on_sees {e} {q} here j x y =
        let p : row_of bs n keys e ≡ i = same_row i e l x (omega (arith, window_high l a b)) in
        let a' : (branch bs (row_of bs n keys e)).start ≤ m = rw p a in
        open_row e m j ∙ reach_own bs (row_of bs n keys e) (when keys e) m (event_holds e j) a' (above_early ev.order m e y)
    on_sees {e} {q} (up z o) j x y =
        let s = event_held e j in
        let v = hung (row_of bs n keys e) z s.inside in
        let ih = on_sees o v.0 x y in
        open_row e m j
        ∙ reach_next bs (row_of bs n keys e) (when keys e) m (event_holds e j) (sym (lift (row_of bs n keys e) m z s.inside) ∙ (ap (λ (t : ℕ). reach bs n t m) (sym (cut_of e j z)) ∙ ih))

  module _ {wanted : List ℕ} (lv : Leaves wanted keys ne) {sums firsts : List ℕ} (su : Sums bs keys ne ne sums) (fi : Firsts bs n keys ne 0 sums firsts) where
    module _ {i m p : ℕ} (s : Holder bs n m i) where
      span_of : span_low bs n firsts m ≤ p → p < span_high bs n keys ne sums firsts m → Span (first_of bs keys ne) (λ k. get_or sums k 0) (λ j. get_or firsts j 0) i (above keys ne m) p
      unfolding span_low span_high
      span_of a b =
          let e : holder bs n m ≡ i = sym s.here in
          let a' : get_or firsts i 0 ≤ p = rw e at a in
          let b' : p < get_or firsts i 0 + (get_or sums (above keys ne m) 0 - get_or sums (first_of bs keys ne i) 0) = rw e at b in
          record { low = a'; high = omega (arith, a', b') }

      of_span : Span (first_of bs keys ne) (λ k. get_or sums k 0) (λ j. get_or firsts j 0) i (above keys ne m) p → (span_low bs n firsts m ≤ p) × (p < span_high bs n keys ne sums firsts m)
      unfolding span_low span_high
      of_span x = let e : holder bs n m ≡ i = sym s.here in (rw e x.low, rw e (omega (arith, x.high)))

    leaf_numbers : (e p : ℕ) → e < ne → kind keys e ≡ 0 → Block (row_of bs n keys) (first_of bs keys ne) (λ k. get_or sums k 0) (λ j. get_or firsts j 0) e p
        → Numbers bs n wanted (span_low bs n firsts) (span_high bs n keys ne sums firsts) p (when keys e)
    leaf_numbers e p l z b =
        let f = frame su fi in
        record {
          listed = lv.leaf e l z;
          inside =
              λ m hm r.
              let s : Holder bs n m (holder bs n m) = holder_of bs n m room hm in
              let q = seen s.inside s.low s.high (suc (row_of bs n keys e)) e (omega arith) l r in
              of_span s (in_leaf f e q.0 (holder bs n m) (above keys ne m) p l s.inside q.1 q.2 (window_high s.inside s.low s.high) q.3 b);
          reached =
              λ m hm x y.
              let s : Holder bs n m (holder bs n m) = holder_of bs n m room hm in
              let q = leaf_in f e (holder bs n m) (above keys ne m) p l z b s.inside (window_low s.inside s.low s.high) (window_high s.inside s.low s.high) (span_of s x y) in
              on_sees s.inside s.low s.high q.3 l q.1 q.2;
        }

    some_number : (k : ℕ) → k < ne → kind keys k ≡ 0 → (p : ℕ) × Numbers bs n wanted (span_low bs n firsts) (span_high bs n keys ne sums firsts) p (when keys k)
    some_number k l z =
        let g = seated k l in
        let up = rising (frame su fi) (first_of bs keys ne (row_of bs n keys k)) k g.1 (omega arith) in
        let p : ℕ = get_or firsts (row_of bs n keys k) 0 + (get_or sums k 0 - get_or sums (first_of bs keys ne (row_of bs n keys k)) 0) in
        (p, leaf_numbers k p l z (record { low = omega (arith, up); high = omega (arith, up, su.leaf k l z) }))

    pub numbered : Numbered bs n wanted (span_low bs n firsts) (span_high bs n keys ne sums firsts)
    numbered =
        record {
          at =
              λ m p hm x y.
              let s : Holder bs n m (holder bs n m) = holder_of bs n m room hm in
              let d = descend (frame su fi) n (holder bs n m) (above keys ne m) p (omega arith) s.inside (window_low s.inside s.low s.high) (window_high s.inside s.low s.high) (span_of s x y) in
              (when keys d.event, leaf_numbers d.event p d.inside d.leaf d.block);
          of = λ t i. let k = lv.every t i in rw k.3 at (some_number k.0 k.1 k.2);
        }
