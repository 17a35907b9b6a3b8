-- The rows that a reclaim leaves, and what their cuts become. Rows stand newest first.
use Prim.Native.Nat.{ℕ, ◌+◌, ◌≤◌}
use mathlib.Core.Path.{◌≡◌, refl, sym, ap, ◌∙◌}
use mathlib.Core.Logic.{◌⊎◌, inl, inr}
use mathlib.Core.List.{List, [], ◌∷◌, map}
use mathlib.Core.Option.{Option, none}
use mathlib.Core.Bool.{Bool, true, false, cond, false≢true}
use native.Mathlib.Omega.{arith}
use lib.Dec.{leb, eqb}
use borrow.Author.Tests.{le-leb, eq-eqb}
use Rattle.model.specs.declared.Branch.{Branch}
use Rattle.model.specs.declared.Record.{Record}
use Rattle.model.specs.Store.{keep, any, open_end, ◌∈◌}
use Rattle.model.specs.Lookup.{holds, ancestry, or_else, latest, first_found}
use Rattle.model.specs.Step.{stays, landing, with_cut}
use Rattle.model.proofs.Base.{case, →or₂, passes, absurd_test, any_mem, map_same, keep_true, keep_false, mem_keep}
use Rattle.model.proofs.Latest.{Within, not_within, latest_none}
use Rattle.model.specs.ByNumber.{Link, Chain, Open, SoundRows, Falls, find}
use Rattle.model.proofs.Ancestry.{Holds, holds→, →holds, not_holds, any_cons, any_head, any_tail, chain_ordered, held_below, falls, find_hold, find_skip, Below, earlier_below}

-- another cut, the same moments
pub holds_cut : (b : Branch) (u t : ℕ) → holds (with_cut b u) t ≡ holds b t
unfolding holds
holds_cut b u t = refl

cut_low : (floor : ℕ) (bs : List Branch) (d : Branch) → Chain floor bs → d ∈ bs → d.cut ≤ d.start
cut_low floor bs d h m = go bs (falls floor bs h) m
  where
    go : (cs : List Branch) → Falls cs → d ∈ cs → d.cut ≤ d.start
    go [] f x'' = elim x'' [ ]
    go (c ∷ cs) f (inl e) = rw e f.0
    go (c ∷ cs) f (inr n) = go cs f.1 n

-- the four kinds of rows that stay
abbrev pub Kind : ℕ → List ℕ → List Record → Branch → Type 0
Kind floor named kept b =
    (b.start ≡ 0) ⊎ ((floor ≤ b.end) ⊎ (((t : ℕ) × (t ∈ named) × (holds b t ≡ true)) ⊎ ((r : Record) × (r ∈ kept) × (holds b r.moment ≡ true))))

module _ (floor : ℕ) (named : List ℕ) (kept : List Record) (b : Branch) where
  pub →stays : Kind floor named kept b → stays floor named kept b ≡ true
  unfolding stays
  →stays (inl e) = rw (eq-eqb b.start 0 e)
  →stays (inr (inl h)) = →or₂ (eqb b.start 0) (rw (le-leb floor b.end h))
  →stays (inr (inr (inl x))) = →or₂ (eqb b.start 0) (→or₂ (leb floor b.end) (rw (any_mem (holds b) x.0 named x.1 x.2)))
  →stays (inr (inr (inr x))) =
      →or₂ (eqb b.start 0) (→or₂ (leb floor b.end) (→or₂ (any (holds b) named) (any_mem (λ r. holds b r.moment) x.0 kept x.1 x.2)))

  pub stays_cut : (t : ℕ) → stays floor named kept (with_cut b t) ≡ stays floor named kept b
  unfolding stays holds
  stays_cut t = refl

module _ (κ : Branch → Bool) where
  pub landing_left : (b : Branch) (bs : List Branch) (t : ℕ) → holds b t ≡ true → κ b ≡ true → landing κ (b ∷ bs) t ≡ t
  unfolding landing
  landing_left b bs t e k = rw (e, k)

  pub landing_gone : (b : Branch) (bs : List Branch) (t : ℕ) → holds b t ≡ true → κ b ≡ false → landing κ (b ∷ bs) t ≡ landing κ bs b.cut
  unfolding landing
  landing_gone b bs t e k = rw (e, k)

  pub landing_skip : (b : Branch) (bs : List Branch) (t : ℕ) → holds b t ≡ false → landing κ (b ∷ bs) t ≡ landing κ bs t
  unfolding landing
  landing_skip b bs t e = rw e

  -- a moment of a row that is left stays
  pub landing_stays : (bs : List Branch) (t : ℕ) → ((b : Branch) → b ∈ bs → holds b t ≡ true → κ b ≡ true) → landing κ bs t ≡ t
  unfolding landing
  landing_stays [] t h = refl
  landing_stays (b ∷ bs) t h =
      case (holds b t) (λ e. rw (e, h b (inl refl) e)) (λ e. rw e (landing_stays bs t (λ d m. h d (inr m))))

  pub landing_falls : (bs : List Branch) → Falls bs → (t : ℕ) → landing κ bs t ≤ t
  unfolding landing
  landing_falls [] f t = omega arith
  landing_falls (b ∷ bs) f t =
      case (holds b t)
      (λ e.
      let i : Holds b t = holds→ b t e in
      let ih : landing κ bs b.cut ≤ b.cut = landing_falls bs f.1 b.cut in
      rw e (case (κ b) (λ k. rw k (omega arith)) (λ k. rw k (omega arith))))
      (λ e. rw e (landing_falls bs f.1 t))

  -- the rows that are left, each cut followed among the earlier rows
  unfoldable pub left_rows : List Branch → List Branch
  left_rows [] = []
  left_rows (b ∷ bs) = cond (κ b) (with_cut b (landing κ bs b.cut) ∷ left_rows bs) (left_rows bs)

  pub left_true : (b : Branch) (bs : List Branch) → κ b ≡ true → left_rows (b ∷ bs) ≡ with_cut b (landing κ bs b.cut) ∷ left_rows bs
  unfolding left_rows
  left_true b bs k = rw k

  pub left_false : (b : Branch) (bs : List Branch) → κ b ≡ false → left_rows (b ∷ bs) ≡ left_rows bs
  unfolding left_rows
  left_false b bs k = rw k

  -- a row that passes is left, with some cut
  pub row_left : (bs : List Branch) (d : Branch) → d ∈ bs → κ d ≡ true → (t : ℕ) × (with_cut d t ∈ left_rows bs)
  unfolding left_rows
  row_left [] d x'' k = elim x'' [ ]
  row_left (b ∷ bs) d (inl e) k = (landing κ bs d.cut, rw (← e, k) (inl refl))
  row_left (b ∷ bs) d (inr m) k =
      let ih : (t : ℕ) × (with_cut d t ∈ left_rows bs) = row_left bs d m k in
      (ih.0, case (κ b) (λ j. rw j (inr ih.1)) (λ j. rw j ih.1))

  -- cuts may as well be followed among all rows: no row holds a cut of its own or of an earlier one, but the first its 0
  pub left_map : (floor : ℕ) (bs : List Branch) → Chain floor bs → map (λ b. with_cut b (landing κ bs b.cut)) (keep κ bs) ≡ left_rows bs
  unfolding left_rows keep landing
  left_map floor [] h = absurd h
  left_map floor (b ∷ []) h =
      case (κ b)
      (λ k. rw k (case (holds b b.cut) (λ e. rw e) (λ e. rw e)))
      (λ k. rw k)
  left_map floor (b ∷ c ∷ bs) h =
      let l : Link floor b c bs = h.0 in
      let own : holds b b.cut ≡ false = not_holds b b.cut (omega (arith, held_below floor c bs b.cut h.1 l.parent)) in
      let older : map (λ d. with_cut d (landing κ (b ∷ c ∷ bs) d.cut)) (keep κ (c ∷ bs)) ≡ map (λ d. with_cut d (landing κ (c ∷ bs) d.cut)) (keep κ (c ∷ bs)) =
      map_same _ _ (keep κ (c ∷ bs))
      (λ d m.
      let i : d ∈ (c ∷ bs) = (mem_keep κ d (c ∷ bs) m).0 in
      let z : Below b d = earlier_below floor b (c ∷ bs) d h i in
      let y : d.cut ≤ d.start = cut_low floor (c ∷ bs) d h.1 i in
      ap (λ (t : ℕ). with_cut d t) (landing_skip b (c ∷ bs) d.cut (not_holds b d.cut (omega arith)))) in
      let ih : map (λ d. with_cut d (landing κ (c ∷ bs) d.cut)) (keep κ (c ∷ bs)) ≡ left_rows (c ∷ bs) = left_map floor (c ∷ bs) h.1 in
      case (κ b)
      (λ k. rw (keep_true κ b (c ∷ bs) k, left_true b (c ∷ bs) k) (cc (ap (λ (t : ℕ). with_cut b t) (landing_skip b (c ∷ bs) b.cut own))))
      (λ k. rw (keep_false κ b (c ∷ bs) k, left_false b (c ∷ bs) k) (older ∙ ih))

  -- a moment of a row that is left is in a row left
  pub held_left : (bs : List Branch) (t : ℕ) → ((b : Branch) → b ∈ bs → holds b t ≡ true → κ b ≡ true) → any (λ d. holds d t) bs ≡ true
      → any (λ d. holds d t) (left_rows bs) ≡ true
  unfolding left_rows
  held_left [] t h e = e
  held_left (b ∷ bs) t h e =
      elim (any_cons b bs t e) [
        | inl d ↦ rw (h b (inl refl) d) (any_head (with_cut b (landing κ bs b.cut)) (left_rows bs) t (holds_cut b _ t ∙ d))
        | inr d ↦
            let ih : any (λ d. holds d t) (left_rows bs) ≡ true = held_left bs t (λ c m. h c (inr m)) d in
            case (κ b) (λ k. rw k (any_tail _ (left_rows bs) t ih)) (λ k. rw k ih)
      ]

  -- a moment of the earlier rows lands there
  pub past : (floor : ℕ) (b c : Branch) (bs : List Branch) (t : ℕ) → Chain floor (b ∷ c ∷ bs) → any (λ d. holds d t) (c ∷ bs) ≡ true
      → holds b (landing κ (c ∷ bs) t) ≡ false
  past floor b c bs t h e =
      let l : Link floor b c bs = h.0 in
      let i : t ≤ c.end = held_below floor c bs t h.1 e in
      let f : landing κ (c ∷ bs) t ≤ t = landing_falls (c ∷ bs) (falls floor (c ∷ bs) h.1) t in
      not_holds b (landing κ (c ∷ bs) t) (omega arith)

  module _ (floor : ℕ) (first : (b : Branch) → b.start ≡ 0 → κ b ≡ true) where
    -- where a cut lands is in a row left
    landing_held : (b : Branch) (bs : List Branch) (t : ℕ) → Chain floor (b ∷ bs) → any (λ d. holds d t) (b ∷ bs) ≡ true
        → any (λ d. holds d (landing κ (b ∷ bs) t)) (left_rows (b ∷ bs)) ≡ true
    unfolding left_rows any
    landing_held b [] t h e =
        elim (any_cons b [] t e) [
          | inl d ↦ rw (landing_left b [] t d (first b h.start), first b h.start) (any_head (with_cut b (landing κ [] b.cut)) [] t (holds_cut b _ t ∙ d))
          | inr d ↦ absurd (false≢true d)
        ]
    landing_held b (c ∷ bs) t h e =
        let l : Link floor b c bs = h.0 in
        case (holds b t)
        (λ d.
        case (κ b)
        (λ k. rw (landing_left b (c ∷ bs) t d k, k) (any_head (with_cut b (landing κ (c ∷ bs) b.cut)) (left_rows (c ∷ bs)) t (holds_cut b _ t ∙ d)))
        (λ k. rw (landing_gone b (c ∷ bs) t d k, k) (landing_held c bs b.cut h.1 l.parent)))
        (λ d.
        let ih : any (λ x. holds x (landing κ (c ∷ bs) t)) (left_rows (c ∷ bs)) ≡ true =
        landing_held c bs t h.1 (elim (any_cons b (c ∷ bs) t e) [ inl y ↦ absurd_test y d | inr y ↦ y ]) in
        case (κ b)
        (λ k. rw (landing_skip b (c ∷ bs) t d, k) (any_tail (with_cut b (landing κ (c ∷ bs) b.cut)) (left_rows (c ∷ bs)) (landing κ (c ∷ bs) t) ih))
        (λ k. rw (landing_skip b (c ∷ bs) t d, k) ih))

    -- reads go on as before, where no record is in a row that goes
    find_left : (rs : List Record) (a : ℕ) → ((b : Branch) (r : Record) → r ∈ rs → holds b r.moment ≡ true → κ b ≡ true)
        → (b : Branch) (bs : List Branch) (t : ℕ) → Chain floor (b ∷ bs) → any (λ d. holds d t) (b ∷ bs) ≡ true
        → find rs a (left_rows (b ∷ bs)) (landing κ (b ∷ bs) t) ≡ find rs a (b ∷ bs) t
    unfolding left_rows ancestry first_found any
    find_left rs a g b [] t h e =
        let k : κ b ≡ true = first b h.start in
        elim (any_cons b [] t e) [
          | inl d ↦
              rw (landing_left b [] t d k, left_true b [] k)
              (find_hold rs a (with_cut b (landing κ [] b.cut)) (left_rows []) t (holds_cut b _ t ∙ d) ∙ sym (find_hold rs a b [] t d))
          | inr d ↦ absurd (false≢true d)
        ]
    find_left rs a g b (c ∷ bs) t h e =
        let l : Link floor b c bs = h.0 in
        let up : find rs a (left_rows (c ∷ bs)) (landing κ (c ∷ bs) b.cut) ≡ find rs a (c ∷ bs) b.cut = find_left rs a g c bs b.cut h.1 l.parent in
        let b' : Branch = with_cut b (landing κ (c ∷ bs) b.cut) in
        case (holds b t)
        (λ d.
        case (κ b)
        (λ k.
        rw (landing_left b (c ∷ bs) t d k, left_true b (c ∷ bs) k)
        (find_hold rs a b' (left_rows (c ∷ bs)) t (holds_cut b _ t ∙ d)
        ∙ (ap (or_else (latest rs a b.start t)) up ∙ sym (find_hold rs a b (c ∷ bs) t d))))
        (λ k.
        let z : latest rs a b.start t ≡ none =
        latest_none rs a b.start t
        (λ q i.
        not_within a b.start t q
        (λ (w : Within a b.start t q).
        let y : Holds b t = holds→ b t d in
        absurd_test (g b q i (→holds b q.moment w.low (omega arith))) k)) in
        rw (landing_gone b (c ∷ bs) t d k, left_false b (c ∷ bs) k)
        (up ∙ sym (find_hold rs a b (c ∷ bs) t d ∙ ap (λ (o : Option Record). or_else o (find rs a (c ∷ bs) b.cut)) z))))
        (λ d.
        let e' : any (λ x. holds x t) (c ∷ bs) ≡ true = elim (any_cons b (c ∷ bs) t e) [ inl y ↦ absurd_test y d | inr y ↦ y ] in
        let ih : find rs a (left_rows (c ∷ bs)) (landing κ (c ∷ bs) t) ≡ find rs a (c ∷ bs) t = find_left rs a g c bs t h.1 e' in
        let y : holds b' (landing κ (c ∷ bs) t) ≡ false = holds_cut b _ _ ∙ past floor b c bs t h e' in
        case (κ b)
        (λ k.
        rw (landing_skip b (c ∷ bs) t d, left_true b (c ∷ bs) k)
        (find_skip rs a b' (left_rows (c ∷ bs)) (landing κ (c ∷ bs) t) y ∙ (ih ∙ sym (find_skip rs a b (c ∷ bs) t d))))
        (λ k. rw (landing_skip b (c ∷ bs) t d, left_false b (c ∷ bs) k) (ih ∙ sym (find_skip rs a b (c ∷ bs) t d))))

    pub find_rows : (rs : List Record) (a : ℕ) → ((b : Branch) (r : Record) → r ∈ rs → holds b r.moment ≡ true → κ b ≡ true)
        → (bs : List Branch) (t : ℕ) → Chain floor bs → any (λ d. holds d t) bs ≡ true
        → find rs a (left_rows bs) (landing κ bs t) ≡ find rs a bs t
    find_rows rs a g [] t h e = absurd h
    find_rows rs a g (b ∷ bs) t h e = find_left rs a g b bs t h e

    -- rows that end at or above a higher floor are left
    module _ (m : ℕ) (rises : floor ≤ m) where
      abbrev Late : List Branch → Type 0
      Late bs = (b : Branch) → b ∈ bs → m ≤ b.end → κ b ≡ true

      -- the newest row left, against the newest row
      record Top (c : Branch) (ds : List Branch) : Type 0 where
        row : Branch
        rest : List Branch
        is : ds ≡ row ∷ rest
        starts : row.start ≤ c.start
        ends : row.end ≤ c.end
        same : m ≤ c.end → row.end ≡ c.end
        chain : Chain m (row ∷ rest)

      top_left : (b : Branch) (bs : List Branch) → Late (b ∷ bs) → Chain floor (b ∷ bs) → Top b (left_rows (b ∷ bs))
      unfolding left_rows landing
      top_left b [] late h =
          record {
            row = b;
            rest = [];
            is = left_true b [] (first b h.start);
            starts = omega arith;
            ends = omega arith;
            same = λ i. refl;
            chain = h;
          }
      top_left b (c ∷ bs) late h =
          let l : Link floor b c bs = h.0 in
          let ih : Top c (left_rows (c ∷ bs)) = top_left c bs (λ d i. late d (inr i)) h.1 in
          case (κ b)
          (λ k.
          record {
            row = with_cut b (landing κ (c ∷ bs) b.cut);
            rest = left_rows (c ∷ bs);
            is = left_true b (c ∷ bs) k;
            starts = omega arith;
            ends = omega arith;
            same = λ i. refl;
            chain =
                rw ih.is (
                  record {
                    ordered = l.ordered;
                    after = omega (arith, ih.ends, l.after);
                    follows =
                        λ i.
                        let f : b.start ≡ c.end + 1 = l.follows (omega arith) in
                        let s : ih.row.end ≡ c.end = ih.same (omega arith) in
                        omega arith;
                    parent = rw ih.is at (landing_held c bs b.cut h.1 l.parent);
                    order = l.order;
                  },
                  ih.chain,
                );
          })
          (λ k.
          record {
            row = ih.row;
            rest = ih.rest;
            is = left_false b (c ∷ bs) k ∙ ih.is;
            starts = omega (arith, ih.starts, chain_ordered floor c bs h.1);
            ends = omega (arith, ih.ends);
            same = λ i. absurd_test (late b (inl refl) i) k;
            chain = ih.chain;
          })

      -- the rows left are sound
      pub rows_left : (now : ℕ) (bs : List Branch) → Late bs → m ≤ open_end → SoundRows floor now bs → SoundRows m now (left_rows bs)
      rows_left now [] late u h = absurd h
      rows_left now (b ∷ bs) late u h =
          let o : Open now b = h.0 in
          let t : Top b (left_rows (b ∷ bs)) = top_left b bs late h.1 in
          let s : t.row.end ≡ b.end = t.same (omega arith) in
          rw t.is (record { still = s ∙ o.still; begun = omega (arith, t.starts) }, t.chain)

      pub chain_left : (bs : List Branch) → Late bs → Chain floor bs → Chain m (left_rows bs)
      chain_left [] late h = absurd h
      chain_left (b ∷ bs) late h =
          let t : Top b (left_rows (b ∷ bs)) = top_left b bs late h in
          rw t.is t.chain

-- only the rows there count
module _ (κ κ' : Branch → Bool) where
  landing_same : (bs : List Branch) (t : ℕ) → ((b : Branch) → b ∈ bs → κ b ≡ κ' b) → landing κ bs t ≡ landing κ' bs t
  unfolding landing
  landing_same [] t h = refl
  landing_same (b ∷ bs) t h = rw (h b (inl refl), landing_same bs b.cut (λ d m. h d (inr m)), landing_same bs t (λ d m. h d (inr m)))

  pub left_same : (bs : List Branch) → ((b : Branch) → b ∈ bs → κ b ≡ κ' b) → left_rows κ bs ≡ left_rows κ' bs
  unfolding left_rows
  left_same [] h = refl
  left_same (b ∷ bs) h = rw (h b (inl refl), landing_same bs b.cut (λ d m. h d (inr m)), left_same bs (λ d m. h d (inr m)))

pub left_all : (bs : List Branch) → left_rows (λ b. true) bs ≡ bs
unfolding left_rows
left_all [] = refl
left_all (b ∷ bs) = rw (landing_stays (λ b. true) bs b.cut (λ d m e. refl), left_all bs)

-- rows left in two stages: those that pass both tests
module _ (κ κ' : Branch → Bool) (plain : (b : Branch) (t : ℕ) → κ' (with_cut b t) ≡ κ' b) (floor : ℕ) where
  landing_twice : (b : Branch) (bs : List Branch) (t : ℕ) → Chain floor (b ∷ bs) → any (λ d. holds d t) (b ∷ bs) ≡ true
      → landing κ' (left_rows κ (b ∷ bs)) (landing κ (b ∷ bs) t) ≡ landing (passes κ κ') (b ∷ bs) t
  unfolding any
  landing_twice b [] t h e =
      elim (any_cons b [] t e) [
        | inl d ↦ unfold left_rows landing in rw d (case (κ b) (λ k. rw (k, holds_cut b b.cut t, d, plain b b.cut)) (λ k. rw k))
        | inr d ↦ absurd (false≢true d)
      ]
  landing_twice b (c ∷ bs) t h e =
      let l : Link floor b c bs = h.0 in
      let up : landing κ' (left_rows κ (c ∷ bs)) (landing κ (c ∷ bs) b.cut) ≡ landing (passes κ κ') (c ∷ bs) b.cut = landing_twice c bs b.cut h.1 l.parent in
      let b' : Branch = with_cut b (landing κ (c ∷ bs) b.cut) in
      case (holds b t)
      (λ d.
      case (κ b)
      (λ k.
      rw (landing_left κ b (c ∷ bs) t d k, left_true κ b (c ∷ bs) k)
      (case (κ' b)
      (λ j. landing_left κ' b' (left_rows κ (c ∷ bs)) t (holds_cut b _ t ∙ d) (plain b _ ∙ j) ∙ sym (landing_left (passes κ κ') b (c ∷ bs) t d (rw (k, j))))
      (λ j. landing_gone κ' b' (left_rows κ (c ∷ bs)) t (holds_cut b _ t ∙ d) (plain b _ ∙ j) ∙ (up ∙ sym (landing_gone (passes κ κ') b (c ∷ bs) t d (rw (k, j)))))))
      (λ k. rw (landing_gone κ b (c ∷ bs) t d k, left_false κ b (c ∷ bs) k) (up ∙ sym (landing_gone (passes κ κ') b (c ∷ bs) t d (rw k)))))
      (λ d.
      let e' : any (λ x. holds x t) (c ∷ bs) ≡ true = elim (any_cons b (c ∷ bs) t e) [ inl y ↦ absurd_test y d | inr y ↦ y ] in
      let ih : landing κ' (left_rows κ (c ∷ bs)) (landing κ (c ∷ bs) t) ≡ landing (passes κ κ') (c ∷ bs) t = landing_twice c bs t h.1 e' in
      let y : holds b' (landing κ (c ∷ bs) t) ≡ false = holds_cut b _ _ ∙ past κ floor b c bs t h e' in
      case (κ b)
      (λ k.
      rw (landing_skip κ b (c ∷ bs) t d, left_true κ b (c ∷ bs) k)
      (landing_skip κ' b' (left_rows κ (c ∷ bs)) (landing κ (c ∷ bs) t) y ∙ (ih ∙ sym (landing_skip (passes κ κ') b (c ∷ bs) t d))))
      (λ k. rw (landing_skip κ b (c ∷ bs) t d, left_false κ b (c ∷ bs) k) (ih ∙ sym (landing_skip (passes κ κ') b (c ∷ bs) t d))))

  pub left_twice : (bs : List Branch) → Chain floor bs → left_rows κ' (left_rows κ bs) ≡ left_rows (passes κ κ') bs
  left_twice [] h = absurd h
  left_twice (b ∷ []) h = unfold left_rows landing in case (κ b) (λ k. rw (k, plain b b.cut)) (λ k. rw k)
  left_twice (b ∷ c ∷ bs) h =
      let l : Link floor b c bs = h.0 in
      let ih : left_rows κ' (left_rows κ (c ∷ bs)) ≡ left_rows (passes κ κ') (c ∷ bs) = left_twice (c ∷ bs) h.1 in
      let up : landing κ' (left_rows κ (c ∷ bs)) (landing κ (c ∷ bs) b.cut) ≡ landing (passes κ κ') (c ∷ bs) b.cut = landing_twice c bs b.cut h.1 l.parent in
      let b' : Branch = with_cut b (landing κ (c ∷ bs) b.cut) in
      case (κ b)
      (λ k.
      rw (left_true κ b (c ∷ bs) k)
      (case (κ' b)
      (λ j. left_true κ' b' (left_rows κ (c ∷ bs)) (plain b _ ∙ j) ∙ ((cc) ∙ sym (left_true (passes κ κ') b (c ∷ bs) (rw (k, j)))))
      (λ j. left_false κ' b' (left_rows κ (c ∷ bs)) (plain b _ ∙ j) ∙ (ih ∙ sym (left_false (passes κ κ') b (c ∷ bs) (rw (k, j)))))))
      (λ k. rw (left_false κ b (c ∷ bs) k) (ih ∙ sym (left_false (passes κ κ') b (c ∷ bs) (rw k))))
