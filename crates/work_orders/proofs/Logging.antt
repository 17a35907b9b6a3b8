-- A list of work orders has what the crew's own log has, of the branches that are still counted.
use Prim.Native.Nat.{ℕ, ◌+◌, ◌≤◌, ◌<◌}
use mathlib.Core.Path.{◌≡◌, refl, sym, ap, subst, subst⁻¹, ◌∙◌}
use mathlib.Core.Logic.{inl, inr}
use mathlib.Core.List.{List, [], ◌∷◌, map, map-map}
use mathlib.Core.Option.{Option, some, none}
use mathlib.Core.Bool.{Bool, true}
use native.Mathlib.Omega.{arith}
use lib.Dec.{ltb, eqb}
use lib.ListN.{length}
use borrow.Author.Tests.{eqb-true, eqb-false, eq-eqb}
use Rattle.model.specs.declared.Branch.{Branch}
use Rattle.model.specs.declared.Record.{Record}
use Rattle.model.specs.declared.Name.{Name}
use Rattle.model.specs.Store.{Store, branches, newest, keep, any, open_end, ◌∈◌}
use Rattle.model.specs.Lookup.{holds, ancestry, readable}
use Rattle.model.specs.Wire.{Request, write, mark, revert, read_at, reclaim, give, withdraw}
use Rattle.model.specs.Step.{Stepped, standing, first_free, into_free, inserted, written, do_write, closed_at, with_cut, landing, branched, do_read, reclaimed, step}
use Rattle.model.specs.Fresh.{fresh_check, made_fresh}
use Rattle.model.specs.Batch.{Answered}
use Rattle.model.specs.Demand3.{after, answered}
use Rattle.model.specs.ByNumber.{Chain, Open, Sound, Whole}
use Rattle.model.proofs.Base.{case, both, →and, absurd_test, same_test, passes, keep_keep, keep_true, any_mem, mem_any, mem_reverse, reverse_mem}
use Rattle.model.proofs.Ancestry.{→holds, not_holds, any_cons}
use Rattle.model.proofs.Settling.{left_rows, left_true, left_false, row_left}
use Rattle.model.proofs.Moves.{any_closed, readable_held, begun, Branching, Taken, revert_taken}
use Rattle.model.proofs.Writing.{newest_holds}
use Rattle.model.proofs.Removal.{same_start}
use Rattle.model.proofs.Reclaiming.{is_left, chain, first, newest_after}
use Rattle.model.proofs.Reclaiming as reclaiming
use Rattle.model.proofs.Freshness.{made_newest, made_inv}
use Rattle.model.proofs.Naming.{give_cases, withdraw_cases}
use Rattle.model.proofs.Invariant.{sound_check}
use Rattle.model.proofs.Steps.{step_sound}
use Rattle.model.proofs.Keeping.{asked, calls_keep}
use Rattle.work_orders.specs.Orders.{way, way_in, work_orders, orders_in}
use Rattle.work_orders.specs.Demand.{Accepted, next}
use Rattle.work_orders.proofs.Way.{way_hold, open_way, way_rows, left_held, landing_at}
use Rattle.work_orders.proofs.Demand.{branches_stay, refused_still, forks, store_is, now_is, way_begins, way_before, mark_now, Lifted, reclaim_lifted, lifted_is}
use Rattle.work_orders.specs.Log.{Entry, Log, first_entry, opened, goes_on, noted, note, logged, is_counted, FromLog}

-- what a branch says to the log
abbrev entry_of : Branch → Entry
entry_of b = record { start = b.start; order = b.order }

-- the branch of an entry is counted
counted→ : (s : Store) (e : Entry) → is_counted s e ≡ true → (b : Branch) × (b ∈ newest s) × (b.start ≡ e.start)
unfolding newest
counted→ s e c =
    let g : (b : Branch) × (b ∈ branches s) × (eqb b.start e.start ≡ true) = mem_any (λ b. eqb b.start e.start) (branches s) c in
    (g.0, mem_reverse g.0 (branches s) g.1, eqb-true _ _ g.2)

→counted : (s : Store) (e : Entry) (b : Branch) → b ∈ newest s → b.start ≡ e.start → is_counted s e ≡ true
unfolding newest
→counted s e b m q = any_mem (λ b. eqb b.start e.start) b (branches s) (reverse_mem b (branches s) m) (eq-eqb _ _ q)

-- the same elements pass
keep_same : {A : Type 0} (k l : A → Bool) (xs : List A) → ((x : A) → x ∈ xs → k x ≡ l x) → keep k xs ≡ keep l xs
unfolding keep
keep_same k l [] h = refl
keep_same {A} k l (x ∷ xs) h = rw (h x (inl refl), keep_same k l xs (λ y m. h y (inr m)))

keep_map : {A B : Type 0} (k : B → Bool) (f : A → B) (xs : List A) → keep k (map f xs) ≡ map f (keep (λ x. k (f x)) xs)
unfolding keep
keep_map k f [] = refl
keep_map k f (x ∷ xs) = case (k (f x)) (λ e. rw (e, keep_map k f xs)) (λ e. rw (e, keep_map k f xs))

-- a way goes through counted branches
way_counted : (bs : List Branch) (t : ℕ) (b : Branch) → b ∈ way_in bs t → b ∈ bs
unfolding way_in ancestry
way_counted [] t b m = absurd m
way_counted (c ∷ bs) t b m =
    case (holds c t)
    (λ e.
    let m' : b ∈ (c ∷ way_in bs c.cut) = rw e at m in
    elim m' [ inl q ↦ inl q | inr n ↦ inr (way_counted bs c.cut b n) ])
    (λ e. inr (way_counted bs t b (rw e at m)))

-- a store and the log of its requests
record Tells (s : Store) (p : Log) : Type 0 where
  sound : Sound s
  now : s.head.now ≡ p.now
  ways : (t : ℕ) → t ≤ s.head.now → any (λ d. holds d t) (newest s) ≡ true → map entry_of (way s t) ≡ keep (is_counted s) (p.entries t)
  below : (t : ℕ) (e : Entry) → t ≤ p.now → e ∈ p.entries t → e.start ≤ p.now

-- the counted branches stay, and now does
same_counted : (s u : Store) → newest u ≡ newest s → (e : Entry) → is_counted u e ≡ is_counted s e
same_counted s u n e =
    same_test (is_counted u e) (is_counted s e)
    (λ c. let g : (b : Branch) × (b ∈ newest u) × (b.start ≡ e.start) = counted→ u e c in →counted s e g.0 (subst (λ (bs : List Branch). g.0 ∈ bs) n g.1) g.2)
    (λ c. let g : (b : Branch) × (b ∈ newest s) × (b.start ≡ e.start) = counted→ s e c in →counted u e g.0 (subst⁻¹ (λ (bs : List Branch). g.0 ∈ bs) n g.1) g.2)

still : (s u : Store) (p : Log) → Tells s p → Sound u → newest u ≡ newest s → u.head.now ≡ s.head.now → Tells u p
still s u p k h n q =
    record {
      sound = h;
      now = q ∙ k.now;
      ways =
          λ t l e.
          ap (λ (bs : List Branch). map entry_of (way_in bs t)) n
          ∙ (k.ways t (omega arith) (subst (λ (bs : List Branch). any (λ d. holds d t) bs ≡ true) n e)
          ∙ sym (keep_same (is_counted u) (is_counted s) (p.entries t) (λ x _. same_counted s u n x)));
      below = k.below;
    }

-- one moment more
module _ (s u : Store) (p : Log) (k : Tells s p) (h : Sound u) (q : u.head.now ≡ s.head.now + 1) (es : List Entry)
    (counted : (e : Entry) → e.start ≤ s.head.now → is_counted u e ≡ is_counted s e)
    (held : (t : ℕ) → t ≤ s.head.now → any (λ d. holds d t) (newest u) ≡ true → any (λ d. holds d t) (newest s) ≡ true)
    (before : (t : ℕ) → t ≤ s.head.now → map entry_of (way u t) ≡ map entry_of (way s t))
    (at : map entry_of (way u (s.head.now + 1)) ≡ keep (is_counted u) es)
    (low : (e : Entry) → e ∈ es → e.start ≤ s.head.now + 1) where
  grown_ways : (t : ℕ) → t ≤ u.head.now → any (λ d. holds d t) (newest u) ≡ true → map entry_of (way u t) ≡ keep (is_counted u) ((goes_on p es).entries t)
  grown_ways t l e =
      case (eqb t (p.now + 1))
      (λ c.
      let z : t ≡ s.head.now + 1 = omega (arith, eqb-true t (p.now + 1) c, k.now) in
      rw c (ap (λ (x : ℕ). map entry_of (way u x)) z ∙ at))
      (λ c.
      let i : t ≤ s.head.now = le_of t s.head.now (omega arith) (λ z. eqb-false t (p.now + 1) c (omega (arith, z, k.now))) in
      rw c
      (before t i
      ∙ (k.ways t i (held t i e)
      ∙ sym (keep_same (is_counted u) (is_counted s) (p.entries t) (λ x m. counted x (omega (arith, k.below t x (omega (arith, k.now)) m, k.now)))))))
    where
      le_of : (a b : ℕ) → a ≤ b + 1 → (a ≡ b + 1 → ⊥) → a ≤ b
      le_of a b i n = case (eqb a (b + 1)) (λ c. absurd (n (eqb-true _ _ c))) (λ c. omega (arith, eqb-false a (b + 1) c))

  grown_below : (t : ℕ) (e : Entry) → t ≤ p.now + 1 → e ∈ (goes_on p es).entries t → e.start ≤ p.now + 1
  grown_below t e l m =
      case (eqb t (p.now + 1))
      (λ c. let m' : e ∈ es = rw c at m in omega (arith, low e m', k.now))
      (λ c.
      let m' : e ∈ p.entries t = rw c at m in
      omega (arith, k.below t e (omega (arith, eqb-false t (p.now + 1) c)) m'))

  grown : Tells u (goes_on p es)
  grown = record { sound = h; now = omega (arith, k.now); ways = grown_ways; below = grown_below }

-- a mark
mark_tells : (s : Store) (p : Log) → Tells s p → Sound (next s mark) → Accepted s mark → Tells (next s mark) (noted p mark)
mark_tells s p k h a =
    let u : Store = next s mark in
    let n : newest u ≡ newest s = branches_stay s mark refl in
    let g : (u.head.now ≡ s.head.now + 1) × (s.head.now < open_end) = mark_now s a in
    let c : (e : Entry) → is_counted u e ≡ is_counted s e = same_counted s u n in
    let here : map entry_of (way s s.head.now) ≡ keep (is_counted s) (p.entries p.now) =
    k.ways s.head.now (omega arith) (newest_holds _ _ (newest s) (omega (arith, g.1)) k.sound.rows) ∙ ap (λ (x : ℕ). keep (is_counted s) (p.entries x)) k.now in
    grown s u p k h g.0 (p.entries p.now) (λ e _. c e)
    (λ t _ e. subst (λ (bs : List Branch). any (λ d. holds d t) bs ≡ true) n e)
    (λ t _. ap (λ (bs : List Branch). map entry_of (way_in bs t)) n)
    (ap (λ (bs : List Branch). map entry_of (way_in bs (s.head.now + 1))) n
    ∙ (ap (map entry_of) (open_way _ _ (newest s) (s.head.now + 1) k.sound.rows (omega arith) (omega (arith, g.1)))
    ∙ (here ∙ sym (keep_same (is_counted u) (is_counted s) (p.entries p.now) (λ x _. c x)))))
    (λ e m. omega (arith, k.below p.now e (omega arith) m, k.now))

-- a revert
module _ (s : Store) (m w : ℕ) (h : Sound s) (t : Taken s m w) where
  abbrev forked : Branching s m w
  forked = forks s m w h t

  revert_counted : (e : Entry) → e.start ≤ s.head.now → is_counted (branched s m w) e ≡ is_counted s e
  revert_counted e l =
      same_test (is_counted (branched s m w) e) (is_counted s e)
      (λ c.
      let g : (b : Branch) × (b ∈ newest (branched s m w)) × (b.start ≡ e.start) = counted→ (branched s m w) e c in
      let b : Branch = g.0 in
      elim (subst (λ (bs : List Branch). b ∈ bs) forked.is g.1) [
        | inl z ↦ let x : b.start ≡ s.head.now + 1 = ap (λ (d : Branch). d.start) z in absurd (omega (arith, g.2))
        | inr n ↦
            elim n [
              | inl z ↦ →counted s e forked.row (subst⁻¹ (λ (bs : List Branch). forked.row ∈ bs) forked.was (inl refl)) (sym (ap (λ (d : Branch). d.start) z) ∙ g.2)
              | inr r ↦ →counted s e b (subst⁻¹ (λ (bs : List Branch). b ∈ bs) forked.was (inr r)) g.2
            ]
      ])
      (λ c.
      let g : (b : Branch) × (b ∈ newest s) × (b.start ≡ e.start) = counted→ s e c in
      let b : Branch = g.0 in
      elim (subst (λ (bs : List Branch). b ∈ bs) forked.was g.1) [
        | inl z ↦
            →counted (branched s m w) e (closed_at s.head.now forked.row)
            (subst⁻¹ (λ (bs : List Branch). closed_at s.head.now forked.row ∈ bs) forked.is (inr (inl refl))) (sym (ap (λ (d : Branch). d.start) z) ∙ g.2)
        | inr r ↦ →counted (branched s m w) e b (subst⁻¹ (λ (bs : List Branch). b ∈ bs) forked.is (inr (inr r))) g.2
      ])

  revert_held : (x : ℕ) → x ≤ s.head.now → any (λ d. holds d x) (newest (branched s m w)) ≡ true → any (λ d. holds d x) (newest s) ≡ true
  revert_held x l e =
      let o : Open s.head.now forked.row = (rw forked.was at h.rows).0 in
      let b : Branch = begun s.head.now m w in
      let e' : any (λ d. holds d x) (b ∷ closed_at s.head.now forked.row ∷ forked.earlier) ≡ true = subst (λ (bs : List Branch). any (λ d. holds d x) bs ≡ true) forked.is e in
      elim (any_cons b (closed_at s.head.now forked.row ∷ forked.earlier) x e') [
        | inl z ↦ absurd_test z (not_holds b x (omega arith))
        | inr z ↦
            subst⁻¹ (λ (bs : List Branch). any (λ d. holds d x) bs ≡ true) forked.was
            (sym (any_closed forked.row forked.earlier s.head.now x l (omega (arith, o.still, t.later))) ∙ z)
      ]

  revert_tells : (p : Log) → Tells s p → Sound (branched s m w) → Tells (branched s m w) (noted p (revert m w))
  revert_tells p k v =
      let u : Store = branched s m w in
      let q : u.head.now ≡ s.head.now + 1 = ap (λ (x : Store). x.head.now) (sym (store_is s m w h t)) ∙ now_is s m w h t in
      let e : Entry = record { start = p.now + 1; order = w } in
      let first : is_counted u e ≡ true =
      →counted u e (begun s.head.now m w) (subst⁻¹ (λ (bs : List Branch). begun s.head.now m w ∈ bs) forked.is (inl refl)) (omega (arith, k.now)) in
      let rest : map entry_of (way s m) ≡ keep (is_counted u) (p.entries m) =
      k.ways m (omega (arith, t.sealed)) (readable_held s h m t.low (omega (arith, t.sealed)))
      ∙ sym (keep_same (is_counted u) (is_counted s) (p.entries m) (λ x i. revert_counted x (omega (arith, k.below m x (omega (arith, t.sealed, k.now)) i, k.now)))) in
      let same : entry_of (begun s.head.now m w) ≡ e = ap (λ (x : ℕ). record { start = x + 1; order = w }) k.now in
      grown s u p k v q (e ∷ p.entries m) revert_counted revert_held (way_before s m w h t entry_of (λ b. refl))
      (way_begins s m w h t entry_of (λ b. refl) ∙ (rw (keep_true (is_counted u) e (p.entries m) first, same, rest)))
      (λ x i. elim i [ inl z ↦ omega (arith, ap (λ (y : Entry). y.start) z, k.now) | inr j ↦ omega (arith, k.below m x (omega (arith, t.sealed, k.now)) j, k.now) ])

-- a reclaim: a row left is one of the rows, with another cut
left_mem : (κ : Branch → Bool) (bs : List Branch) (d : Branch) → d ∈ left_rows κ bs → (c : Branch) × (c ∈ bs) × (κ c ≡ true) × (d.start ≡ c.start)
unfolding left_rows
left_mem κ [] d m = absurd m
left_mem κ (b ∷ bs) d m =
    case (κ b)
    (λ k.
    elim (subst (λ (xs : List Branch). d ∈ xs) (left_true κ b bs k) m) [
      | inl z ↦ (b, inl refl, k, ap (λ (x : Branch). x.start) z)
      | inr n ↦ let g : (c : Branch) × (c ∈ bs) × (κ c ≡ true) × (d.start ≡ c.start) = left_mem κ bs d n in (g.0, inr g.1, g.2, g.3)
    ])
    (λ k.
    let g : (c : Branch) × (c ∈ bs) × (κ c ≡ true) × (d.start ≡ c.start) = left_mem κ bs d (subst (λ (xs : List Branch). d ∈ xs) (left_false κ b bs k) m) in
    (g.0, inr g.1, g.2, g.3))

module _ (s : Store) (m : ℕ) (h : Sound s) (l : Lifted s m) where
  abbrev κ : Branch → Bool
  κ = is_left s m

  abbrev u : Store
  u = reclaiming.after s m

  left_is : newest u ≡ left_rows κ (newest s)
  left_is = newest_after s m h l.low l.high

  links : Chain s.head.floor (newest s)
  links = chain s m h l.low l.high

  from_left : (e : Entry) → is_counted u e ≡ true → (c : Branch) × (c ∈ newest s) × (κ c ≡ true) × (c.start ≡ e.start)
  from_left e i =
      let g : (b : Branch) × (b ∈ newest u) × (b.start ≡ e.start) = counted→ u e i in
      let c : (c : Branch) × (c ∈ newest s) × (κ c ≡ true) × (g.0.start ≡ c.start) =
      left_mem κ (newest s) g.0 (subst (λ (xs : List Branch). g.0 ∈ xs) left_is g.1) in
      (c.0, c.1, c.2, sym c.3 ∙ g.2)

  counted_left : (b : Branch) → b ∈ newest s → is_counted u (entry_of b) ≡ κ b
  counted_left b i =
      same_test (is_counted u (entry_of b)) (κ b)
      (λ e.
      let c : (c : Branch) × (c ∈ newest s) × (κ c ≡ true) × (c.start ≡ b.start) = from_left (entry_of b) e in
      subst (λ (x : Branch). κ x ≡ true) (same_start _ (newest s) c.0 b links c.1 i c.3) c.2)
      (λ e.
      let r : (t : ℕ) × (with_cut b t ∈ left_rows κ (newest s)) = row_left κ (newest s) b i e in
      →counted u (entry_of b) (with_cut b r.0) (subst⁻¹ (λ (xs : List Branch). with_cut b r.0 ∈ xs) left_is r.1) refl)

  was_counted : (e : Entry) → is_counted u e ≡ passes (is_counted s) (is_counted u) e
  was_counted e =
      case (is_counted u e)
      (λ i.
      let c : (c : Branch) × (c ∈ newest s) × (κ c ≡ true) × (c.start ≡ e.start) = from_left e i in
      i ∙ sym (→and (→counted s e c.0 c.1 c.3) i))
      (λ i. case (is_counted s e) (λ j. rw (i, j)) (λ j. rw (i, j)))

  reclaim_tells : (p : Log) → Tells s p → Sound u → u.head.now ≡ s.head.now → Tells u p
  reclaim_tells p k v q =
      record {
        sound = v;
        now = q ∙ k.now;
        ways =
            λ t i e.
            let e' : any (λ d. holds d t) (left_rows κ (newest s)) ≡ true = subst (λ (xs : List Branch). any (λ d. holds d t) xs ≡ true) left_is e in
            let e'' : any (λ d. holds d t) (newest s) ≡ true = left_held κ (newest s) t e' in
            let land : landing κ (newest s) t ≡ t = landing_at κ _ (newest s) t links e' in
            let now-way : map entry_of (way u t) ≡ map entry_of (keep κ (way s t)) =
            ap (λ (xs : List Branch). map entry_of (way_in xs t)) left_is
            ∙ (ap (λ (x : ℕ). map entry_of (way_in (left_rows κ (newest s)) x)) (sym land)
            ∙ way_rows entry_of (λ b x. refl) κ _ (first s m h l.low l.high) (newest s) t links e'') in
            let log-way : keep (is_counted u) (p.entries t) ≡ map entry_of (keep κ (way s t)) =
            keep_same (is_counted u) (passes (is_counted s) (is_counted u)) (p.entries t) (λ x _. was_counted x)
            ∙ (sym (keep_keep (is_counted s) (is_counted u) (p.entries t))
            ∙ (ap (keep (is_counted u)) (sym (k.ways t (omega arith) e''))
            ∙ (keep_map (is_counted u) entry_of (way s t)
            ∙ ap (map entry_of) (keep_same (λ b. is_counted u (entry_of b)) κ (way s t) (λ b j. counted_left b (way_counted (newest s) t b j)))))) in
            now-way ∙ sym log-way;
        below = k.below;
      }

-- now stays, but for marks and reverts
abbrev SameNow : Store → Stepped → Type 0
SameNow s st = st.store.head.now ≡ s.head.now

write_now : (s : Store) (a : ℕ) (page : List ℕ) → SameNow s (step s (write a page))
unfolding step do_write inserted
write_now s a page = both (SameNow s) (ltb a s.head.size) (by_standing (standing s a)) refl
  where
    free : (o : Option ℕ) → SameNow s (into_free s a page o)
    free none = refl
    free (some x) = refl

    by_standing : (o : Option Record) → SameNow s (written s a page o)
    by_standing (some r) = refl
    by_standing none = both (SameNow s) (ltb s.head.records (length s.record_rows)) (free (first_free s.place_rows)) refl

read_now_lem : (s : Store) (a m : ℕ) → SameNow s (step s (read_at a m))
unfolding step do_read
read_now_lem s a m =
    both (SameNow s) (ltb a s.head.size) (both (SameNow s) (readable s m) (both (SameNow s) (ltb s.head.now m) refl refl) refl) refl

give_now : (s : Store) (n : Name) → SameNow s (step s (give n))
unfolding step
give_now s n = give_cases (SameNow s) s n (λ k i j. refl) (λ g. refl)

withdraw_now : (s : Store) (high low : ℕ) → SameNow s (step s (withdraw high low))
unfolding step
withdraw_now s high low = withdraw_cases (SameNow s) s high low (λ f. refl) (λ n f. refl)

reclaim_now : (s : Store) (m : ℕ) → (reclaiming.after s m).head.now ≡ s.head.now
unfolding reclaimed
reclaim_now s m = refl

taken : (s : Store) (m w : ℕ) → Accepted s (revert m w) → Taken s m w
unfolding step
taken s m w a = revert_taken s m w a

-- every request that is answered
accepted_tells : (s : Store) (p : Log) (q : Request) → Whole q → Tells s p → Accepted s q → Tells (next s q) (noted p q)
accepted_tells s p (write b page) w k a = still s _ p k (step_sound s (write b page) k.sound w) (branches_stay s (write b page) refl) (write_now s b page)
accepted_tells s p mark w k a = mark_tells s p k (step_sound s mark k.sound w) a
accepted_tells s p (revert m o) w k a =
    let t : Taken s m o = taken s m o a in
    let e : next s (revert m o) ≡ branched s m o = store_is s m o k.sound t in
    subst⁻¹ (λ (x : Store). Tells x (noted p (revert m o))) e
    (revert_tells s m o k.sound t p k (subst Sound e (step_sound s (revert m o) k.sound w)))
accepted_tells s p (read_at b m) w k a = still s _ p k (step_sound s (read_at b m) k.sound w) (branches_stay s (read_at b m) refl) (read_now_lem s b m)
accepted_tells s p (reclaim m) w k a =
    let l : Lifted s m = reclaim_lifted s m a in
    let e : next s (reclaim m) ≡ reclaiming.after s m = lifted_is s m l in
    subst⁻¹ (λ (x : Store). Tells x p) e (reclaim_tells s m k.sound l p k (subst Sound e (step_sound s (reclaim m) k.sound w)) (reclaim_now s m))
accepted_tells s p (give n) w k a = still s _ p k (step_sound s (give n) k.sound w) (branches_stay s (give n) refl) (give_now s n)
accepted_tells s p (withdraw high low) w k a =
    still s _ p k (step_sound s (withdraw high low) k.sound w) (branches_stay s (withdraw high low) refl) (withdraw_now s high low)

tells_next : (s : Store) (p : Log) (q : Request) → Whole q → Tells s p → Tells (next s q) (note p (asked s q))
tells_next s p q w k =
    case (eqb (step s q).answer.refusal 0)
    (λ e. rw e (accepted_tells s p q w k (eqb-true _ _ e)))
    (λ e. rw e (subst⁻¹ (λ (x : Store). Tells x p) (refused_still s q (eqb-false _ _ e)) k))

-- a fresh store
fresh_tells : (lent : Store) (size : ℕ) → fresh_check lent size ≡ 0 → Tells (made_fresh lent size) opened
unfolding keep way_in ancestry
fresh_tells lent size h =
    let s : Store = made_fresh lent size in
    let v = made_inv lent size h in
    let row : Branch = record { start = 0; end = open_end; cut = 0; order = 0 } in
    let n : newest s ≡ row ∷ [] = made_newest lent size h in
    let c : is_counted s first_entry ≡ true = →counted s first_entry row (subst⁻¹ (λ (bs : List Branch). row ∈ bs) n (inl refl)) refl in
    record {
      sound = v.sound;
      now = v.now;
      ways =
          λ t l e.
          let z : t ≤ open_end = omega (arith, v.sound.sizes.now_high) in
          ap (λ (bs : List Branch). map entry_of (way_in bs t)) n ∙ (one_way row t (→holds row t (omega arith) z) ∙ sym (keep_true (is_counted s) first_entry [] c ∙ none_kept s));
      below = λ t e l m. elim m [ inl z ↦ omega (arith, ap (λ (x : Entry). x.start) z) | inr j ↦ absurd j ];
    }
  where
    one_way : (row : Branch) (t : ℕ) → holds row t ≡ true → map entry_of (way_in (row ∷ []) t) ≡ entry_of row ∷ []
    one_way row t e = rw (way_hold row [] t e)

    none_kept : (s : Store) → (first_entry ∷ keep (is_counted s) []) ≡ (first_entry ∷ [])
    none_kept s = refl

pub from_log : FromLog
unfolding logged orders_in
from_log lent size calls t h c =
    let s : Store = after (made_fresh lent size) calls in
    let k : Tells s (logged opened (answered (made_fresh lent size) calls)) =
    calls_keep note logged (λ p. logged_none p) (λ p e es. logged_more p e es) Tells tells_next (λ x p i. sound_check x i.sound) (made_fresh lent size) opened calls (fresh_tells lent size h) in
    orders_of_lem s t ∙ ap (map (λ (e : Entry). e.order)) (k.ways t c.high (readable_held s k.sound t c.low c.high))
  where
    logged_none : (p : Log) → logged p [] ≡ p
    logged_none p = refl

    logged_more : (p : Log) (e : Answered) (es : List Answered) → logged p (e ∷ es) ≡ logged (note p e) es
    logged_more p e es = refl

    orders_of_lem : (s : Store) (t : ℕ) → work_orders s t ≡ map (λ e. e.order) (map entry_of (way s t))
    orders_of_lem s t = sym (map-map (λ e. e.order) entry_of (way s t))
