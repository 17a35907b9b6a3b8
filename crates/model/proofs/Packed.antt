-- Change request Two: the place that a write takes, and how far the places in use reach.
use Prim.Native.Nat.{ℕ, zero, suc, ◌≤◌, ◌<◌, suc-le-suc}
use mathlib.Core.Path.{◌≡◌, refl, sym, ap, ◌∙◌}
use mathlib.Core.Logic.{inl, inr}
use mathlib.Core.List.{List, [], ◌∷◌, map}
use native.Mathlib.Omega.{arith}
use lib.Dec.{leb, ltb}
use lib.ListN.{length, get_or, set, length-map, get_or-eq_default}
use lib.Seq.{get_or-set_other}
use borrow.Author.Tests.{ltb-true, ltb-false}
use Rattle.model.specs.declared.Record.{Record}
use Rattle.model.specs.Store.{Store, records, open_end, ◌∈◌}
use Rattle.model.specs.Lookup.{readable, is_given}
use Rattle.model.specs.Wire.{Request, write, mark, revert, read_at, reclaim, give, withdraw}
use Rattle.model.specs.Step.{Stepped, first_free, shifted, before, put_in, inserted, into_free, standing, do_write, do_mark, branched, do_revert, do_read, reclaimed, do_reclaim, step}
use Rattle.model.specs.Reference.{Reference, feed}
use Rattle.model.specs.Demand3.{refuses}
use Rattle.model.specs.ByNumber.{Sound, Whole}
use Rattle.model.specs.Packed.{Packs, TakesSmallest, reach}
use Rattle.model.proofs.Base.{case, both, mem_keep}
use Rattle.model.proofs.Latest.{case_option}
use Rattle.model.proofs.Places.{first_free→, first_free_none, first_free_used, shifted_low}
use Rattle.model.proofs.Invariant.{Inv}
use Rattle.model.proofs.Checked.{check_sound}
use Rattle.model.proofs.Writing.{put_mem, length_records, inserted_records}
use Rattle.model.proofs.Reclaiming.{records_after}
use Rattle.model.proofs.Reading.{read_leaves}
use Rattle.model.proofs.Naming.{give_cases, withdraw_cases}
use Rattle.model.proofs.Steps.{step_inv}

-- the reach by row number: behind it every place is free, and it is the smallest such number
pub reach_free : (ps : List ℕ) (k : ℕ) → reach ps ≤ k → get_or ps k 0 ≡ 0
unfolding reach
reach_free [] k l = refl
reach_free (suc x ∷ ps) zero l = absurd (omega arith)
reach_free (suc x ∷ ps) (suc k) l = reach_free ps k (omega arith)
reach_free (zero ∷ ps) zero l = refl
reach_free (zero ∷ ps) (suc k) l =
    reach_free ps k
    (case (ltb 0 (reach ps))
    (λ e. let m : suc (reach ps) ≤ suc k = rw e at l in omega arith)
    (λ e. omega (arith, ltb-false 0 (reach ps) e)))

pub reach_le : (ps : List ℕ) (n : ℕ) → ((k : ℕ) → n ≤ k → get_or ps k 0 ≡ 0) → reach ps ≤ n
unfolding reach
reach_le [] n h = omega arith
reach_le (suc x ∷ ps) zero h = absurd (omega (arith, h 0 (omega arith)))
reach_le (suc x ∷ ps) (suc n) h = suc-le-suc (reach_le ps n (λ k l. h (suc k) (suc-le-suc l)))
reach_le (zero ∷ ps) zero h =
    let z : reach ps ≤ 0 = reach_le ps 0 (λ k l. h (suc k) (omega arith)) in
    case (ltb 0 (reach ps)) (λ e. absurd (omega (arith, ltb-true 0 (reach ps) e))) (λ e. rw e (omega arith))
reach_le (zero ∷ ps) (suc n) h =
    let z : reach ps ≤ n = reach_le ps n (λ k l. h (suc k) (suc-le-suc l)) in
    case (ltb 0 (reach ps)) (λ e. rw e (suc-le-suc z)) (λ e. rw e (omega arith))

pub below_reach : (ps : List ℕ) (k : ℕ) → 1 ≤ get_or ps k 0 → k < reach ps
below_reach ps k h = case (ltb k (reach ps)) (λ e. ltb-true k (reach ps) e) (λ e. absurd (omega (arith, reach_free ps k (ltb-false k (reach ps) e))))

pub reach_length : (ps : List ℕ) → reach ps ≤ length ps
reach_length ps = reach_le ps (length ps) (λ k l. get_or-eq_default ps 0 l)

-- rows that are changed one by one, free ones staying free
get_d_map : (f : ℕ → ℕ) (ps : List ℕ) (k : ℕ) → f 0 ≡ 0 → get_or (map f ps) k 0 ≡ f (get_or ps k 0)
get_d_map f [] k z = sym z
get_d_map f (x ∷ ps) zero z = refl
get_d_map f (x ∷ ps) (suc k) z = get_d_map f ps k z

map_free : (f : ℕ → ℕ) (ps : List ℕ) (n : ℕ) → f 0 ≡ 0 → reach ps ≤ n → (k : ℕ) → n ≤ k → get_or (map f ps) k 0 ≡ 0
map_free f ps n z l k h = get_d_map f ps k z ∙ (ap f (reach_free ps k (omega arith)) ∙ z)

map_reach : (f : ℕ → ℕ) (ps : List ℕ) (n : ℕ) → f 0 ≡ 0 → reach ps ≤ n → reach (map f ps) ≤ n
map_reach f ps n z l = reach_le (map f ps) n (map_free f ps n z l)

-- a place taken below n
taken_reach : (ps : List ℕ) (at p n : ℕ) → p < n → reach ps ≤ n → reach (set (map (shifted at) ps) p (suc at)) ≤ n
taken_reach ps at p n h l =
    reach_le (set (map (shifted at) ps) p (suc at)) n
    (λ k m. get_or-set_other (map (shifted at) ps) p k (suc at) 0 (λ e. omega (arith, e)) ∙ map_free (shifted at) ps n (shifted_low at 0 (omega arith)) l k m)

-- a store after a request: n bounds the reach if it bounds the reach before and the records after
abbrev Bounded : ℕ → Store → Stepped → Type 0
Bounded n s st = reach s.place_rows ≤ n → st.store.head.records ≤ n → reach st.store.place_rows ≤ n

write_bounded : (n : ℕ) (s : Store) (a : ℕ) (page : List ℕ) → Sound s → Bounded n s (do_write s a page)
unfolding do_write inserted
write_bounded n s a page h =
    both (Bounded n s) (ltb a s.head.size)
    (case_option (standing s a)
    (λ e. rw e
    (both (Bounded n s) (ltb s.head.records (length s.record_rows))
    (case_option (first_free s.place_rows)
    (λ f. rw f (λ l m. l))
    (λ p f. rw f (λ l m. taken_reach s.place_rows _ p n (omega (arith, first_free_used s.place_rows p f, h.in_use)) l)))
    (λ l m. l)))
    (λ r e. rw e (λ l m. l)))
    (λ l m. l)

step_bounded : (n : ℕ) (s : Store) (q : Request) → Sound s → Bounded n s (step s q)
unfolding step do_mark do_revert branched do_reclaim reclaimed
step_bounded n s (write a page) h = write_bounded n s a page h
step_bounded n s mark h = both (Bounded n s) (ltb s.head.now open_end) (λ l m. l) (λ l m. l)
step_bounded n s (revert m w) h =
    both (Bounded n s) (readable s m)
    (both (Bounded n s) (leb s.head.now m) (λ l k. l)
    (both (Bounded n s) (leb open_end s.head.now) (λ l k. l)
    (both (Bounded n s) (leb (length s.branch_rows) s.head.branches) (λ l k. l) (λ l k. l))))
    (λ l k. l)
step_bounded n s (read_at a m) h = rw (read_leaves s a m) (λ l k. l)
step_bounded n s (reclaim m) h =
    both (Bounded n s) (ltb m s.head.floor) (λ l k. l)
    (both (Bounded n s) (ltb s.head.now m) (λ l k. l) (λ l k. map_reach _ s.place_rows n refl l))
step_bounded n s (give x) h = give_cases (Bounded n s) s x (λ k i j l m. l) (λ g l m. l)
step_bounded n s (withdraw high low) h = withdraw_cases (Bounded n s) s high low (λ e l m. l) (λ x e l m. l)

-- as many pairs are held as records are counted
held_counted : (s : Store) (p : Reference) → Inv s p → length p.held ≡ s.head.records
held_counted s p v = ap length (sym v.held) ∙ (length-map (records s) _ ∙ length_records s v.sound.sizes)

pub step_reach : (n : ℕ) (s : Store) (p : Reference) (q : Request) → Inv s p → Whole q → reach s.place_rows ≤ n
    → length (feed p q (refuses (step s q).answer)).held ≤ n → reach (step s q).store.place_rows ≤ n
step_reach n s p q v w l m =
    step_bounded n s q v.sound l (omega (arith, held_counted (step s q).store (feed p q (refuses (step s q).answer)) (step_inv s p q v w).inv))

-- the records after a request
still : (s : Store) (q : Request) (st : Stepped) → records st.store ≡ records s → (st.answer.refusal ≡ 6 → ⊥) → Packs s q st
still s q st e ne = record { placed = λ r m. inl (rw e at m); full = λ d. absurd (ne d) }

free_packs : (s : Store) (a : ℕ) (page : List ℕ) → Sound s → Packs s (write a page) (into_free s a page (first_free s.place_rows))
free_packs s a page h =
    case_option (first_free s.place_rows)
    (λ f. rw f (record { placed = λ r m. inl m; full = λ d. first_free_none s.place_rows f }))
    (λ p f.
    let x : Record = record { address = a; moment = s.head.now; place = p } in
    rw f
    (record {
      placed =
          λ r m.
          let m' : r ∈ put_in (before x (records s)) x (records s) = rw (inserted_records s x page (before x (records s)) h.sizes) at m in
          elim (put_mem x (before x (records s)) (records s) r m') [
            | inl e ↦ inr (rw e (refl, refl, first_free→ s.place_rows p f))
            | inr n ↦ inl n
          ];
      full = λ d. absurd (omega (arith, d));
    }))

write_packs : (s : Store) (a : ℕ) (page : List ℕ) → Sound s → Packs s (write a page) (do_write s a page)
unfolding do_write records
write_packs s a page h =
    both (Packs s q) (ltb a s.head.size)
    (case_option (standing s a)
    (λ e. rw e (both (Packs s q) (ltb s.head.records (length s.record_rows)) (free_packs s a page h) (still s q _ refl (λ d. omega (arith, d)))))
    (λ r e. rw e (still s q _ refl (λ d. omega (arith, d)))))
    (still s q _ refl (λ d. omega (arith, d)))
  where
    q : Request
    q = write a page

step_packs : (s : Store) (q : Request) → Sound s → Packs s q (step s q)
unfolding step do_mark do_revert branched do_read do_reclaim records
step_packs s (write a page) h = write_packs s a page h
step_packs s mark h = both (Packs s mark) (ltb s.head.now open_end) (still s mark _ refl (λ d. omega (arith, d))) (still s mark _ refl (λ d. omega (arith, d)))
step_packs s (revert m w) h =
    both (Packs s (revert m w)) (readable s m)
    (both (Packs s (revert m w)) (leb s.head.now m) (still s (revert m w) _ refl (λ d. omega (arith, d)))
    (both (Packs s (revert m w)) (leb open_end s.head.now) (still s (revert m w) _ refl (λ d. omega (arith, d)))
    (both (Packs s (revert m w)) (leb (length s.branch_rows) s.head.branches) (still s (revert m w) _ refl (λ d. omega (arith, d)))
    (still s (revert m w) _ refl (λ d. omega (arith, d))))))
    (still s (revert m w) _ refl (λ d. omega (arith, d)))
step_packs s (read_at a m) h =
    both (Packs s (read_at a m)) (ltb a s.head.size)
    (both (Packs s (read_at a m)) (readable s m)
    (both (Packs s (read_at a m)) (ltb s.head.now m) (still s (read_at a m) _ refl (λ d. omega (arith, d))) (still s (read_at a m) _ refl (λ d. omega (arith, d))))
    (still s (read_at a m) _ refl (λ d. omega (arith, d))))
    (still s (read_at a m) _ refl (λ d. omega (arith, d)))
step_packs s (reclaim m) h =
    both (Packs s (reclaim m)) (ltb m s.head.floor) (still s (reclaim m) _ refl (λ d. omega (arith, d)))
    (both (Packs s (reclaim m)) (ltb s.head.now m) (still s (reclaim m) _ refl (λ d. omega (arith, d)))
    (record {
      placed = λ r k. inl (mem_keep (is_given s m) r (records s) (rw (records_after s m) at k)).0;
      full = λ d. absurd (omega (arith, d));
    }))
step_packs s (give n) h = give_cases (Packs s (give n)) s n (λ k i j. still s (give n) _ refl (λ d. omega (arith, d))) (λ g. still s (give n) _ refl (λ d. omega (arith, d)))
step_packs s (withdraw high low) h =
    withdraw_cases (Packs s (withdraw high low)) s high low (λ e. still s (withdraw high low) _ refl (λ d. omega (arith, d)))
    (λ n e. still s (withdraw high low) _ refl (λ d. omega (arith, d)))

pub takes_smallest : TakesSmallest
takes_smallest s q n e = step_packs s q (check_sound s n e)
