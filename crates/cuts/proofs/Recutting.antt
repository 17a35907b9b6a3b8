-- The laws of rows that are cut anew, one row at a time, and what of them stays.
use mathlib.Core.Path.{◌≡◌, refl, ap, ap₂, sym, ◌∙◌}
use mathlib.Core.List.{List, [], ◌∷◌, ◌++◌, map, map-append, append-nil}
use mathlib.Core.Bool.{Bool, true, false, cond}
use Prim.Native.Nat.{ℕ, zero, suc, ◌+◌, ◌≤◌, ◌<◌}
use native.Mathlib.Omega.{arith}
use native.Mathlib.Numerals.{add-one}
use lib.Dec.{ltb, eqb}
use lib.ListN.{length, set, take, drop, length-set, length-drop}
use lib.Seq.{take-suc, set-get_or, get_or-set_same, get_or-set_other, get_or-drop, ext_get_or}
use borrow.Author.Tests.{ltb-true, ltb-false, eqb-true, eqb-false}
use Rattle.model.specs.declared.Branch.{Branch}
use Rattle.model.specs.Store.{zero_branch, keep, any}
use Rattle.model.specs.Lookup.{holds}
use Rattle.model.specs.Step.{landing, with_cut}
use Rattle.model.specs.ByNumber.{branch, newest_of, held, Stairs, Line}
use Rattle.model.proofs.Base.{case, keep_append, keep_true, keep_false}
use Rattle.model.proofs.Ancestry.{→holds}
use Rattle.model.proofs.ByNumber.{top}
use Rattle.rows.specs.Rows.{branch_rows_of, BranchesIn, BranchesLaid, BranchSet}
use Rattle.rows.proofs.Laws.{branch_kind, branch_count}
use Rattle.rows.proofs.Relaid.{laid_own, laid_rows, laid_then, set_length}
use Rattle.closing.specs.Closed.{keep_by}
use Rattle.closing.proofs.Closing.{kept_more, kept_less}
use Rattle.branch_marks.specs.Marks.{holder, Holder}
use Rattle.branch_marks.proofs.Holders.{holder_of, other_row}
use Rattle.cuts.specs.Cuts.{landing_by, recut}

-- what a cut becomes: the same by row number as by the rows newest first
pub landing_by_lem : (left : Branch → Bool) (p : ℕ → Bool) (bs : List Branch) (n : ℕ) → n ≤ length bs → ((i : ℕ) → i < n → p i ≡ left (branch bs i))
    → (t : ℕ) → landing_by p bs n t ≡ landing left (newest_of bs n) t
unfolding landing_by landing
landing_by_lem left p bs zero room e t = refl
landing_by_lem left p bs (suc n) room e t =
    let ih : (u : ℕ) → landing_by p bs n u ≡ landing left (newest_of bs n) u = landing_by_lem left p bs n (omega arith) (λ i l. e i (omega arith)) in
    rw (top bs n zero_branch (omega arith), e n (omega arith))
    (ap₂ (λ (x y : ℕ). cond (holds (branch bs n) t) (cond (left (branch bs n)) t x) y) (ih (branch bs n).cut) (ih t))

module _ (p : ℕ → Bool) (bs : List Branch) where
  -- one row holds a cut, and says what it becomes
  module _ {n : ℕ} (h : Stairs bs n) (t q : ℕ) (y : holds (branch bs q) t ≡ true) where
    pub landing_row : (i : ℕ) → q < i → i ≤ n → landing_by p bs i t ≡ cond (p q) t (landing_by p bs q (branch bs q).cut)
    unfolding landing_by
    landing_row zero a b = absurd (omega arith)
    landing_row (suc i) a b =
        case (eqb i q)
        (λ e. let z : i ≡ q = eqb-true i q e in rw (z, y))
        (λ e.
        let ne : i ≡ q → ⊥ = eqb-false i q e in
        rw (other_row h t q i (omega arith) (omega arith) y ne) (landing_row i (omega arith) (omega arith)))

  -- rows cut anew: as many as before, the first m with their new cuts
  pub recut_length : (m : ℕ) → length (recut p bs m) ≡ length bs
  unfolding recut
  recut_length zero = refl
  recut_length (suc m) = length-set (recut p bs m) m (with_cut (branch bs m) (landing_by p bs m (branch bs m).cut)) ∙ recut_length m

  pub recut_above : (m i : ℕ) → m ≤ i → branch (recut p bs m) i ≡ branch bs i
  unfolding recut
  recut_above zero i l = refl
  recut_above (suc m) i l =
      get_or-set_other (recut p bs m) m i (with_cut (branch bs m) (landing_by p bs m (branch bs m).cut)) zero_branch (λ e. omega arith) ∙ recut_above m i (omega arith)

  pub recut_below : (m i : ℕ) → m ≤ length bs → i < m → branch (recut p bs m) i ≡ with_cut (branch bs i) (landing_by p bs i (branch bs i).cut)
  unfolding recut
  recut_below zero i room l = absurd (omega arith)
  recut_below (suc m) i room l =
      let b : Branch = with_cut (branch bs m) (landing_by p bs m (branch bs m).cut) in
      case (eqb i m)
      (λ e. rw (eqb-true i m e) (get_or-set_same (recut p bs m) m b zero_branch (omega (arith, recut_length m))))
      (λ e.
      let ne : i ≡ m → ⊥ = eqb-false i m e in
      get_or-set_other (recut p bs m) m i b zero_branch ne ∙ recut_below m i (omega arith) (omega arith))

  pub recut_rest : (n : ℕ) → drop n (recut p bs n) ≡ drop n bs
  recut_rest n =
      ext_get_or zero_branch (drop n (recut p bs n)) (drop n bs) (simp length-drop (rw (recut_length n)))
      (λ i l. get_or-drop n (recut p bs n) i zero_branch ∙ (recut_above n (n + i) (omega arith) ∙ sym (get_or-drop n bs i zero_branch)))

  -- starts and ends stay
  module _ (m : ℕ) (room : m ≤ length bs) where
    recut_start : (i : ℕ) → (branch (recut p bs m) i).start ≡ (branch bs i).start
    recut_start i =
        case (ltb i m)
        (λ e. ap (λ (b : Branch). b.start) (recut_below m i room (ltb-true i m e)))
        (λ e. ap (λ (b : Branch). b.start) (recut_above m i (ltb-false i m e)))

    recut_end : (i : ℕ) → (branch (recut p bs m) i).end ≡ (branch bs i).end
    recut_end i =
        case (ltb i m)
        (λ e. ap (λ (b : Branch). b.end) (recut_below m i room (ltb-true i m e)))
        (λ e. ap (λ (b : Branch). b.end) (recut_above m i (ltb-false i m e)))

    pub recut_stairs : {n : ℕ} → Stairs bs n → Stairs (recut p bs m) n
    recut_stairs h =
        record {
          ordered = λ i a. rw (recut_start i, recut_end i) (h.ordered i a);
          apart = λ i j a b. rw (recut_end i, recut_start j) (h.apart i j a b);
        }

    recut_holds : (i t : ℕ) → holds (branch (recut p bs m) i) t ≡ holds (branch bs i) t
    unfolding holds
    recut_holds i t = rw (recut_start i, recut_end i)

    pub recut_held : (i t : ℕ) → i ≤ length bs → held (recut p bs m) i t ≡ held bs i t
    unfolding held any
    recut_held zero t l = refl
    recut_held (suc i) t l =
        rw (top (recut p bs m) i zero_branch (omega (arith, recut_length m)), top bs i zero_branch (omega arith), recut_holds i t, recut_held i t (omega arith))

  -- a row whose parent stays has its cut already
  pub recut_stays : {n i q : ℕ} → Stairs bs n → i < n → q < i → holds (branch bs q) (branch bs i).cut ≡ true → p q ≡ true → recut p bs i ≡ recut p bs (suc i)
  unfolding recut
  recut_stays {n} {i} {q} h b a y e =
      rw (landing_row h (branch bs i).cut q y i a (omega arith), e)
      (sym (ap (λ (d : Branch). set (recut p bs i) i d) (sym (recut_above i i (omega arith))) ∙ set-get_or (recut p bs i) i zero_branch))

  -- one whose parent goes takes over the cut that the parent has by now
  pub recut_goes : {n i q : ℕ} → Stairs bs n → n ≤ length bs → i < n → q < i → holds (branch bs q) (branch bs i).cut ≡ true → p q ≡ false
      → set (recut p bs i) i (with_cut (branch (recut p bs i) i) (branch (recut p bs i) q).cut) ≡ recut p bs (suc i)
  unfolding recut
  recut_goes {n} {i} {q} h room b a y e =
      rw (landing_row h (branch bs i).cut q y i a (omega arith), e, recut_above i i (omega arith), recut_below i q (omega arith) a)

  -- the first row's cut stays
  pub recut_first : recut p bs 1 ≡ bs
  unfolding recut landing_by
  recut_first = set-get_or bs 0 zero_branch

  recut_few : (m : ℕ) → m ≤ 1 → recut p bs m ≡ bs
  unfolding recut
  recut_few zero a = refl
  recut_few (suc m) a = let z : m ≡ 0 = omega arith in rw z recut_first

-- the table u is t with its first i rows cut anew, of n
pub record Cut (p : ℕ → Bool) (t : List ℕ) (n : ℕ) (u : List ℕ) (i : ℕ) : Type 0 where
  pub some : 0 < i
  pub within : i ≤ n + 1
  pub long : length u ≡ length t
  pub laid : BranchesLaid t (recut p (branch_rows_of t) i) u

module _ {p : ℕ → Bool} {t : List ℕ} where
  pub cut_start : {n : ℕ} → Cut p t n t 1
  cut_start = record { some = omega arith; within = omega arith; long = refl; laid = rw (recut_first p (branch_rows_of t)) (laid_own branch_kind t) }

  pub cut_end : {n i : ℕ} {u : List ℕ} → Cut p t n u i → (1 ≤ n → i ≤ n) → n ≤ i → BranchesLaid t (recut p (branch_rows_of t) n) u
  cut_end {n = zero} {i} g c l = let e : i ≡ 1 = omega (arith, g.some, g.within) in rw (recut_few p (branch_rows_of t) 0 (omega arith), ← recut_first p (branch_rows_of t), ← e) g.laid
  cut_end {n = suc n} {i} g c l = let e : suc n ≡ i = omega arith in rw e g.laid

  module _ {n : ℕ} (h : Line (branch_rows_of t) n) (fits : BranchesIn n t) {u : List ℕ} {i : ℕ} (g : Cut p t n u i) (l : i < n) where
    room : n ≤ length (branch_rows_of t)
    room = omega (arith, branch_count t)

    rows : branch_rows_of u ≡ recut p (branch_rows_of t) i
    rows = laid_rows branch_kind g.laid g.long

    -- what the search for the parent asks
    pub cut_stairs : Stairs (branch_rows_of u) i
    cut_stairs =
        let s : Stairs (recut p (branch_rows_of t) i) n = recut_stairs p (branch_rows_of t) i (omega (arith, room)) h.stairs in
        rw rows (record { ordered = λ k a. s.ordered k (omega arith); apart = λ k j a b. s.apart k j a (omega arith) })

    row : branch (branch_rows_of u) i ≡ branch (branch_rows_of t) i
    row = rw rows (recut_above p (branch_rows_of t) i i (omega arith))

    pub cut_held : {b : Branch} → b ≡ branch (branch_rows_of u) i → held (branch_rows_of u) i b.cut ≡ true
    cut_held e =
        rw (e, row, rows) (recut_held p (branch_rows_of t) i (omega (arith, room)) i (branch (branch_rows_of t) i).cut (omega (arith, room)) ∙ h.parent i g.some l)

    module _ {b : Branch} {q : ℕ} (e : b ≡ branch (branch_rows_of u) i) (k : Holder (branch_rows_of u) i b.cut q) where
      parent_holds : holds (branch (branch_rows_of t) q) (branch (branch_rows_of t) i).cut ≡ true
      parent_holds =
          sym (recut_holds p (branch_rows_of t) i (omega (arith, room)) q (branch (branch_rows_of t) i).cut)
          ∙ rw (← rows, ← row, ← e) (→holds (branch (branch_rows_of u) q) b.cut k.low k.high)

      pub cut_stays : p q ≡ true → Cut p t n u (i + 1)
      cut_stays c =
          record {
            some = omega arith;
            within = omega arith;
            long = g.long;
            laid = rw (add-one i, ← recut_stays p (branch_rows_of t) h.stairs l k.inside parent_holds c) g.laid;
          }

      pub cut_goes : {d : Branch} {v : List ℕ} → p q ≡ false → d ≡ branch (branch_rows_of u) q → BranchSet u i (with_cut b d.cut) v → Cut p t n v (i + 1)
      cut_goes {d} c f s =
          let z : set (branch_rows_of u) i (with_cut b d.cut) ≡ recut p (branch_rows_of t) (suc i) = rw (e, f, rows) (recut_goes p (branch_rows_of t) h.stairs room l k.inside parent_holds c) in
          record {
            some = omega arith;
            within = omega arith;
            long = set_length branch_kind s ∙ g.long;
            laid = rw (add-one i, ← z) (laid_then branch_kind g.laid g.long s.laid);
          }

-- the rows that stay, with their new cuts, are those that the model leaves
module _ (left : Branch → Bool) (p : ℕ → Bool) (bs : List Branch) (n : ℕ) (h : Line bs n) (room : n ≤ length bs) (e : (i : ℕ) → i < n → p i ≡ left (branch bs i))
    (own : holds (branch bs 0) (branch bs 0).cut ≡ true) (first : left (branch bs 0) ≡ true) where
  abbrev new : Branch → Branch
  new b = with_cut b (landing left (newest_of bs n) b.cut)

  landing_all : (i : ℕ) → i < n → landing_by p bs i (branch bs i).cut ≡ landing left (newest_of bs n) (branch bs i).cut
  unfolding landing_by
  landing_all zero l =
      sym (sym (landing_by_lem left p bs n room e (branch bs 0).cut) ∙ landing_row p bs h.stairs (branch bs 0).cut 0 own n l (omega arith) ∙ rw (e 0 l, first))
  landing_all (suc i) l =
      let t : ℕ = (branch bs (suc i)).cut in
      let k = holder_of bs (suc i) t (omega arith) (h.parent (suc i) (omega arith) l) in
      let q = holder bs (suc i) t in
      let y : holds (branch bs q) t ≡ true = →holds (branch bs q) t k.low k.high in
      landing_row p bs h.stairs t q y (suc i) k.inside (omega arith)
      ∙ (sym (landing_row p bs h.stairs t q y n (omega (arith, k.inside)) (omega arith)) ∙ landing_by_lem left p bs n room e t)

  settled_up : (m : ℕ) → m ≤ n → keep_by p (take m (recut p bs n)) ≡ map new (keep left (take m bs))
  unfolding keep_by keep
  settled_up zero l = refl
  settled_up (suc m) l =
      let rs : List Branch = recut p bs n in
      let ih : keep_by p (take m rs) ≡ map new (keep left (take m bs)) = settled_up m (omega arith) in
      let long : m < length rs = omega (arith, recut_length p bs n) in
      let row : branch rs m ≡ new (branch bs m) =
      recut_below p bs n m room l ∙ ap (with_cut (branch bs m)) (landing_all m l) in
      let more : keep left (take (suc m) bs) ≡ keep left (take m bs) ++ keep left (branch bs m ∷ []) =
      ap (keep left) (take-suc bs m zero_branch (omega arith)) ∙ keep_append left (take m bs) (branch bs m ∷ []) in
      case (left (branch bs m))
      (λ d.
      kept_more zero_branch p rs m long (e m l ∙ d)
      ∙ rw (more, keep_true left (branch bs m) [] d, map-append new (keep left (take m bs)) (branch bs m ∷ []), ih, row))
      (λ d.
      kept_less zero_branch p rs m long (e m l ∙ d)
      ∙ rw (more, keep_false left (branch bs m) [] d, append-nil (keep left (take m bs))) ih)

  pub recut_settled : keep_by p (take n (recut p bs n)) ≡ map (λ b. with_cut b (landing left (newest_of bs n) b.cut)) (keep left (take n bs))
  recut_settled = settled_up n (omega arith)
