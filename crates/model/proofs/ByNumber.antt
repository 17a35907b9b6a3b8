-- Sound tables by row number: what the code's loops go by.
use mathlib.Core.Path.{◌≡◌, refl, sym, ◌∙◌}
use mathlib.Core.Logic.{◌⊎◌, inl, inr}
use mathlib.Core.List.{List, [], ◌∷◌}
use mathlib.Core.Bool.{Bool, true, false}
use Prim.Native.Nat.{ℕ, zero, suc, ◌+◌, ◌≤◌, ◌<◌}
use native.Mathlib.Nat.{not-suc-le-zero}
use native.Mathlib.Decide.{dec_lt}
use native.Mathlib.Omega.{arith}
use lib.Dec.{eqb, eqb-suc-zero}
use lib.ListN.{length, get_or, set, take}
use lib.Seq.{get_or-take, length-take-le, get_or-set_other, take-suc}
use borrow.Author.Tests.{eqb-true, eqb-false}
use Rattle.model.specs.declared.Branch.{Branch}
use Rattle.model.specs.declared.Record.{Record}
use Rattle.model.specs.Store.{zero_branch, zero_record, any, open_end, ◌∈◌}
use Rattle.model.specs.Soundness.{used, in_use, precedes}
use Rattle.model.proofs.Base.{case, reverse_snoc, get_d_mem}
use Rattle.model.proofs.Latest.{Before, precedes→}
use Rattle.model.specs.ByNumber.{Asc, First, Link, Chain, SoundRows, Named, branch, entry, newest_of, held, Line, Ascend, Names}
use Rattle.model.proofs.Ancestry.{chain_of, chain_ordered}
use Rattle.model.proofs.Moves.{rows_covered}
use Rattle.model.proofs.Places.{count, one, count_cons, count_set, named_set, clear}

-- the first n rows, newest first
module _ {A : Type 0} where
  pub top : (rows : List A) (i : ℕ) (d : A) → i < length rows → newest_of rows (suc i) ≡ get_or rows i d ∷ newest_of rows i
  top rows i d h = rw (take-suc rows i d h) (reverse_snoc (take i rows) (get_or rows i d))

  module _ (p : A → Bool) (rows : List A) (d : A) where
    pub any_yes : (n i : ℕ) → n ≤ length rows → i < n → p (get_or rows i d) ≡ true → any p (newest_of rows n) ≡ true
    unfolding any
    any_yes zero i l h e = absurd (not-suc-le-zero h)
    any_yes (suc n) i l h e = rw (top rows n d l) (go (dec_lt i n) (λ m. any_yes n i (omega arith) m e))
      where
        go : Dec (i < n) → (i < n → any p (newest_of rows n) ≡ true) → any p (get_or rows n d ∷ newest_of rows n) ≡ true
        go (yes m) r = case (p (get_or rows n d)) (λ q. rw q) (λ q. rw (q, r m))
        go (no m) r =
            let z : i ≡ n = omega arith in
            let q : p (get_or rows n d) ≡ true = rw z at e in
            rw q

    pub any_no : (n : ℕ) → n ≤ length rows → ((i : ℕ) → i < n → p (get_or rows i d) ≡ false) → any p (newest_of rows n) ≡ false
    unfolding any
    any_no zero l h = refl
    any_no (suc n) l h = rw (top rows n d l, h n (omega arith)) (any_no n (omega arith) (λ i m. h i (omega arith)))

-- rows
module _ (floor : ℕ) (bs : List Branch) where
  chain_two : (k : ℕ) → suc k < length bs → Chain floor (newest_of bs (suc (suc k))) → Link floor (branch bs (suc k)) (branch bs k) (newest_of bs k) × Chain floor (newest_of bs (suc k))
  chain_two k l h =
      let e : newest_of bs (suc k) ≡ branch bs k ∷ newest_of bs k = top bs k zero_branch (omega arith) in
      let h' : Chain floor (branch bs (suc k) ∷ newest_of bs (suc k)) = rw (top bs (suc k) zero_branch l) at h in
      let h'' : Link floor (branch bs (suc k)) (branch bs k) (newest_of bs k) × Chain floor (branch bs k ∷ newest_of bs k) = rw e at h' in
      (h''.0, rw e h''.1)

  chain_at : (n i : ℕ) → n ≤ length bs → Chain floor (newest_of bs n) → i < n → Chain floor (newest_of bs (suc i))
  chain_at zero i l h j = absurd (omega arith)
  chain_at (suc zero) i l h j = let e : i ≡ 0 = omega arith in rw e h
  chain_at (suc (suc k)) i l h j =
      case (eqb i (suc k))
      (λ e. rw (eqb-true i (suc k) e) h)
      (λ e. let ne : i ≡ suc k → ⊥ = eqb-false i (suc k) e in chain_at (suc k) i (omega arith) (chain_two k (omega arith) h).1 (omega arith))

  module _ (n : ℕ) (room : n ≤ length bs) (h : Chain floor (newest_of bs n)) where
    link_at : (k : ℕ) → suc k < n → Link floor (branch bs (suc k)) (branch bs k) (newest_of bs k)
    link_at k l = (chain_two k (omega arith) (chain_at n (suc k) room h l)).0

    ordered_at : (i : ℕ) → i < n → (branch bs i).start ≤ (branch bs i).end
    ordered_at i l = chain_ordered floor (branch bs i) (newest_of bs i) (rw (top bs i zero_branch (omega arith)) at (chain_at n i room h l))

    apart_at : (i j : ℕ) → i < j → j < n → (branch bs i).end < (branch bs j).start
    apart_at i zero a b = absurd (omega arith)
    apart_at i (suc k) a b =
        let l : Link floor (branch bs (suc k)) (branch bs k) (newest_of bs k) = link_at k b in
        case (eqb i k)
        (λ e. rw (eqb-true i k e) l.after)
        (λ e.
        let ne : i ≡ k → ⊥ = eqb-false i k e in
        omega (arith, apart_at i k (omega arith) (omega arith), ordered_at k (omega arith), l.after))

    parent_at : (i : ℕ) → 0 < i → i < n → held bs i (branch bs i).cut ≡ true
    unfolding held
    parent_at zero a b = absurd (omega arith)
    parent_at (suc k) a b = rw (top bs k zero_branch (omega arith)) (link_at k b).parent

    pub chain_line : Line bs n
    chain_line = record { stairs = record { ordered = ordered_at; apart = apart_at }; parent = parent_at }

    pub chain_first : 0 < n → First (branch bs 0)
    chain_first l = rw (top bs 0 zero_branch (omega arith)) at (chain_at n 0 room h l)

-- a readable moment is in one of the rows
pub held_by : (floor now m : ℕ) (bs : List Branch) (n : ℕ) → SoundRows floor now (newest_of bs n) → now ≤ open_end → floor ≤ m → m ≤ now → held bs n m ≡ true
unfolding held
held_by floor now m bs n h a i j = rows_covered floor now m (newest_of bs n) h a i j

pub rows_line : (floor now : ℕ) (bs : List Branch) (n : ℕ) → n ≤ length bs → SoundRows floor now (newest_of bs n) → Line bs n
rows_line floor now bs n l h = chain_line floor bs n l (chain_of floor now (newest_of bs n) h)

pub rows_first : (floor now : ℕ) (bs : List Branch) (n : ℕ) → n ≤ length bs → 0 < n → SoundRows floor now (newest_of bs n) → First (branch bs 0)
rows_first floor now bs n l z h = chain_first floor bs n l (chain_of floor now (newest_of bs n) h) z

-- records
asc_at : (xs : List Record) → Asc xs → (i j : ℕ) → i < j → j < length xs → precedes (get_or xs i zero_record) (get_or xs j zero_record) ≡ true
asc_at [] h i j a b = absurd (omega arith)
asc_at (x ∷ xs) h i zero a b = absurd (omega arith)
asc_at (x ∷ xs) h zero (suc j) a b = h.0 (get_or xs j zero_record) (get_d_mem xs j zero_record (omega arith))
asc_at (x ∷ xs) h (suc i) (suc j) a b = asc_at xs h.1 i j (omega arith) (omega arith)

pub asc_ascend : (rs : List Record) (n : ℕ) → n ≤ length rs → Asc (take n rs) → Ascend rs n
asc_ascend rs n l h =
    record {
      addresses = λ i j a b. elim (two i j a b).order [ inl p ↦ omega arith | inr p ↦ omega arith ];
      moments = λ i j a b e. elim (two i j a b).order [ inl p ↦ absurd (omega arith) | inr p ↦ p.1 ];
    }
  where
    ln : length (take n rs) ≡ n
    ln = length-take-le n rs l

    two : (i j : ℕ) → i < j → j < n → Before (entry rs i) (entry rs j)
    two i j a b =
        rw (get_or-take n rs i zero_record (omega arith), get_or-take n rs j zero_record b) at
        (precedes→ (get_or (take n rs) i zero_record) (get_or (take n rs) j zero_record) (asc_at (take n rs) h i j a (rw ln b)))

-- places
named_at : (ps : List ℕ) (i : ℕ) (xs : List Record) → Named ps i xs → (k : ℕ) → k < length xs
    → ((get_or xs k zero_record).place < length ps) × (get_or ps (get_or xs k zero_record).place 0 ≡ i + k)
named_at ps i [] h k l = absurd (omega arith)
named_at ps i (x ∷ xs) h zero l = (h.0, h.1 ∙ omega arith)
named_at ps i (x ∷ xs) h (suc k) l =
    let ih : ((get_or xs k zero_record).place < length ps) × (get_or ps (get_or xs k zero_record).place 0 ≡ suc i + k) = named_at ps (suc i) xs h.2 k (omega arith) in
    (ih.0, ih.1 ∙ omega arith)

clear_used : (i : ℕ) (xs : List Record) (ps : List ℕ) → Named ps (suc i) xs → count in_use (clear xs ps) + length xs ≡ count in_use ps
clear_used i [] ps h = omega arith
clear_used i (x ∷ xs) ps h =
    let c : count in_use (set ps x.place 0) + one (in_use (get_or ps x.place 0)) ≡ count in_use ps + one (in_use 0) = count_set in_use ps x.place 0 h.0 in
    let c' : count in_use (set ps x.place 0) + 1 ≡ count in_use ps + 0 = rw (h.1, eqb-suc-zero i) at c in
    let v : get_or ps x.place 0 ≡ suc i = h.1 in
    let ih : count in_use (clear xs (set ps x.place 0)) + length xs ≡ count in_use (set ps x.place 0) =
    clear_used (suc i) xs (set ps x.place 0) (named_set ps x.place 0 (suc (suc i)) xs (omega arith) h.2) in
    omega arith

free : (xs : List ℕ) → count in_use xs ≡ 0 → (q : ℕ) → get_or xs q 0 ≡ 0
free [] e q = refl
free (zero ∷ xs) e zero = refl
free (zero ∷ xs) e (suc q) = free xs (omega (arith, count_cons in_use 0 xs)) q
free (suc x ∷ xs) e q =
    let c : count in_use (suc x ∷ xs) ≡ one (in_use (suc x)) + count in_use xs = count_cons in_use (suc x) xs in
    let c' : count in_use (suc x ∷ xs) ≡ 1 + count in_use xs = rw (eqb-suc-zero x) at c in
    absurd (omega arith)

clear_other : (xs : List Record) (ps : List ℕ) (q : ℕ) → ((r : Record) → r ∈ xs → r.place ≡ q → ⊥) → get_or (clear xs ps) q 0 ≡ get_or ps q 0
clear_other [] ps q h = refl
clear_other (x ∷ xs) ps q h =
    clear_other xs (set ps x.place 0) q (λ r m e. h r (inr m) e) ∙ get_or-set_other ps x.place q 0 0 (λ e. h x (inl refl) (sym e))

record Placed (xs : List Record) (q : ℕ) : Type 0 where
  number : ℕ
  inside : number < length xs
  place : (get_or xs number zero_record).place ≡ q

some_place : (xs : List Record) (q : ℕ) → Placed xs q ⊎ ((r : Record) → r ∈ xs → r.place ≡ q → ⊥)
some_place [] q = inr (λ r m e. absurd m)
some_place (x ∷ xs) q =
    case (eqb x.place q)
    (λ d. inl (record { number = 0; inside = omega arith; place = eqb-true x.place q d }))
    (λ d.
    let ne : x.place ≡ q → ⊥ = eqb-false x.place q d in
    elim (some_place xs q) [
      | inl y ↦ inl (record { number = suc y.number; inside = omega (arith, y.inside); place = y.place })
      | inr y ↦ inr (λ r m e. elim m [ inl z ↦ ne (rw z at e) | inr z ↦ y r z e ])
    ])

module _ (rs : List Record) (n : ℕ) (ps : List ℕ) (room : n ≤ length rs) (h : Named ps 1 (take n rs)) (u : used ps ≡ n) where
  ln : length (take n rs) ≡ n
  ln = length-take-le n rs room

  at_place : (k : ℕ) → k < n → ((entry rs k).place < length ps) × (get_or ps (entry rs k).place 0 ≡ suc k)
  at_place k l =
      let e : get_or (take n rs) k zero_record ≡ entry rs k = get_or-take n rs k zero_record l in
      let a : ((get_or (take n rs) k zero_record).place < length ps) × (get_or ps (get_or (take n rs) k zero_record).place 0 ≡ 1 + k) = named_at ps 1 (take n rs) h k (rw ln l) in
      let a' : ((entry rs k).place < length ps) × (get_or ps (entry rs k).place 0 ≡ 1 + k) = rw e at a in
      (a'.0, a'.1 ∙ omega arith)

  only_place : (q v : ℕ) → get_or ps q 0 ≡ suc v → (v < n) × ((entry rs v).place ≡ q)
  unfolding used
  only_place q v e =
      elim (some_place (take n rs) q) [
        | inl y ↦
            let l : y.number < n = rw ln at y.inside in
            let d : get_or (take n rs) y.number zero_record ≡ entry rs y.number = get_or-take n rs y.number zero_record l in
            let p : (entry rs y.number).place ≡ q = rw d at y.place in
            let a : get_or ps (entry rs y.number).place 0 ≡ suc y.number = (at_place y.number l).1 in
            let a' : get_or ps q 0 ≡ suc y.number = rw p at a in
            let z : y.number ≡ v = omega arith in
            (rw z at l, rw z at p)
        | inr y ↦
            let c : count in_use (clear (take n rs) ps) + length (take n rs) ≡ count in_use ps = clear_used 0 (take n rs) ps h in
            let f : get_or (clear (take n rs) ps) q 0 ≡ 0 = free (clear (take n rs) ps) (omega (arith, ln)) q in
            absurd (omega (arith, clear_other (take n rs) ps q y))
      ]

  pub names_of : Names rs n ps
  names_of = record { inside = λ k l. (at_place k l).0; row = λ k l. (at_place k l).1; only = only_place }

-- no place row names a record that is not there
pub names_below : {rs : List Record} {n : ℕ} {ps : List ℕ} → Names rs n ps → (q : ℕ) → get_or ps q 0 ≤ n
names_below {rs} {n} {ps} h q = go (get_or ps q 0) refl
  where
    go : (v : ℕ) → get_or ps q 0 ≡ v → get_or ps q 0 ≤ n
    go zero e = omega arith
    go (suc v) e = omega (arith, (h.only q v e).0)
