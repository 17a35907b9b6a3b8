-- Chained branch rows by their number, oldest first.
use mathlib.Core.Path.{◌≡◌, refl, ap, sym, subst, ◌∙◌}
use mathlib.Core.List.{List, [], ◌∷◌}
use mathlib.Core.Bool.{true, false≢true}
use Prim.Native.Nat.{ℕ, zero, suc, ◌+◌, ◌-◌, ◌≤◌, ◌<◌}
use native.Mathlib.Nat.{le_refl}
use native.Mathlib.Decide.{dec_lt}
use native.Mathlib.Omega.{arith}
use lib.Dec.{eqb}
use lib.ListN.{length}
use borrow.Author.Tests.{eqb-true, eq-eqb, ne_eqb}
use Rattle.model.specs.declared.Branch.{Branch}
use Rattle.model.specs.Store.{zero_branch}
use Rattle.model.specs.Soundness.{chained}
use Rattle.model.specs.ByNumber.{First, Link, Chain, branch, newest_of, held, Stairs}
use Rattle.model.proofs.Base.{case}
use Rattle.model.proofs.Invariant.{→chained}
use Rattle.model.proofs.Checked.{chained→}
use Rattle.model.proofs.Ancestry.{chain_ordered}
use Rattle.model.proofs.Moves.{covered}
use Rattle.model.proofs.ByNumber.{top, chain_line}
use Rattle.rows.specs.Rows.{branch_rows_of, BranchesIn}
use Rattle.rows.proofs.Laws.{branch_count}
use Rattle.holding.specs.Search.{unbroken}

-- a row that was read, number by number
pub record Same (b r : Branch) : Type 0 where
  pub start : b.start ≡ r.start
  pub end : b.end ≡ r.end
  pub cut : b.cut ≡ r.cut
  pub order : b.order ≡ r.order

pub same : {b r : Branch} → b ≡ r → Same b r
same e = record { start = ap (λ (b : Branch). b.start) e; end = ap (λ (b : Branch). b.end) e; cut = ap (λ (b : Branch). b.cut) e; order = ap (λ (b : Branch). b.order) e }

-- the newest of the first i rows
pub top_row : (rows : List Branch) (i : ℕ) → 0 < i → i ≤ length rows → newest_of rows i ≡ branch rows (i - 1) ∷ newest_of rows (i - 1)
top_row rows i pos l =
    let e : suc (i - 1) ≡ i = omega arith in
    ap (λ (k : ℕ). newest_of rows k) (sym e) ∙ top rows (i - 1) zero_branch (omega arith)

-- the newest two, where the row i is not the first
two_rows : (rows : List Branch) (i : ℕ) → 0 < i → i < length rows → newest_of rows (suc i) ≡ branch rows i ∷ branch rows (i - 1) ∷ newest_of rows (i - 1)
two_rows rows i pos room = top rows i zero_branch room ∙ ap (λ (x : List Branch). branch rows i ∷ x) (top_row rows i pos (omega arith))

module _ (floor : ℕ) (rows : List Branch) where
  -- the first i rows pass
  abbrev pub Passes : ℕ → Type 0
  Passes i = chained floor (newest_of rows i) ≡ true

  first_top : 1 ≤ length rows → newest_of rows 1 ≡ branch rows 0 ∷ newest_of rows 0
  first_top l = top rows 0 zero_branch l

  pub first→ : 1 ≤ length rows → Passes 1 → First (branch rows 0)
  first→ l h = chained→ floor (branch rows 0 ∷ newest_of rows 0) (rw (first_top l) at h)

  pub →first : 1 ≤ length rows → First (branch rows 0) → Passes 1
  →first l h = rw (first_top l) (→chained floor (branch rows 0 ∷ newest_of rows 0) h)

  -- the row i, which is not the first, against those before it
  module _ (i : ℕ) (pos : 0 < i) (room : i < length rows) where
    before_row : newest_of rows i ≡ branch rows (i - 1) ∷ newest_of rows (i - 1)
    before_row = top_row rows i pos (omega arith)

    both→ : Passes (suc i) → Link floor (branch rows i) (branch rows (i - 1)) (newest_of rows (i - 1)) × Chain floor (branch rows (i - 1) ∷ newest_of rows (i - 1))
    both→ h = chained→ floor (branch rows i ∷ branch rows (i - 1) ∷ newest_of rows (i - 1)) (rw (two_rows rows i pos room) at h)

    pub link→ : Passes (suc i) → Link floor (branch rows i) (branch rows (i - 1)) (newest_of rows (i - 1))
    link→ h = (both→ h).0

    passes_before : Passes (suc i) → Passes i
    passes_before h = rw before_row (→chained floor (branch rows (i - 1) ∷ newest_of rows (i - 1)) (both→ h).1)

    pub →link : Passes i → Link floor (branch rows i) (branch rows (i - 1)) (newest_of rows (i - 1)) → Passes (suc i)
    →link h l =
        let c : Chain floor (branch rows (i - 1) ∷ newest_of rows (i - 1)) = chained→ floor (branch rows (i - 1) ∷ newest_of rows (i - 1)) (rw before_row at h) in
        rw (two_rows rows i pos room) (→chained floor (branch rows i ∷ branch rows (i - 1) ∷ newest_of rows (i - 1)) (l, c))

  pub passes_some : (n : ℕ) → Passes n → 0 < n
  unfolding chained
  passes_some zero h = absurd (false≢true h)
  passes_some (suc n) h = omega arith

  -- rows that pass hold every moment from the floor to the last one's end
  pub passes_cover : (n t : ℕ) → n ≤ length rows → Passes n → floor ≤ t → t ≤ (branch rows (n - 1)).end → held rows n t ≡ true
  unfolding held
  passes_cover n t l h a b =
      let e : newest_of rows n ≡ branch rows (n - 1) ∷ newest_of rows (n - 1) = top_row rows n (passes_some n h) l in
      rw e (covered floor (branch rows (n - 1)) (newest_of rows (n - 1)) t (chained→ floor (branch rows (n - 1) ∷ newest_of rows (n - 1)) (rw e at h)) a b)

  -- the first rows of those that pass do
  pub passes_at : (n i : ℕ) → n ≤ length rows → Passes n → 0 < i → i ≤ n → Passes i
  passes_at zero i l h a b = absurd (omega arith)
  passes_at (suc n) i l h a b = go (dec_lt n i) (λ m. passes_at n i (omega arith) (passes_before n (omega arith) l h) a (omega arith))
    where
      go : Dec (n < i) → ((n < i → ⊥) → Passes i) → Passes i
      go (yes m) f = let e : i ≡ suc n = omega arith in rw e h
      go (no m) f = f m

  -- rows that pass follow one another
  passes_stairs : (n : ℕ) → n ≤ length rows → Passes n → Stairs rows n
  passes_stairs n l h = (chain_line floor rows n l (chained→ floor (newest_of rows n) h)).stairs

-- and so do the rows of a table
pub table_room : (n : ℕ) (bt : List ℕ) → BranchesIn n bt → n ≤ length (branch_rows_of bt)
table_room n bt l = omega (arith, branch_count bt)

pub table_stairs : (floor n : ℕ) (bt : List ℕ) → BranchesIn n bt → chained floor (newest_of (branch_rows_of bt) n) ≡ true → Stairs (branch_rows_of bt) n
table_stairs floor n bt l h = passes_stairs floor (branch_rows_of bt) n (table_room n bt l) h

-- a higher floor asks less
chain_up : (floor high : ℕ) (bs : List Branch) → floor ≤ high → Chain floor bs → Chain high bs
chain_up floor high [] l h = h
chain_up floor high (b ∷ []) l h = h
chain_up floor high (b ∷ c ∷ bs) l h =
    (record { ordered = h.0.ordered; after = h.0.after; follows = λ m. h.0.follows (omega arith); parent = h.0.parent; order = h.0.order }, chain_up floor high (c ∷ bs) l h.1)

-- the last gap ends where the newest row starts, or before
unbroken_most : (floor : ℕ) (b : Branch) (bs : List Branch) → Chain floor (b ∷ bs) → unbroken (b ∷ bs) ≤ b.start
unfolding unbroken
unbroken_most floor b [] h = omega arith
unbroken_most floor b (c ∷ bs) h =
    case (eqb b.start (c.end + 1))
    (λ e. rw e (omega (arith, unbroken_most floor c bs h.1, chain_ordered floor c bs h.1, h.0)))
    (λ e. rw e (le_refl _))

-- rows that are chained are so with the end of the last gap in place of the floor
chain_unbroken : (floor : ℕ) (bs : List Branch) → Chain floor bs → Chain (unbroken bs) bs
unfolding unbroken
chain_unbroken floor [] h = h
chain_unbroken floor (b ∷ []) h = h
chain_unbroken floor (b ∷ c ∷ bs) h =
    case (eqb b.start (c.end + 1))
    (λ e.
    let u : unbroken (b ∷ c ∷ bs) ≡ unbroken (c ∷ bs) = rw e refl in
    subst (λ (x : ℕ). Chain x (b ∷ c ∷ bs)) (sym u)
    (record { ordered = h.0.ordered; after = h.0.after; follows = λ _. eqb-true _ _ e; parent = h.0.parent; order = h.0.order }, chain_unbroken floor (c ∷ bs) h.1))
    (λ e.
    let u : unbroken (b ∷ c ∷ bs) ≡ b.start = rw e refl in
    subst (λ (x : ℕ). Chain x (b ∷ c ∷ bs)) (sym u)
    (record { ordered = h.0.ordered; after = h.0.after; follows = λ m. absurd (omega arith); parent = h.0.parent; order = h.0.order }, chain_up (unbroken (c ∷ bs)) b.start (c ∷ bs) (omega (arith, unbroken_most floor c bs h.1, chain_ordered floor c bs h.1, h.0)) (chain_unbroken floor (c ∷ bs) h.1)))

pub chained_unbroken : (floor : ℕ) (bs : List Branch) → chained floor bs ≡ true → chained (unbroken bs) bs ≡ true
chained_unbroken floor bs h = →chained (unbroken bs) bs (chain_unbroken floor bs (chained→ floor bs h))

-- where the last gap ends, by how many rows there are
module _ (rows : List Branch) where
  pub unbroken_few : (i : ℕ) → i ≤ 1 → i ≤ length rows → unbroken (newest_of rows i) ≡ 0
  unfolding unbroken
  unbroken_few zero a l = refl
  unbroken_few (suc i) a l = let z : i ≡ 0 = omega arith in rw (z, top rows 0 zero_branch (omega arith))

  module _ (i : ℕ) (more : 1 < i) (room : i ≤ length rows) where
    last_row : newest_of rows (i - 1) ≡ branch rows (i - 1 - 1) ∷ newest_of rows (i - 1 - 1)
    last_row = top_row rows (i - 1) (omega arith) (omega arith)

    last_two : newest_of rows i ≡ branch rows (i - 1) ∷ branch rows (i - 1 - 1) ∷ newest_of rows (i - 1 - 1)
    last_two = top_row rows i (omega arith) room ∙ ap (λ (x : List Branch). branch rows (i - 1) ∷ x) last_row

    pub unbroken_gap : ((branch rows (i - 1)).start ≡ (branch rows (i - 1 - 1)).end + 1 → ⊥) → unbroken (newest_of rows i) ≡ (branch rows (i - 1)).start
    unfolding unbroken
    unbroken_gap h = rw (last_two, ne_eqb _ _ h)

    pub unbroken_on : (branch rows (i - 1)).start ≡ (branch rows (i - 1 - 1)).end + 1 → unbroken (newest_of rows i) ≡ unbroken (newest_of rows (i - 1))
    unfolding unbroken
    unbroken_on h = rw (last_two, last_row, eq-eqb _ _ h)
