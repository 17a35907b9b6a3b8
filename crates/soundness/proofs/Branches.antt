-- Check 2 of the branches, row by row and of a store.
use mathlib.Core.Path.{◌≡◌, ap, ◌∙◌}
use mathlib.Core.List.{List, ◌∷◌}
use mathlib.Core.Bool.{Bool, true, false, ◌&&◌, ◌||◌}
use Prim.Native.Nat.{ℕ, suc, ◌+◌, ◌-◌, ◌≤◌, ◌<◌}
use native.Mathlib.Omega.{arith}
use lib.Dec.{leb, ltb, eqb}
use lib.ListN.{length}
use borrow.Author.Tests.{eq-eqb}
use Rattle.model.specs.declared.Branch.{Branch}
use Rattle.model.specs.declared.Head.{Head}
use Rattle.model.proofs.ByNumber.{top}
use Rattle.model.specs.Store.{zero_branch, Store, newest, branches, any, open_end}
use Rattle.model.specs.Lookup.{holds}
use Rattle.model.specs.Soundness.{chained, open_row, branches_sound}
use Rattle.model.specs.ByNumber.{First, branch, newest_of, held}
use Rattle.model.proofs.Base.{case, same_test, absurd_test, and→, →and}
use Rattle.rows.specs.Rows.{branch_rows_of, BranchesIn}
use Rattle.rows.specs.View.{Tables, with_branches, store_of}
use Rattle.rows.proofs.Laws.{branch_count}
use Rattle.holding.proofs.Chain.{first→, →first, passes_at, top_row}

-- the row i, which is not the first, against those before it, which pass
module _ (floor : ℕ) (bt : List ℕ) (i : ℕ) (pos : 0 < i) (room : BranchesIn (suc i) bt) where
  abbrev b : Branch
  b = branch (branch_rows_of bt) i

  abbrev c : Branch
  c = branch (branch_rows_of bt) (i - 1)

  pub chained_on : chained floor (newest_of (branch_rows_of bt) i) ≡ true
      → chained floor (newest_of (branch_rows_of bt) (suc i))
      ≡ (leb b.start b.end && (ltb c.end b.start && ((eqb b.start (c.end + 1) || leb b.start floor) && (leb b.order 65535 && held (branch_rows_of bt) i b.cut))))
  unfolding held chained
  chained_on h =
      let rows : List Branch = branch_rows_of bt in
      let many : i < length rows = omega (arith, branch_count bt) in
      let one : newest_of rows i ≡ c ∷ newest_of rows (i - 1) = top_row rows i pos (omega arith) in
      let two : newest_of rows (suc i) ≡ b ∷ c ∷ newest_of rows (i - 1) = top rows i zero_branch many ∙ ap (λ (x : List Branch). b ∷ x) one in
      let k : chained floor (c ∷ newest_of rows (i - 1)) ≡ true = rw one at h in
      let parent : Bool = any (λ d. holds d b.cut) (c ∷ newest_of rows (i - 1)) in
      case (leb b.order 65535)
      (λ w. case parent (λ p. rw (two, one, k, w, p)) (λ p. rw (two, one, k, w, p)))
      (λ w. case parent (λ p. rw (two, one, k, w, p)) (λ p. rw (two, one, k, w, p)))

-- check 2 of the branches of a store has all of them chained
pub sound_chained : (head : Head) (bt : List ℕ) (t : Tables) → branches_sound (store_of head (with_branches bt t)) ≡ true
    → chained head.floor (newest_of (branch_rows_of bt) head.branches) ≡ true
unfolding branches_sound newest branches
sound_chained head bt t e =
    let s : Store = store_of head (with_branches bt t) in
    (and→ (open_row head.now (newest s)) (chained head.floor (newest s)) e).1

-- the same by the number of its rows
module _ (head : Head) (bt : List ℕ) (t : Tables) (pos : 1 ≤ head.branches) (room : BranchesIn head.branches bt) where
  abbrev S : Store
  S = store_of head (with_branches bt t)

  abbrev first : Branch
  first = branch (branch_rows_of bt) 0

  abbrev last : Branch
  last = branch (branch_rows_of bt) (head.branches - 1)

  abbrev Chained : ℕ → Bool → Type 0
  Chained i x = chained head.floor (newest_of (branch_rows_of bt) i) ≡ x

  many : head.branches ≤ length (branch_rows_of bt)
  many = omega (arith, branch_count bt)

  -- the first row's test is one of it
  pub sound_first : branches_sound S ≡ ((eqb first.start 0 && (eqb first.cut 0 && eqb first.order 0)) && branches_sound S)
  sound_first =
      same_test (branches_sound S) _
      (λ e.
      let f : First first = first→ head.floor (branch_rows_of bt) (omega (arith, many)) (passes_at head.floor (branch_rows_of bt) head.branches 1 many (sound_chained head bt t e) (omega arith) pos) in
      →and (→and (eq-eqb _ _ f.start) (→and (eq-eqb _ _ f.cut) (eq-eqb _ _ f.order))) e)
      (λ e. (and→ (eqb first.start 0 && (eqb first.cut 0 && eqb first.order 0)) _ e).1)

  -- where it is met, the first row passes
  pub first_chained : first.start ≡ 0 → first.cut ≡ 0 → first.order ≡ 0 → Chained 1 true
  first_chained a b c =
      →first head.floor (branch_rows_of bt) (omega (arith, many)) (record { start = a; cut = b; order = c; ordered = omega arith })

  -- where the first i do not pass, no more do
  pub sound_not : (i : ℕ) → i < head.branches → Chained (suc i) false → branches_sound S ≡ false
  sound_not i l h =
      case (branches_sound S)
      (λ e. absurd_test (passes_at head.floor (branch_rows_of bt) head.branches (suc i) many (sound_chained head bt t e) (omega arith) l) h)
      (λ e. e)

  -- where all pass, the last row's test decides
  pub sound_last : Chained head.branches true → branches_sound S ≡ (eqb last.end open_end && leb last.start head.now)
  unfolding branches_sound newest branches
  sound_last h =
      let top : newest_of (branch_rows_of bt) head.branches ≡ last ∷ newest_of (branch_rows_of bt) (head.branches - 1) = top_row (branch_rows_of bt) head.branches pos many in
      case (eqb last.end open_end && leb last.start head.now) (λ e. rw (h, top, e)) (λ e. rw (h, top, e))
