-- Rows cut anew and closed up by the marks of the branches that stay are settled.
use mathlib.Core.Path.{◌≡◌, refl, ap, ◌∙◌}
use mathlib.Core.List.{List}
use mathlib.Core.Bool.{Bool, true, false}
use Prim.Native.Nat.{ℕ, ◌≤◌}
use native.Mathlib.Omega.{arith}
use lib.Dec.{eqb}
use lib.ListN.{length, take, drop, length-map}
use lib.Seq.{length-take-le}
use borrow.Author.Tests.{eq-eqb}
use Rattle.model.specs.declared.Branch.{Branch}
use Rattle.model.specs.declared.Record.{Record}
use Rattle.model.specs.Store.{keep}
use Rattle.model.specs.Lookup.{holds}
use Rattle.model.specs.Step.{stays, landing, with_cut}
use Rattle.model.specs.ByNumber.{branch, newest_of, First, Line}
use Rattle.model.proofs.Base.{length_keep}
use Rattle.model.proofs.Ancestry.{→holds}
use Rattle.rows.specs.Rows.{branch_rows_of, BranchesIn, BranchesLaid}
use Rattle.rows.proofs.Laws.{branch_kind, branch_count}
use Rattle.rows.proofs.Relaid.{laid_rows, laid_then}
use Rattle.closing.specs.Closed.{marked, keep_by, ClosedBranches}
use Rattle.branch_marks.specs.Marks.{Filled, bit, kept_branch}
use Rattle.cuts.specs.Cuts.{recut}
use Rattle.cuts.proofs.Recutting.{recut_settled, recut_rest}
use Rattle.reclaim.specs.Settled.{settled_rows, Settled}

pub bit_test : (b : Bool) → eqb (bit b) 1 ≡ b
bit_test true = refl
bit_test false = refl

module _ (floor : ℕ) (named : List ℕ) (kept : List Record) {b : Branch} (one : First b) where
  first_holds : holds b b.cut ≡ true
  first_holds = →holds b b.cut (omega (arith, one.start)) (omega (arith, one.cut))

  first_stays : stays floor named kept b ≡ true
  unfolding stays
  first_stays = rw (eq-eqb b.start 0 one.start)

module _ (floor : ℕ) (named : List ℕ) (kept : List Record) (bt : List ℕ) (n : ℕ) (room : BranchesIn n bt) (h : Line (branch_rows_of bt) n) (one : First (branch (branch_rows_of bt) 0)) where
  abbrev bs : List Branch
  bs = branch_rows_of bt

  abbrev left : Branch → Bool
  left = stays floor named kept

  pub settles : {old bm mid new : List ℕ} {w : ℕ} → Filled (kept_branch bs floor named kept) n old bm → BranchesLaid bt (recut (marked bm) bs n) mid → length mid ≡ length bt
      → ClosedBranches bm n mid new w → Settled left n bt new w
  settles {old} {bm} {mid} {new} {w} f x same c =
      let rows : branch_rows_of mid ≡ recut (marked bm) bs n = laid_rows branch_kind x same in
      let left-rows : keep_by (marked bm) (take n (branch_rows_of mid)) ≡ settled_rows left n bs =
      rw rows (recut_settled left (marked bm) bs n h (omega (arith, branch_count bt))
      (λ i l. ap (λ (v : ℕ). eqb v 1) (f.first i l) ∙ bit_test (left (branch bs i))) (first_holds floor named kept one) (first_stays floor named kept one)) in
      let rest : drop n (branch_rows_of mid) ≡ drop n bs = rw rows (recut_rest (marked bm) bs n) in
      record { table = rw (left-rows, rest) at (laid_then branch_kind x same c.table); count = rw left-rows at c.count }

-- no more rows are left than there were
pub count_settled : {left : Branch → Bool} {n : ℕ} {bt bt' : List ℕ} {w : ℕ} → Settled left n bt bt' w → BranchesIn n bt → w ≤ n
count_settled {left} {n} {bt} {bt'} {w} x room =
    let bs = branch_rows_of bt in
    let k : length (settled_rows left n bs) ≡ length (keep left (take n bs)) = length-map (keep left (take n bs)) (λ b. with_cut b (landing left (newest_of bs n) b.cut)) in
    omega (arith, x.count, k, length_keep left (take n bs), length-take-le n bs (omega (arith, branch_count bt)))
