-- Check 1: what the tests of the lengths say.
use mathlib.Core.Path.{◌≡◌}
use mathlib.Core.List.{List}
use mathlib.Core.Bool.{true, ◌&&◌}
use Prim.Native.Nat.{ℕ, ◌/◌, ◌%◌, ◌≤◌}
use native.Mathlib.Omega.{arith}
use lib.Dec.{leb, eqb}
use lib.ListN.{length}
use borrow.Author.Tests.{eqb-true, eq-eqb}
use Rattle.model.specs.declared.Head.{Head}
use Rattle.model.specs.Store.{Store, open_end}
use Rattle.model.specs.Soundness.{sizes_allowed, in_range}
use Rattle.model.proofs.Base.{case, and→, →and}
use Rattle.model.proofs.Invariant.{→sizes}
use Rattle.model.specs.ByNumber.{Allowed, Sizes}
use Rattle.model.proofs.Checked.{sizes→, in_range→}
use Rattle.rows.specs.View.{Tables, tables, store_of}
use Rattle.rows.specs.Rows.{branch_width, record_width, name_width}
use Rattle.rows.proofs.Laws.{branch_count, record_count, name_count}
use Rattle.soundness.specs.Check.{whole_rows, whole_tables, allowed_of}

-- the lengths that are allowed, as statements
pub record Lengths (size lb lr lp ln ls : ℕ) : Type 0 where
  pub branches : lb % branch_width ≡ 0
  pub records : lr % record_width ≡ 0
  pub names : ln % name_width ≡ 0
  pub allowed : Allowed size (lb / branch_width) (lr / record_width) lp (ln / name_width) ls

module _ {size lb lr lp ln ls : ℕ} where
  pub lengths→ : allowed_of size lb lr lp ln ls ≡ true → Lengths size lb lr lp ln ls
  unfolding allowed_of whole_rows
  lengths→ e =
      let p : (whole_rows lb lr ln ≡ true) × (sizes_allowed size (lb / branch_width) (lr / record_width) lp (ln / name_width) ls ≡ true) = and→ _ _ e in
      let q : (eqb (lb % branch_width) 0 ≡ true) × ((eqb (lr % record_width) 0 && eqb (ln % name_width) 0) ≡ true) = and→ _ _ p.0 in
      let r : (eqb (lr % record_width) 0 ≡ true) × (eqb (ln % name_width) 0 ≡ true) = and→ _ _ q.1 in
      record { branches = eqb-true _ _ q.0; records = eqb-true _ _ r.0; names = eqb-true _ _ r.1; allowed = sizes→ size (lb / branch_width) (lr / record_width) lp (ln / name_width) ls p.1 }

  pub →lengths : Lengths size lb lr lp ln ls → allowed_of size lb lr lp ln ls ≡ true
  unfolding allowed_of whole_rows
  →lengths z = →and (→and (eq-eqb _ _ z.branches) (→and (eq-eqb _ _ z.records) (eq-eqb _ _ z.names))) (→sizes size (lb / branch_width) (lr / record_width) lp (ln / name_width) ls z.allowed)

-- the three tables of rows are whole numbers of rows long, so that their rows are all that they hold
pub record WholeRows (t : Tables) : Type 0 where
  pub branches : length t.branches % branch_width ≡ 0
  pub records : length t.records % record_width ≡ 0
  pub names : length t.names % name_width ≡ 0

module _ (t : Tables) where
  pub whole→ : whole_tables t ≡ true → WholeRows t
  unfolding whole_rows
  whole→ e =
      let p : (eqb (length t.branches % branch_width) 0 ≡ true) × (_ ≡ true) = and→ _ _ e in
      let q : (eqb (length t.records % record_width) 0 ≡ true) × (eqb (length t.names % name_width) 0 ≡ true) = and→ _ _ p.1 in
      record { branches = eqb-true _ _ p.0; records = eqb-true _ _ q.0; names = eqb-true _ _ q.1 }

  pub →whole : WholeRows t → whole_tables t ≡ true
  unfolding whole_rows
  →whole w = →and (eq-eqb _ _ w.branches) (→and (eq-eqb _ _ w.records) (eq-eqb _ _ w.names))

-- check 1, by the lengths
pub record Ranges (head : Head) (t : Tables) : Type 0 where
  pub lengths : Lengths head.size (length t.branches) (length t.records) (length t.places) (length t.names) (length t.slab)
  pub counted_low : 1 ≤ head.branches
  pub counted_high : head.branches ≤ length t.branches / branch_width
  pub records_counted : head.records ≤ length t.records / record_width
  pub names_counted : head.names ≤ 32
  pub floor_now : head.floor ≤ head.now

module _ (head : Head) (t : Tables) (high : head.now ≤ open_end) where
  abbrev S : Store
  S = store_of head t

  pub ranges→ : (whole_tables t && in_range S) ≡ true → Ranges head t
  ranges→ e =
      let p : (whole_tables t ≡ true) × (in_range S ≡ true) = and→ _ _ e in
      let w : WholeRows t = whole→ t p.0 in
      let z : Sizes S = in_range→ S high p.1 in
      let a : Allowed head.size (length t.branches / branch_width) (length t.records / record_width) (length t.places) (length t.names / name_width) (length t.slab) = rw (branch_count t.branches, record_count t.records, name_count t.names) at z.allowed in
      record {
        lengths = record { branches = w.branches; records = w.records; names = w.names; allowed = a };
        counted_low = z.counted_low;
        counted_high = omega (arith, z.counted_high, branch_count t.branches);
        records_counted = omega (arith, z.records_counted, record_count t.records);
        names_counted = z.names_counted;
        floor_now = z.floor_now;
      }

-- check 1, by the lengths, as tests
pub in_range_by : (head : Head) (bt rt pt nt : List ℕ) (slab : List ℕ)
    → (whole_tables (tables bt rt pt nt slab) && in_range (store_of head (tables bt rt pt nt slab)))
    ≡ (allowed_of head.size (length bt) (length rt) (length pt) (length nt) (length slab)
    && (leb 1 head.branches && (leb head.branches (length bt / branch_width) && (leb head.records (length rt / record_width) && (leb head.names 32 && leb head.floor head.now)))))
unfolding in_range allowed_of
in_range_by head bt rt pt nt slab =
    case (whole_rows (length bt) (length rt) (length nt))
    (λ w.
    case (sizes_allowed head.size (length bt / branch_width) (length rt / record_width) (length pt) (length nt / name_width) (length slab))
    (λ a. case (leb 1 head.branches) (λ l. rw (branch_count bt, record_count rt, name_count nt, w, a, l)) (λ l. rw (branch_count bt, record_count rt, name_count nt, w, a, l)))
    (λ a. rw (branch_count bt, record_count rt, name_count nt, w, a)))
    (λ w. rw w)
