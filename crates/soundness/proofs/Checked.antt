-- The table checks together, and what a caller learns of them.
use mathlib.Core.Path.{◌≡◌, refl, sym, ◌∙◌}
use mathlib.Core.Bool.{Bool, true, false, ◌&&◌}
use Prim.Native.Nat.{ℕ, ◌≤◌}
use native.Mathlib.Omega.{arith}
use lib.ListN.{length, take}
use Rattle.model.specs.declared.Head.{Head}
use Rattle.model.specs.Store.{Store, newest, names, branches, open_end}
use Rattle.model.specs.Soundness.{sizes_allowed, in_range, branches_sound, names_sound, rows_sound, table_check, rows_read}
use Rattle.model.proofs.Base.{case, and→}
use Rattle.model.proofs.Invariant.{sound_check}
use Rattle.model.specs.ByNumber.{Sound, newest_of}
use Rattle.model.proofs.Checked.{check_sound}
use Rattle.rows.specs.Rows.{branch_rows_of, record_rows_of, name_rows_of, BranchesIn, RecordsIn, NamesIn}
use Rattle.rows.specs.View.{Tables, with_branches, with_records, with_places, store_of}
use Rattle.rows.proofs.Laws.{branch_count, record_count, name_count}
use Rattle.soundness.specs.Check.{whole_tables, allowed_of, allowed_in, check_of, read_of, finding_of}
use Rattle.record_check.specs.declared.Finding.{Finding}
use Rattle.record_check.specs.Found.{records_found}
use Rattle.soundness.proofs.Sizes.{WholeRows, whole→, →whole, Ranges, ranges→}

module _ (head : Head) (t : Tables) where
  abbrev S : Store
  S = store_of head t

  -- what is lent and passes the checks is whole rows and sound; now is a number of 32 bits
  pub passed : check_of head t ≡ 0 → (whole_tables t ≡ true) × (table_check S ≡ 0)
  unfolding check_of
  passed e =
      case (whole_tables t)
      (λ w. (w, rw w at e))
      (λ w. let z : 1 ≡ 0 = rw w at e in absurd (omega arith))

  pub checked_whole : check_of head t ≡ 0 → WholeRows t
  checked_whole e = whole→ t (passed e).0

  pub checked_sound : head.now ≤ open_end → check_of head t ≡ 0 → Sound S
  checked_sound n e = check_sound S n (passed e).1

  -- and what is whole rows and sound passes
  pub sound_checked : WholeRows t → Sound S → check_of head t ≡ 0
  unfolding check_of
  sound_checked w h = rw (→whole t w) (sound_check S h)

-- the checks in their order: each has its test, and what the test is
module _ (head : Head) (t : Tables) {ranges : Bool} (r : ranges ≡ (whole_tables t && in_range (store_of head t))) where
  pub check_one : ranges ≡ false → record { refusal = 1; rows = 0 } ≡ finding_of head t
  unfolding check_of read_of table_check rows_read
  check_one e =
      case (whole_tables t)
      (λ w. let z : in_range (store_of head t) ≡ false = rw w at (sym r ∙ e) in rw (w, z))
      (λ w. rw w)

  -- what the first test leaves is counted rows that are there
  pub rows_in : head.now ≤ open_end → ranges ≡ true → (1 ≤ head.branches) × BranchesIn head.branches t.branches × RecordsIn head.records t.records × NamesIn head.names t.names
  rows_in high ok =
      let z : Ranges head t = ranges→ head t high (sym r ∙ ok) in
      (z.counted_low, omega (arith, z), omega (arith, z), omega (arith, z.names_counted, z.lengths.names, z.lengths.allowed.name_rows))

  module _ (ok : ranges ≡ true) {chain : Bool} (b : (u : Tables) → chain ≡ branches_sound (store_of head (with_branches t.branches u))) where
    both : (whole_tables t ≡ true) × (in_range (store_of head t) ≡ true)
    both = and→ _ _ (sym r ∙ ok)

    pub check_two : chain ≡ false → record { refusal = 2; rows = 0 } ≡ finding_of head t
    unfolding check_of read_of table_check rows_read rows_sound
    check_two e = rw (both.0, both.1, sym (b t) ∙ e)

    module _ (on : chain ≡ true) {named : Bool} (n : named ≡ names_sound head.now (newest_of (branch_rows_of t.branches) head.branches) (take head.names (name_rows_of t.names))) where
      pub check_names : named ≡ false → record { refusal = 2; rows = 0 } ≡ finding_of head t
      unfolding check_of read_of table_check rows_read rows_sound newest names branches
      check_names e = rw (both.0, both.1, sym (b t) ∙ on, sym n ∙ e)

      pub check_three : named ≡ true → {f : Finding}
          → ((u : Tables) → f ≡ records_found (store_of head (with_places t.places (with_records t.records (with_branches t.branches u))))) → f ≡ finding_of head t
      unfolding check_of read_of table_check rows_read rows_sound newest names branches
      check_three e {f} g = g t ∙ rw (both.0, both.1, sym (b t) ∙ on, sym n ∙ e)

-- the sizes that are allowed, of the rows that are lent
module _ (size : ℕ) (t : Tables) where
  pub allowed_rows : allowed_in size t ≡ (whole_tables t && sizes_allowed size (length (branch_rows_of t.branches)) (length (record_rows_of t.records)) (length t.places) (length (name_rows_of t.names)) (length t.slab))
  unfolding allowed_of
  allowed_rows = rw (branch_count t.branches, record_count t.records, name_count t.names) refl

  pub allowed_whole : allowed_in size t ≡ true → WholeRows t
  allowed_whole e = whole→ t (and→ _ _ (sym allowed_rows ∙ e)).0

  pub allowed_sizes : allowed_in size t ≡ true → sizes_allowed size (length (branch_rows_of t.branches)) (length (record_rows_of t.records)) (length t.places) (length (name_rows_of t.names)) (length t.slab) ≡ true
  allowed_sizes e = (and→ (whole_tables t) _ (sym allowed_rows ∙ e)).1
