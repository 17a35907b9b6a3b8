-- The order in which refusals are tested: each number under its condition only, once those before it do not apply.
use Prim.Native.Nat.{ℕ, ◌≤◌, ◌<◌}
use mathlib.Core.Path.{◌≡◌}
use mathlib.Core.List.{List}
use mathlib.Core.Option.{none}
use mathlib.Core.Logic.{◌⊎◌, inl, inr, ⊎_elim}
use mathlib.Core.Bool.{true, false, ◌&&◌}
use native.Mathlib.Omega.{arith}
use borrow.Author.Tests.{lt-ltb, le-ltb, le-leb, lt-leb}
use lib.ListN.{length}
use Rattle.model.specs.declared.Name.{Name}
use Rattle.model.specs.Store.{Store, names, moments, is_called, called, any, open_end, ◌∈◌}
use Rattle.model.specs.Lookup.{readable}
use Rattle.model.specs.Soundness.{in_range, rows_sound, records_sound, table_check}
use Rattle.model.specs.Wire.{refused}
use Rattle.model.specs.Step.{standing, first_free, do_write, do_mark, do_revert, do_read, do_reclaim, do_give, do_withdraw}
use Rattle.model.proofs.Base.{case, →and, readable_named, not_readable}

-- the table checks: 1, 2, 3
module _ (s : Store) where
  pub check_1 : in_range s ≡ false → table_check s ≡ 1
  unfolding table_check
  check_1 a = rw a

  pub check_2 : in_range s ≡ true → rows_sound s ≡ false → table_check s ≡ 2
  unfolding table_check
  check_2 a b = rw (a, b)

  pub check_3 : in_range s ≡ true → rows_sound s ≡ true → records_sound s ≡ false → table_check s ≡ 3
  unfolding table_check
  check_3 a b c = rw (a, b, c)

  -- how they end: by 1 or 2, by 3, or with none
  pub check_cases : {C : Type 0} → ((in_range s && rows_sound s) ≡ false → (table_check s ≡ 1) ⊎ (table_check s ≡ 2) → C)
      → ((in_range s && rows_sound s) ≡ true → records_sound s ≡ false → table_check s ≡ 3 → C)
      → ((in_range s && rows_sound s) ≡ true → records_sound s ≡ true → table_check s ≡ 0 → C) → C
  unfolding table_check
  check_cases f g h =
      case (in_range s)
      (λ a.
      case (rows_sound s)
      (λ b. case (records_sound s) (λ c. h (→and a b) c (rw (a, b, c))) (λ c. g (→and a b) c (rw (a, b, c))))
      (λ b. f (rw (a, b)) (inr (rw (a, b)))))
      (λ a. f (rw a) (inl (rw a)))

  pub check_most : table_check s ≤ 3
  check_most =
      check_cases (λ _ o. ⊎_elim (λ e. omega (arith, e)) (λ e. omega (arith, e)) o) (λ _ _ e. omega (arith, e)) (λ _ _ e. omega (arith, e))

-- 8 is met below the floor, at a moment that is not named; a named one is readable
pub below_8 : (s : Store) (m : ℕ) → m < s.head.floor → (m ∈ moments (names s) → ⊥) → readable s m ≡ false
below_8 s m h f = not_readable s.head.floor (moments (names s)) m h f

pub named_no_8 : (s : Store) (m : ℕ) → m ∈ moments (names s) → readable s m ≡ true
named_no_8 s m h = readable_named s.head.floor (moments (names s)) m h

-- write: 4, 5, 6
module _ (s : Store) (a : ℕ) (page : List ℕ) where
  pub write_4 : s.head.size ≤ a → (do_write s a page).answer ≡ refused 4
  unfolding do_write
  write_4 h = rw (le-ltb a s.head.size h)

  pub write_5 : a < s.head.size → standing s a ≡ none → length s.record_rows ≤ s.head.records → (do_write s a page).answer ≡ refused 5
  unfolding do_write
  write_5 h e l = rw (lt-ltb a s.head.size h, e, le-ltb s.head.records (length s.record_rows) l)

  pub write_6 : a < s.head.size → standing s a ≡ none → s.head.records < length s.record_rows → first_free s.place_rows ≡ none
      → (do_write s a page).answer ≡ refused 6
  unfolding do_write
  write_6 h e l f = rw (lt-ltb a s.head.size h, e, lt-ltb s.head.records (length s.record_rows) l, f)

-- mark: 10
pub mark_10 : (s : Store) → open_end ≤ s.head.now → (do_mark s).answer ≡ refused 10
unfolding do_mark
mark_10 s h = rw (le-ltb s.head.now open_end h)

-- revert: 8, 9, 10, 7
module _ (s : Store) (m w : ℕ) where
  pub revert_8 : readable s m ≡ false → (do_revert s m w).answer ≡ refused 8
  unfolding do_revert
  revert_8 e = rw e

  pub revert_9 : readable s m ≡ true → s.head.now ≤ m → (do_revert s m w).answer ≡ refused 9
  unfolding do_revert
  revert_9 e h = rw (e, le-leb s.head.now m h)

  pub revert_10 : readable s m ≡ true → m < s.head.now → open_end ≤ s.head.now → (do_revert s m w).answer ≡ refused 10
  unfolding do_revert
  revert_10 e h t = rw (e, lt-leb s.head.now m h, le-leb open_end s.head.now t)

  pub revert_7 : readable s m ≡ true → m < s.head.now → s.head.now < open_end → length s.branch_rows ≤ s.head.branches → (do_revert s m w).answer ≡ refused 7
  unfolding do_revert
  revert_7 e h t f = rw (e, lt-leb s.head.now m h, lt-leb open_end s.head.now t, le-leb (length s.branch_rows) s.head.branches f)

-- read: 4, 8, 9
module _ (s : Store) (a m : ℕ) where
  pub read_4 : s.head.size ≤ a → (do_read s a m).answer ≡ refused 4
  unfolding do_read
  read_4 h = rw (le-ltb a s.head.size h)

  pub read_8 : a < s.head.size → readable s m ≡ false → (do_read s a m).answer ≡ refused 8
  unfolding do_read
  read_8 h e = rw (lt-ltb a s.head.size h, e)

  pub read_9 : a < s.head.size → readable s m ≡ true → s.head.now < m → (do_read s a m).answer ≡ refused 9
  unfolding do_read
  read_9 h e l = rw (lt-ltb a s.head.size h, e, lt-ltb s.head.now m l)

-- naming: 8, 9, 15, 16
module _ (s : Store) (n : Name) where
  pub give_8 : readable s n.moment ≡ false → (do_give s n).answer ≡ refused 8
  unfolding do_give
  give_8 e = rw e

  pub give_9 : readable s n.moment ≡ true → s.head.now ≤ n.moment → (do_give s n).answer ≡ refused 9
  unfolding do_give
  give_9 e h = rw (e, le-leb s.head.now n.moment h)

  pub give_15 : readable s n.moment ≡ true → n.moment < s.head.now → any (is_called n.high n.low) (names s) ≡ true → (do_give s n).answer ≡ refused 15
  unfolding do_give
  give_15 e h c = rw (e, lt-leb s.head.now n.moment h, c)

  pub give_16 : readable s n.moment ≡ true → n.moment < s.head.now → any (is_called n.high n.low) (names s) ≡ false → 32 ≤ s.head.names
      → (do_give s n).answer ≡ refused 16
  unfolding do_give
  give_16 e h c l = rw (e, lt-leb s.head.now n.moment h, c, le-leb 32 s.head.names l)

-- withdrawing: 17
pub withdraw_17 : (s : Store) (high low : ℕ) → called high low (names s) ≡ none → (do_withdraw s high low).answer ≡ refused 17
unfolding do_withdraw
withdraw_17 s high low e = rw e

-- reclaim: 8, 9, also at a named moment
module _ (s : Store) (m : ℕ) where
  pub reclaim_8 : m < s.head.floor → (do_reclaim s m).answer ≡ refused 8
  unfolding do_reclaim
  reclaim_8 h = rw (lt-ltb m s.head.floor h)

  pub reclaim_9 : s.head.floor ≤ m → s.head.now < m → (do_reclaim s m).answer ≡ refused 9
  unfolding do_reclaim
  reclaim_9 h l = rw (le-ltb m s.head.floor h, lt-ltb s.head.now m l)
