-- Check 3 row by row.
use mathlib.Core.Path.{◌≡◌, refl, sym, ◌∙◌}
use mathlib.Core.List.{List}
use mathlib.Core.Bool.{Bool, true, false, false≢true}
use Prim.Native.Nat.{ℕ, suc, ◌+◌, ◌-◌, ◌≤◌, ◌<◌}
use native.Mathlib.Omega.{arith}
use native.Mathlib.Numerals.{add-one}
use lib.ListN.{length, get_or}
use lib.Seq.{get_or-take}
use borrow.Author.Tests.{eqb-true}
use borrow.Author.Count.{below_more}
use Rattle.model.specs.declared.Head.{Head}
use Rattle.model.specs.declared.Record.{Record}
use Rattle.model.specs.Store.{Store, newest, branches, records, zero_record}
use Rattle.model.specs.Soundness.{precedes, ascending, placed, used, records_sound}
use Rattle.model.specs.RowsRead.{Keeps}
use Rattle.model.specs.ByNumber.{entry, held, ByItself}
use Rattle.model.proofs.Base.{and→, no_test, absurd_test}
use Rattle.model.proofs.Checked.{itself→}
use Rattle.model.proofs.Invariant.{→itself}
use Rattle.model.proofs.RowsRead.{AllKeep, records_length, sound_keeps, keeps_sound, read_all, read_broken}
use Rattle.rows.specs.Rows.{branch_rows_of, record_rows_of, RecordsIn}
use Rattle.rows.specs.View.{Tables, with_branches, with_records, with_places, store_of}
use Rattle.rows.proofs.Laws.{record_count}
use Rattle.record_check.specs.Found.{records_found, Tells}

-- a test that is answered with false, where P cannot be
tells_no : {P : Type 0} → (P → ⊥) → Tells false P
tells_no h = record { yes = λ e. absurd (false≢true e); no = λ p. absurd (h p) }

module _ (head : Head) (bt rt pt : List ℕ) where
  -- the store, whatever else is lent
  abbrev pub lent : Tables → Store
  lent t = store_of head (with_places pt (with_records rt (with_branches bt t)))

  -- the test b tells whether the counted row i keeps the rules
  abbrev pub RowTold : Bool → ℕ → Type 0
  RowTold b i = (t : Tables) → Tells b (Keeps (lent t) i)

  -- the first i rows keep them
  abbrev pub RowsKept : ℕ → Type 0
  RowsKept i = (t : Tables) (j : ℕ) → j < i → Keeps (lent t) j

  counted_row : (t : Tables) (i : ℕ) → i < head.records → entry (records (lent t)) i ≡ entry (record_rows_of rt) i
  unfolding records
  counted_row t i l = get_or-take head.records (record_rows_of rt) i zero_record l

  -- the row i against the one before it, and by itself as it was read
  module _ (i : ℕ) (l : i < head.records) where
    pub row_late : 0 < i → precedes (entry (record_rows_of rt) (i - 1)) (entry (record_rows_of rt) i) ≡ false → RowTold false i
    row_late pos e t =
        tells_no (λ k. absurd_test (rw (counted_row t i l, counted_row t (i - 1) (omega arith)) at (k.after pos)) e)

    module _ {x : Record} (d : x ≡ entry (record_rows_of rt) i) where
      alone : (t : Tables) → Keeps (lent t) i → ByItself (lent t) (suc i) x
      alone t k = rw d (itself→ (lent t) (suc i) (entry (record_rows_of rt) i) (rw (counted_row t i l) at k.alone))

      pub row_broken : ((t : Tables) → ByItself (lent t) (suc i) x → ⊥) → RowTold false i
      row_broken h t = tells_no (λ k. h t (alone t k))

      pub row_held : {b : Bool} → b ≡ held (branch_rows_of bt) head.branches x.moment → x.address < head.size → x.moment ≤ head.now → x.place < length pt → get_or pt x.place 0 ≡ suc i
          → (0 < i → precedes (entry (record_rows_of rt) (i - 1)) (entry (record_rows_of rt) i) ≡ true) → RowTold b i
      unfolding held newest branches
      row_held {b} h a m p n f t =
          record {
            yes = λ e. record {
              alone = rw (counted_row t i l, ← d) (→itself (lent t) (suc i) x (record { fits = record { address = a; moment = m; held = sym h ∙ e }; inside = p; named = n }));
              after = λ pos. rw (counted_row t i l, counted_row t (i - 1) (omega arith)) (f pos);
            };
            no = λ k. h ∙ (alone t k).fits.held;
          }

  pub none_kept : RowsKept 0
  none_kept t j l = absurd (omega arith)

  -- one row more
  pub next_kept : (i : ℕ) → RowsKept i → RowTold true i → RowsKept (i + 1)
  next_kept i h k t = below_more (Keeps (lent t)) i (h t) ((k t).yes refl)

  -- what check 3 finds, by the rows that keep the rules
  module _ (room : RecordsIn head.records rt) where
    all_counted : (t : Tables) → length (records (lent t)) ≡ head.records
    all_counted t = records_length (lent t) (omega (arith, record_count rt))

    pub found_broken : (i : ℕ) → i < head.records → RowsKept i → {b : Bool} → RowTold b i → b ≡ false → (t : Tables) → record { refusal = 3; rows = i + 1 } ≡ records_found (lent t)
    found_broken i l before {b} h e t =
        let broken : Keeps (lent t) i → ⊥ = λ k. absurd_test ((h t).no k) e in
        let no : false ≡ records_sound (lent t) = no_test (λ z. broken (sound_keeps (lent t) z i (omega (arith, all_counted t)))) in
        rw (add-one i, ← no, read_broken (lent t) i (omega (arith, all_counted t)) (before t) broken)

    module _ (keep : RowsKept head.records) where
      all_keep : (t : Tables) → AllKeep (lent t)
      all_keep t j l = keep t j (omega (arith, all_counted t))

      pub found_count : (used pt ≡ head.records → ⊥) → (t : Tables) → record { refusal = 3; rows = head.records } ≡ records_found (lent t)
      unfolding records_sound
      found_count h t =
          let e : false ≡ records_sound (lent t) = no_test (λ z. h (eqb-true _ _ (and→ (placed (lent t) 1 (records (lent t))) _ (and→ (ascending (records (lent t))) _ z).1).1)) in
          rw (← e, read_all (lent t) (all_keep t), all_counted t)

      pub found_none : used pt ≡ head.records → (t : Tables) → record { refusal = 0; rows = head.records } ≡ records_found (lent t)
      found_none h t = rw (keeps_sound (lent t) (all_keep t) h, read_all (lent t) (all_keep t), all_counted t)
