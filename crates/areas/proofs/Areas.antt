-- Areas of bytes and the store that they hold.
use mathlib.Core.Path.{◌≡◌, sym, ap, ◌∙◌}
use mathlib.Core.List.{List}
use mathlib.Core.Bool.{true}
use Prim.Native.Nat.{ℕ, ◌*◌, ◌/◌, ◌≤◌}
use native.Mathlib.Omega.{arith}
use lib.ListN.{length, take}
use lib.Seq.{length-take-le}
use Rattle.model.specs.Store.{Store}
use Rattle.rows.specs.Rows.{zeros, branch_width, record_width, name_width}
use Rattle.rows.specs.View.{Tables, tables, number_tables, with_slab, laid}
use Rattle.rows.proofs.Laws.{length_zeros}
use Rattle.rows.proofs.View.{SameLengths, laid_store}
use Rattle.soundness.specs.Check.{whole_tables}
use Rattle.soundness.proofs.Sizes.{WholeRows, →whole}
use Rattle.tables.specs.Numbers.{numbers_of, Written, head_numbers, head_of}
use Rattle.tables.specs.Tables.{numbers_in, Room, Saved}
use Rattle.tables.proofs.Spelling.{length_spelled}
use Rattle.tables.proofs.Laws.{Lengths, lengths→}
use Rattle.areas.specs.Lent.{Lent, fits, store_in, with_store}

-- four bytes a number
pub length_numbers : (bs : List ℕ) → length (numbers_of bs) ≡ length bs / 4
length_numbers bs = length_spelled 4 (omega arith) bs

pub lengths_of : (l : Lent) → fits l ≡ true
    → Lengths (length l.head) (length l.tables.branches) (length l.tables.records) (length l.tables.places) (length l.tables.names)
lengths_of l fit = lengths→ fit

-- tables that fit are whole rows
pub fit_whole : (l : Lent) → fits l ≡ true → WholeRows (numbers_in l.tables)
fit_whole l fit =
    record {
      branches = omega (arith, length_numbers l.tables.branches, (lengths_of l fit).branches);
      records = omega (arith, length_numbers l.tables.records, (lengths_of l fit).records);
      names = omega (arith, length_numbers l.tables.names, (lengths_of l fit).names);
    }

pub fit_tables : (l : Lent) → fits l ≡ true → whole_tables (numbers_in l.tables) ≡ true
fit_tables l fit = →whole (numbers_in l.tables) (fit_whole l fit)

-- tables of bytes as long as others spell tables of numbers as long
pub same_numbers : (b b' : Tables) → length b'.branches ≡ length b.branches → length b'.records ≡ length b.records → length b'.names ≡ length b.names
    → SameLengths (numbers_in b) (numbers_in b')
same_numbers b b' lb lr ln =
    record {
      branches = length_numbers b'.branches ∙ (ap (λ (n : ℕ). n / 4) lb ∙ sym (length_numbers b.branches));
      records = length_numbers b'.records ∙ (ap (λ (n : ℕ). n / 4) lr ∙ sym (length_numbers b.records));
      names = length_numbers b'.names ∙ (ap (λ (n : ℕ). n / 4) ln ∙ sym (length_numbers b.names));
    }

-- head and tables that a store was written to, with its slab
module _ (l : Lent) (s : Store) {h' : List ℕ} {b' : Tables} (eh : Written (head_numbers s.head) h') (t : Saved (laid s (numbers_in l.tables)) b') (es : b'.slab ≡ s.slab) where
  pub stored_is : ◌≡◌ {A = Lent} (record { head = h'; tables = b' }) (with_store l s)
  stored_is =
      λ j.
      record {
        head = eh.bytes j;
        tables = tables (t.branches.bytes j) (t.records.bytes j) (t.places.bytes j) (t.names.bytes j) (es j);
      }

  -- they hold that store
  pub stored_again : length b'.branches ≡ length l.tables.branches → length b'.records ≡ length l.tables.records → length b'.names ≡ length l.tables.names
      → store_in (record { head = h'; tables = b' }) ≡ s
  stored_again lb lr ln =
      let e : numbers_in b' ≡ laid s (numbers_in l.tables) =
      λ j. tables (t.branches.again j) (t.records.again j) (t.places.again j) (t.names.again j) (es j) in
      laid_store s e (same_numbers l.tables b' lb lr ln) (ap head_of eh.again)

-- the local arrays have room for tables that fit
module _ {h b r p n : ℕ} (l : Lengths h b r p n) where
  pub branches_fit : (bt : List ℕ) → bt ≡ zeros (4096 * branch_width) → b / 4 ≤ length bt
  branches_fit bt e = omega (arith, l.branches_most, ap length e, length_zeros (4096 * branch_width))

  pub records_fit : (rt : List ℕ) → rt ≡ zeros (65536 * record_width) → r / 4 ≤ length rt
  records_fit rt e = omega (arith, l.records_most, ap length e, length_zeros (65536 * record_width))

  pub places_fit : (pt : List ℕ) → pt ≡ zeros 65536 → p / 4 ≤ length pt
  places_fit pt e = omega (arith, l.places_most, ap length e, length_zeros 65536)

-- their first numbers, as many as the bytes of the tables spell
pub room_of : {h : ℕ} (b r p n bt rt pt nt : List ℕ) → Lengths h (length b) (length r) (length p) (length n) → bt ≡ zeros (4096 * branch_width) → rt ≡ zeros (65536 * record_width) → pt ≡ zeros 65536
    → nt ≡ zeros (32 * name_width) → Room (number_tables b r p n) (number_tables (take (length b / 4) bt) (take (length r / 4) rt) (take (length p / 4) pt) nt)
room_of b r p n bt rt pt nt l eb er ep en =
    record {
      branches = omega (arith, length-take-le (length b / 4) bt (branches_fit l bt eb), l.branches);
      records = omega (arith, length-take-le (length r / 4) rt (records_fit l rt er), l.records);
      places = omega (arith, length-take-le (length p / 4) pt (places_fit l pt ep), l.places);
      names = omega (arith, ap length en, length_zeros (32 * name_width), l.names);
    }

-- room stays room while the lengths stay
pub room_kept : {b t u : Tables} → Room b t → length u.branches ≡ length t.branches → length u.records ≡ length t.records → length u.places ≡ length t.places
    → length u.names ≡ length t.names → Room b u
room_kept x eb er ep en =
    record { branches = omega (arith, x.branches); records = omega (arith, x.records); places = omega (arith, x.places); names = omega (arith, x.names) }

-- what was written does not depend on the slab
pub saved_slab : {t b : Tables} (st sb : List ℕ) → Saved t b → Saved (with_slab st t) (with_slab sb b)
saved_slab st sb s = record { branches = s.branches; records = s.records; places = s.places; names = s.names }

-- nor does room
pub room_slab : {b t : Tables} (sb st : List ℕ) → Room b t → Room (with_slab sb b) (with_slab st t)
room_slab sb st r = record { branches = r.branches; records = r.records; places = r.places; names = r.names }
