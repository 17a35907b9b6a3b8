-- Areas that hold a store: its numbers of 32 bits, written as bytes and read again.
use Prim.Native.Nat.{ℕ, ◌%◌}
use mathlib.Core.Path.{◌≡◌, refl, sym, ◌∙◌}
use mathlib.Core.List.{List, [], ◌∷◌}
use mathlib.Core.Logic.{inl, inr}
use mathlib.Core.Bool.{true}
use native.Mathlib.Omega.{arith}
use lib.ListN.{length}
use Rattle.model.specs.declared.Head.{Head}
use Rattle.model.specs.declared.Branch.{Branch}
use Rattle.model.specs.declared.Record.{Record}
use Rattle.model.specs.declared.Name.{Name}
use Rattle.model.specs.Store.{Store}
use Rattle.model.proofs.Kept.{Small, SmallHead, SmallBranch, SmallRecord, SmallName, All, all_append, all_get, Narrow, Kept}
use Rattle.rows.specs.Rows.{flat, branch_fields, record_fields, name_fields}
use Rattle.rows.specs.View.{Tables, tables, laid}
use Rattle.rows.proofs.Laws.{branch_kind, record_kind, name_kind, branch_count, record_count, name_count}
use Rattle.rows.proofs.Relaid.{relaid_whole, relaid_length}
use Rattle.rows.proofs.View.{laid_on}
use Rattle.soundness.proofs.Sizes.{WholeRows}
use Rattle.tables.specs.Numbers.{numbers_of, bytes_of, Written, head_numbers}
use Rattle.tables.specs.Tables.{numbers_in, bytes_in, lengths_fit, Saved}
use Rattle.tables.proofs.Spelling.{length_flat}
use Rattle.tables.proofs.RoundTrip.{numbers_bytes}
use Rattle.areas.specs.Lent.{Lent, fits, store_in, with_store}
use Rattle.areas.proofs.Areas.{length_numbers, lengths_of, fit_whole, same_numbers, stored_again}

-- numbers of 32 bits, one behind the other
small_none : All Small []
small_none = record { each = λ x m. absurd m }

small_cons : {n : ℕ} {ns : List ℕ} → Small n → All Small ns → All Small (n ∷ ns)
small_cons {n} {ns} s f = record { each = λ x m. elim m [ inl e ↦ rw e s | inr k ↦ f.each x k ] }

small_flat : {A : Type 0} {P : A → Type 0} (f : A → List ℕ) → ((x : A) → P x → All Small (f x)) → (xs : List A) → All P xs → All Small (flat f xs)
unfolding flat
small_flat f g [] h = small_none
small_flat f g (x ∷ xs) h = all_append (g x (h.each x (inl refl))) (small_flat f g xs (record { each = λ y m. h.each y (inr m) }))

branch_small : (b : Branch) → SmallBranch b → All Small (branch_fields b)
branch_small b s = small_cons s.start (small_cons s.end (small_cons s.cut (small_cons s.order small_none)))

record_small : (r : Record) → SmallRecord r → All Small (record_fields r)
record_small r s = small_cons s.address (small_cons s.moment (small_cons s.place small_none))

name_small : (n : Name) → SmallName n → All Small (name_fields n)
name_small n s = small_cons s.high (small_cons s.low (small_cons s.moment small_none))

head_small : (h : Head) → SmallHead h → All Small (head_numbers h)
head_small h s =
    small_cons s.size (small_cons s.branches (small_cons s.records (small_cons s.now (small_cons s.floor (small_cons s.names small_none)))))

-- they are read again as they were written
written : (ns : List ℕ) → All Small ns → Written ns (bytes_of ns)
written ns f = record { bytes = refl; again = numbers_bytes ns (λ k. all_get ns k 0 (omega arith) f) }

-- the areas l hold the store s, and nothing else
pub record Holds (l : Lent) (s : Store) : Type 0 where
  pub fit : fits l ≡ true
  pub store : store_in l ≡ s
  pub areas : with_store l s ≡ l

-- a store put into areas that fit, with tables as long as those that the areas hold
module _ (l : Lent) (fit : fits l ≡ true) (s : Store) (k : Kept (store_in l) s) (n : Narrow s) where
  abbrev T : Tables
  T = numbers_in l.tables

  whole : WholeRows T
  whole = fit_whole l fit

  branches_flat : (laid s T).branches ≡ flat branch_fields s.branch_rows
  branches_flat = relaid_whole branch_kind T.branches whole.branches s.branch_rows

  records_flat : (laid s T).records ≡ flat record_fields s.record_rows
  records_flat = relaid_whole record_kind T.records whole.records s.record_rows

  names_flat : (laid s T).names ≡ flat name_fields s.name_rows
  names_flat = relaid_whole name_kind T.names whole.names s.name_rows

  saved : Saved (laid s T) (bytes_in (laid s T))
  saved =
      record {
        branches = written (laid s T).branches (rw branches_flat (small_flat branch_fields branch_small s.branch_rows n.branches));
        records = written (laid s T).records (rw records_flat (small_flat record_fields record_small s.record_rows n.records));
        places = written s.place_rows n.places;
        names = written (laid s T).names (rw names_flat (small_flat name_fields name_small s.name_rows n.names));
      }

  head_written : Written (head_numbers s.head) (with_store l s).head
  head_written = written (head_numbers s.head) (head_small s.head n.head)

  -- the areas are as long as before
  long : (ns bs : List ℕ) → length ns ≡ length (numbers_of bs) → length bs % 4 ≡ 0 → length (bytes_of ns) ≡ length bs
  long ns bs e m = length_flat 4 (omega arith) ns ∙ omega (arith, length_numbers bs)

  branches_long : length (with_store l s).tables.branches ≡ length l.tables.branches
  branches_long =
      long (laid s T).branches l.tables.branches (relaid_length branch_kind T.branches s.branch_rows (k.branches ∙ branch_count T.branches))
      (omega (arith, (lengths_of l fit).branches))

  records_long : length (with_store l s).tables.records ≡ length l.tables.records
  records_long =
      long (laid s T).records l.tables.records (relaid_length record_kind T.records s.record_rows (k.records ∙ record_count T.records))
      (omega (arith, (lengths_of l fit).records))

  places_long : length (with_store l s).tables.places ≡ length l.tables.places
  places_long = long s.place_rows l.tables.places k.places (lengths_of l fit).places

  names_long : length (with_store l s).tables.names ≡ length l.tables.names
  names_long =
      long (laid s T).names l.tables.names (relaid_length name_kind T.names s.name_rows (k.names ∙ name_count T.names))
      (omega (arith, (lengths_of l fit).names))

  head_long : length (with_store l s).head ≡ length l.head
  head_long = length_flat 4 (omega arith) (head_numbers s.head) ∙ sym (lengths_of l fit).head

  pub stored_holds : Holds (with_store l s) s
  stored_holds =
      let e : numbers_in (with_store l s).tables ≡ laid s T =
      λ j. tables (saved.branches.again j) (saved.records.again j) (saved.places.again j) (saved.names.again j) s.slab in
      let same : laid s (numbers_in (with_store l s).tables) ≡ laid s T =
      laid_on s e (same_numbers l.tables (with_store l s).tables branches_long records_long names_long) s in
      record {
        fit = (λ j. lengths_fit (head_long j) (branches_long j) (records_long j) (places_long j) (names_long j)) ∙ fit;
        store = stored_again l s head_written saved refl branches_long records_long names_long;
        areas = λ j. record { head = (with_store l s).head; tables = bytes_in (same j) };
      }
