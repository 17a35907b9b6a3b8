-- What is lent and cleared, with the first branch set, is the fresh store.
use mathlib.Core.Path.{◌≡◌, refl, sym, ◌∙◌}
use mathlib.Core.List.{List}
use mathlib.Core.Bool.{true, false}
use Prim.Native.Nat.{ℕ, ◌%◌}
use native.Mathlib.Omega.{arith}
use lib.ListN.{length, set, replicate}
use Rattle.model.specs.declared.Head.{Head}
use Rattle.model.specs.Store.{open_end, zero_branch, zero_record, zero_name}
use Rattle.model.specs.Fresh.{fresh_check, fresh, made_fresh}
use Rattle.model.proofs.Base.{case}
use Rattle.rows.specs.Rows.{zeros, rows_by, relaid, branch_rows_of, record_rows_of, name_rows_of, BranchSet}
use Rattle.rows.specs.View.{Tables, tables, store_of}
use Rattle.rows.proofs.Laws.{Kind, branch_kind, record_kind, name_kind, branch_count, record_count, relaid_own, length_zeros, zero_rows_lem}
use Rattle.rows.proofs.Relaid.{relaid_whole, set_length, set_rows}
use Rattle.rows.proofs.View.{SameLengths, laid_self, laid_store}
use Rattle.soundness.specs.Check.{allowed_in}
use Rattle.soundness.proofs.Sizes.{WholeRows, lengths→}
use Rattle.soundness.proofs.Checked.{allowed_whole, allowed_sizes}
use Rattle.fresh.specs.declared.Made.{Made}
use Rattle.fresh.specs.Fresh.{refusal_of, fresh_of, Fresh}

-- the head of a fresh store
abbrev pub first : ℕ → Head
first size = record { size = size; branches = 1; records = 0; now = 0; floor = 0; names = 0 }

zeros_are : (n : ℕ) → zeros n ≡ replicate n 0
unfolding zeros
zeros_are n = refl

-- a table of whole rows that has these rows, and any other that is as long with them laid over it
whole_table : {A : Type 0} (K : Kind A) (t u : List ℕ) → length u ≡ length t → length t % K.width ≡ 0 → (xs : List A) → rows_by K.width K.make u ≡ xs
    → u ≡ relaid K.width K.fields xs t
whole_table K t u l e xs h =
    let d : length u % K.width ≡ 0 = rw l e in
    sym (relaid_own K u) ∙ (rw h (relaid_whole K u d xs) ∙ sym (relaid_whole K t e xs))

module _ (head : Head) (size : ℕ) (t : Tables) (ok : allowed_in size t ≡ true) where
  -- what is lent becomes the model's fresh store over as many rows
  pub fresh_is : fresh_of head t size ≡ fresh size (length (branch_rows_of t.branches)) (length (record_rows_of t.records)) (length t.places) t.slab
  unfolding fresh_of made_fresh
  fresh_is = rw (ok, allowed_sizes size t ok)

  -- the model does not refuse it either
  pub model_accepts : fresh_check (store_of head t) size ≡ 0
  unfolding fresh_check
  model_accepts = rw (allowed_sizes size t ok)

module _ {head : Head} {size : ℕ} {t : Tables} where
  -- a refusal: nothing changes
  pub refused : allowed_in size t ≡ false → Fresh head size t (record { head = head; refusal = 1 }) t
  unfolding refusal_of fresh_of
  refused e = record { refusal = rw e; head = rw e; tables = rw e (laid_self head t) }

  -- tables that are cleared, with the first branch set
  made : {bt' : List ℕ} → allowed_in size t ≡ true → BranchSet (zeros (length t.branches)) 0 (record { start = 0; end = open_end; cut = 0; order = 0 }) bt'
      → Fresh head size t (record { head = first size; refusal = 0 }) (tables bt' (zeros (length t.records)) (zeros (length t.places)) (zeros (length t.names)) t.slab)
  unfolding refusal_of fresh
  made {bt'} ok eb =
      let w : WholeRows t = allowed_whole size t ok in
      let lb : length bt' ≡ length t.branches = set_length branch_kind eb ∙ length_zeros (length t.branches) in
      let rb : branch_rows_of bt' ≡ set (replicate (length (branch_rows_of t.branches)) zero_branch) 0 (record { start = 0; end = open_end; cut = 0; order = 0 }) =
      set_rows branch_kind eb ∙ rw (zero_rows_lem branch_kind zero_branch refl (length t.branches), branch_count t.branches) in
      let rr : record_rows_of (zeros (length t.records)) ≡ replicate (length (record_rows_of t.records)) zero_record =
      rw (zero_rows_lem record_kind zero_record refl (length t.records), record_count t.records) in
      let rn : name_rows_of (zeros (length t.names)) ≡ replicate 32 zero_name =
      rw (zero_rows_lem name_kind zero_name refl (length t.names), (lengths→ ok).allowed.name_rows) in
      let tb = whole_table branch_kind t.branches bt' lb w.branches _ rb in
      let tr = whole_table record_kind t.records (zeros (length t.records)) (length_zeros (length t.records)) w.records _ rr in
      let tn = whole_table name_kind t.names (zeros (length t.names)) (length_zeros (length t.names)) w.names _ rn in
      record {
        refusal = rw ok;
        head = rw (fresh_is head size t ok);
        tables = rw (fresh_is head size t ok) (λ i. record { branches = tb i; records = tr i; places = zeros_are (length t.places) i; names = tn i; slab = t.slab });
      }

  -- the same of tables that are known by equations
  pub made_by : {z bt' rt' pt' nt' : List ℕ} → allowed_in size t ≡ true → z ≡ zeros (length t.branches) → BranchSet z 0 (record { start = 0; end = open_end; cut = 0; order = 0 }) bt'
      → rt' ≡ zeros (length t.records) → pt' ≡ zeros (length t.places) → nt' ≡ zeros (length t.names)
      → Fresh head size t (record { head = first size; refusal = 0 }) (tables bt' rt' pt' nt' t.slab)
  made_by ok ez eb er ep en = rw (er, ep, en) (made ok (rw ez at eb))

-- what a caller learns: where it is not refused, the tables are the fresh store
module _ {head : Head} {size : ℕ} {t : Tables} {r : Made} {t' : Tables} (f : Fresh head size t r t') where
  pub accepted : r.refusal ≡ 0 → allowed_in size t ≡ true
  unfolding refusal_of
  accepted e =
      case (allowed_in size t)
      (λ a. a)
      (λ a. let z : r.refusal ≡ 1 = f.refusal ∙ rw a in absurd (omega arith))

  pub store_made : SameLengths t t' → store_of r.head t' ≡ fresh_of head t size
  store_made k = laid_store (fresh_of head t size) f.tables k f.head
