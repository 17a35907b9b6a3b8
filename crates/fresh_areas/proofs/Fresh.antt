-- Making a fresh store in areas of bytes.
use mathlib.Core.Path.{◌≡◌, sym, ap, ◌∙◌}
use mathlib.Core.List.{List}
use mathlib.Core.Bool.{true, false}
use Prim.Native.Nat.{ℕ}
use native.Mathlib.Omega.{arith}
use lib.ListN.{length}
use Rattle.model.specs.declared.Head.{Head}
use Rattle.model.specs.Store.{Store}
use Rattle.model.specs.Soundness.{sizes_allowed}
use Rattle.model.specs.Fresh.{fresh_check, fresh, made_fresh}
use Rattle.model.proofs.Base.{case, absurd_test}
use Rattle.rows.specs.Rows.{branch_rows_of, record_rows_of, name_rows_of}
use Rattle.rows.specs.View.{Tables, tables, laid}
use Rattle.rows.proofs.Laws.{branch_kind, record_kind, name_kind, branch_count, record_count}
use Rattle.rows.proofs.Relaid.{relaid_whole}
use Rattle.soundness.specs.Check.{allowed_of, allowed_in}
use Rattle.soundness.proofs.Sizes.{WholeRows}
use Rattle.soundness.proofs.Checked.{allowed_rows, allowed_whole}
use Rattle.fresh.specs.declared.Made.{Made}
use Rattle.fresh.specs.Fresh.{refusal_of, fresh_of, Fresh}
use Rattle.fresh.proofs.Fresh.{fresh_is, model_accepts}
use Rattle.tables.specs.Numbers.{numbers_of, Written, head_numbers, head_of}
use Rattle.tables.specs.Tables.{numbers_in, Room, Saved}
use Rattle.areas.specs.Lent.{Lent, fits, store_in, with_store}
use Rattle.fresh_areas.specs.Fresh.{fresh_left, fresh_bytes, FreshDone, FreshSaved}
use Rattle.areas.proofs.Areas.{length_numbers, fit_tables, stored_is, stored_again}

-- lengths that do not fit
pub fresh_unfit : (size : ℕ) (l : Lent) → fits l ≡ false → FreshDone size l (fresh_left 1 l)
unfolding fresh_bytes
fresh_unfit size l e = record { all = rw e; store = λ y. absurd_test y e }

module _ (size : ℕ) (l : Lent) (fit : fits l ≡ true) where
  abbrev first : Head
  first = head_of (numbers_of l.head)

  abbrev T : Tables
  T = numbers_in l.tables

  -- accepted
  made_is : allowed_in size T ≡ true → fresh_of first T size ≡ made_fresh (store_in l) size
  unfolding fresh_of
  made_is ok = rw ok

  made_bytes : allowed_in size T ≡ true → fresh_bytes size l ≡ fresh_left 0 (with_store l (made_fresh (store_in l) size))
  unfolding fresh_bytes
  made_bytes ok = let e : fresh_check (store_in l) size ≡ 0 = model_accepts first size T ok in rw (fit, e)

  slab_stays : allowed_in size T ≡ true → l.tables.slab ≡ (made_fresh (store_in l) size).slab
  unfolding fresh
  slab_stays ok = sym (ap (λ (s : Store). s.slab) (sym (made_is ok) ∙ fresh_is first size T ok))

  -- refused
  not_allowed : allowed_in size T ≡ false → sizes_allowed size (length (branch_rows_of T.branches)) (length (record_rows_of T.records)) (length T.places) (length (name_rows_of T.names)) (length T.slab) ≡ false
  not_allowed e = rw (fit_tables l fit) at (sym (allowed_rows size T) ∙ e)

  -- refused: 1, and the areas as they were
  refused_bytes : allowed_in size T ≡ false → FreshDone size l (fresh_left 1 l)
  unfolding fresh_bytes fresh_check made_fresh
  refused_bytes e = record { all = rw (fit, not_allowed e); store = λ _. rw (not_allowed e) }

  module _ {m : Made} {b' : Tables} (f : FreshSaved size l.tables m b') where
    pub fresh_refused : (m.refusal ≡ 0 → ⊥) → FreshDone size l (fresh_left m.refusal (record { head = l.head; tables = b' }))
    unfolding refusal_of
    fresh_refused ne =
        case (allowed_in size T)
        (λ ok. let z : m.refusal ≡ 0 = f.refusal ∙ rw ok in absurd (ne z))
        (λ no. let o : m.refusal ≡ 1 = f.refusal ∙ rw no in rw (o, f.refused no) (refused_bytes no))

    -- made: 0, and the model's store in the areas
    pub fresh_made : {h' : List ℕ} → m.refusal ≡ 0 → b'.slab ≡ l.tables.slab → Written (head_numbers m.head) h'
        → length b'.branches ≡ length l.tables.branches → length b'.records ≡ length l.tables.records → length b'.names ≡ length l.tables.names
        → FreshDone size l (fresh_left 0 (record { head = h'; tables = b' }))
    unfolding refusal_of
    fresh_made {h'} z es e lb lr ln =
        case (allowed_in size T)
        (λ ok. made ok)
        (λ no. let o : m.refusal ≡ 1 = f.refusal ∙ rw no in absurd (omega arith))
      where
        made : allowed_in size T ≡ true → FreshDone size l (fresh_left 0 (record { head = h'; tables = b' }))
        made ok =
            let s : Store = made_fresh (store_in l) size in
            let w : Written (head_numbers s.head) h' = rw (f.head ok first, made_is ok) at e in
            let t : Saved (laid s T) b' = rw (made_is ok) at (f.tables ok first) in
            let ss : b'.slab ≡ s.slab = es ∙ slab_stays ok in
            record {
              all = ap (fresh_left 0) (stored_is l s w t ss) ∙ sym (made_bytes ok);
              store = λ _. stored_again l s w t ss lb lr ln;
            }

-- what is allowed, by the lengths alone
same_allowed : (size : ℕ) (t u : Tables) → length u.branches ≡ length t.branches → length u.records ≡ length t.records → length u.places ≡ length t.places
    → length u.names ≡ length t.names → u.slab ≡ t.slab → allowed_in size u ≡ allowed_in size t
same_allowed size t u eb er ep en es i = allowed_of size (eb i) (er i) (ep i) (en i) (length (es i))

-- a fresh store made in tables as long as those that bytes spell, and written there
module _ {h₀ : Head} {size : ℕ} {b t t' : Tables} {m : Made} (es : t.slab ≡ b.slab) (room : Room b t) (f : Fresh h₀ size t m t') where
  lb : length t.branches ≡ length (numbers_of b.branches)
  lb = omega (arith, room.branches, length_numbers b.branches)

  lr : length t.records ≡ length (numbers_of b.records)
  lr = omega (arith, room.records, length_numbers b.records)

  lp : length t.places ≡ length (numbers_of b.places)
  lp = omega (arith, room.places, length_numbers b.places)

  ln : length t.names ≡ length (numbers_of b.names)
  ln = omega (arith, room.names, length_numbers b.names)

  pub allowed_same : allowed_in size t ≡ allowed_in size (numbers_in b)
  allowed_same = same_allowed size (numbers_in b) t lb lr lp ln es

  refusal_same : m.refusal ≡ refusal_of size (numbers_in b)
  unfolding refusal_of
  refusal_same = f.refusal ∙ rw allowed_same

  module _ (ok : allowed_in size (numbers_in b) ≡ true) (h : Head) where
    ok' : allowed_in size t ≡ true
    ok' = allowed_same ∙ ok

    store_same : fresh_of h₀ t size ≡ fresh_of h (numbers_in b) size
    store_same =
        let nb : length (branch_rows_of t.branches) ≡ length (branch_rows_of (numbers_of b.branches)) = branch_count t.branches ∙ rw (lb, branch_count (numbers_of b.branches)) in
        let nr : length (record_rows_of t.records) ≡ length (record_rows_of (numbers_of b.records)) = record_count t.records ∙ rw (lr, record_count (numbers_of b.records)) in
        fresh_is h₀ size t ok' ∙ ((λ i. fresh size (nb i) (nr i) (lp i) (es i)) ∙ sym (fresh_is h size (numbers_in b) ok))

    head_same : m.head ≡ (fresh_of h (numbers_in b) size).head
    head_same = f.head ∙ ap (λ (s : Store). s.head) store_same

    tables_same : t' ≡ laid (fresh_of h (numbers_in b) size) (numbers_in b)
    tables_same =
        let s : Store = fresh_of h (numbers_in b) size in
        let w : WholeRows t = allowed_whole size t ok' in
        let v : WholeRows (numbers_in b) = allowed_whole size (numbers_in b) ok in
        let eb = relaid_whole branch_kind t.branches w.branches s.branch_rows ∙ sym (relaid_whole branch_kind (numbers_of b.branches) v.branches s.branch_rows) in
        let er = relaid_whole record_kind t.records w.records s.record_rows ∙ sym (relaid_whole record_kind (numbers_of b.records) v.records s.record_rows) in
        let en = relaid_whole name_kind t.names w.names s.name_rows ∙ sym (relaid_whole name_kind (numbers_of b.names) v.names s.name_rows) in
        f.tables ∙ (ap (λ (x : Store). laid x t) store_same ∙ (λ i. tables (eb i) (er i) s.place_rows (en i) s.slab))

  pub fresh_kept : {b' : Tables} → (m.refusal ≡ 0 → ⊥) → b' ≡ b → FreshSaved size b m b'
  unfolding refusal_of
  fresh_kept ne e =
      let no : allowed_in size (numbers_in b) ≡ true → ⊥ = λ ok. ne (refusal_same ∙ rw ok) in
      record { refusal = refusal_same; refused = λ _. e; head = λ ok h. absurd (no ok); tables = λ ok h. absurd (no ok) }

  pub fresh_saved : {b' : Tables} → m.refusal ≡ 0 → Saved t' b' → FreshSaved size b m b'
  unfolding refusal_of
  fresh_saved {b'} z s =
      let no : allowed_in size (numbers_in b) ≡ false → ⊥ = λ n. let o : m.refusal ≡ 1 = refusal_same ∙ rw n in omega arith in
      record { refusal = refusal_same; refused = λ n. absurd (no n); head = head_same; tables = λ ok h. rw (tables_same ok h) at s }
