-- A batch on areas of bytes.
use mathlib.Core.Path.{◌≡◌, refl, sym, ap, ◌∙◌}
use mathlib.Core.List.{List}
use mathlib.Core.Bool.{true, false}
use Prim.Native.Nat.{ℕ, zero, suc}
use native.Mathlib.Omega.{arith}
use lib.ListN.{length}
use Rattle.model.specs.declared.Head.{Head}
use Rattle.model.specs.Batch.{Run, batch}
use Rattle.model.proofs.Base.{absurd_test}
use Rattle.live.specs.Live.{LiveDisk, live_check, played, LiveRun, live_batch}
use Rattle.live.proofs.LiveDemand.{batch_is, live_refused}
use Rattle.rows.specs.View.{Tables, store_of}
use Rattle.soundness.specs.Check.{read_of}
use Rattle.disk_check.specs.Check.{live_check_of, live_finding_of}
use Rattle.disk_check.proofs.Checked.{whole_check}
use Rattle.record_check.specs.declared.Finding.{Finding}
use Rattle.batch.specs.declared.Done.{Done}
use Rattle.batch.specs.declared.Batched.{Batched}
use Rattle.tables.specs.Numbers.{numbers_of, Written, head_numbers, head_of}
use Rattle.tables.specs.Tables.{numbers_in}
use Rattle.batch_tables.specs.declared.Tried.{Tried}
use Rattle.batch_tables.specs.declared.Tried.TheVariants.{Refused, Served}
use Rattle.batch_tables.specs.Tried.{RunSaved, TriedOn}
use Rattle.areas.specs.Lent.{Lent, fits, store_in, live_in, with_store}
use Rattle.batch_areas.specs.Batch.{batch_left, check_in, read_in, run_left, batch_bytes, BatchDone}
use Rattle.areas.proofs.Areas.{fit_tables, stored_is, stored_again}

-- by the refusal of the checks
module _ (l : Lent) (d : LiveDisk) (input area : List ℕ) where
  pub bytes_served : check_in l d ≡ 0 → batch_bytes l d input area ≡ run_left (live_batch (live_in l d) input (length area)) (read_in l) l area
  unfolding batch_bytes
  bytes_served e = rw e

  pub bytes_refused : (n : ℕ) → check_in l d ≡ n → (n ≡ 0 → ⊥) → batch_bytes l d input area ≡ batch_left n 0 0 0 (read_in l) l d area
  unfolding batch_bytes
  bytes_refused zero e ne = absurd (ne refl)
  bytes_refused (suc n) e ne = rw e

  -- lengths that do not fit
  pub batch_unfit : fits l ≡ false → BatchDone l d input area (batch_left 1 0 0 0 0 l d area)
  unfolding check_in read_in
  batch_unfit e =
      let none : read_in l ≡ 0 = rw e in
      record { all = sym (bytes_refused 1 (rw e) (λ z. absurd (omega arith)) ∙ rw none); store = λ y. absurd_test y e }

module _ (l : Lent) (d : LiveDisk) (fit : fits l ≡ true) where
  abbrev H : Head
  H = head_of (numbers_of l.head)

  -- the checks of areas that fit are those of the numbers that they spell
  live_check_lem : live_check (live_in l d) ≡ live_check_of H (numbers_in l.tables) d
  live_check_lem = sym (whole_check H (numbers_in l.tables) d (fit_tables l fit))

  same_check : check_in l d ≡ live_check_of H (numbers_in l.tables) d
  unfolding check_in
  same_check = rw fit live_check_lem

  same_read : read_in l ≡ read_of H (numbers_in l.tables)
  unfolding read_in read_of
  same_read = rw (fit, fit_tables l fit)

  module _ (input area : List ℕ) {h : Head} (eh : h ≡ H) where
    -- refused by the checks: nothing is written
    refused_done : {f : Finding} → f ≡ live_finding_of h (numbers_in l.tables) d → (f.refusal ≡ 0 → ⊥)
        → BatchDone l d input area (batch_left f.refusal 0 0 0 f.rows l d area)
    refused_done {f} e ne =
        let g : f ≡ live_finding_of H (numbers_in l.tables) d = e ∙ ap (λ (x : Head). live_finding_of x (numbers_in l.tables) d) eh in
        let c : live_check_of H (numbers_in l.tables) d ≡ f.refusal = sym (ap (λ (x : Finding). x.refusal) g) in
        let w : read_in l ≡ f.rows = same_read ∙ sym (ap (λ (x : Finding). x.rows) g) in
        record {
          all = sym (bytes_refused l d input area f.refusal (same_check ∙ c) ne ∙ rw w);
          store = λ _. sym (ap (λ (r : LiveRun). r.run.store) (live_refused (live_in l d) input (length area) (λ z. ne (sym (live_check_lem ∙ c) ∙ z))));
        }

    -- carried out: what the run on the numbers leaves is what the areas are to hold
    served_done : {s : Batched} {h' : List ℕ} {b' : Tables} {d' : LiveDisk} {area' : List ℕ} → live_check_of h (numbers_in l.tables) d ≡ 0
        → s.rows ≡ read_of h (numbers_in l.tables)
        → RunSaved (batch (store_of h (numbers_in l.tables)) input (length area)) l.tables area s.done b' area'
        → d' ≡ played d (batch (store_of h (numbers_in l.tables)) input (length area)).log
        → Written (head_numbers s.done.head) h' → length b'.branches ≡ length l.tables.branches → length b'.records ≡ length l.tables.records
        → length b'.names ≡ length l.tables.names
        → BatchDone l d input area (batch_left s.done.stop s.done.answered s.done.taken s.done.sent s.rows (record { head = h'; tables = b' }) d' area')
    served_done {s} {h'} {b'} {d'} {area'} c n x y e lb lr ln =
        let q : Done = s.done in
        let run : Run = batch (store_in l) input (length area) in
        let t : RunSaved run l.tables area q b' area' = rw eh at x in
        let f : d' ≡ played d run.log = rw eh at y in
        let w : Written (head_numbers run.store.head) h' = rw t.head at e in
        let a : ◌≡◌ {A = Lent} (record { head = h'; tables = b' }) (with_store l run.store) = stored_is l run.store w t.tables t.slab in
        let k : s.rows ≡ read_in l = n ∙ (ap (λ (x : Head). read_of x (numbers_in l.tables)) eh ∙ sym same_read) in
        let z : live_check_of H (numbers_in l.tables) d ≡ 0 = ap (λ (x : Head). live_check_of x (numbers_in l.tables) d) (sym eh) ∙ c in
        let b : live_batch (live_in l d) input (length area) ≡ record { run = run; disk = played d run.log } = batch_is (live_in l d) input (length area) (live_check_lem ∙ z) in
        let g : batch_left q.stop q.answered q.taken q.sent s.rows (record { head = h'; tables = b' }) d' area'
        ≡ run_left (record { run = run; disk = played d run.log }) (read_in l) l area =
        λ j. record { stop = t.stop j; answered = t.answered j; request_bytes = t.taken j; answer_bytes = t.sent j; rows_read = k j; areas = a j; disk = f j; answers = t.answers j } in
        record {
          all = g ∙ (ap (λ (r : LiveRun). run_left r (read_in l) l area) (sym b) ∙ sym (bytes_served l d input area (same_check ∙ z)));
          store = λ _. stored_again l run.store w t.tables t.slab lb lr ln ∙ ap (λ (r : LiveRun). r.run.store) (sym b);
        }

    module _ {r : Tried} {b' : Tables} {d' : LiveDisk} {area' : List ℕ} (t : TriedOn h l.tables d input area r b' d' area') where
      -- by what the try came to
      pub tried_refused : {f : Finding} → r ≡ Refused f → BatchDone l d input area (batch_left f.refusal 0 0 0 f.rows (record { head = l.head; tables = b' }) d' area')
      tried_refused {f} e =
          let u : TriedOn h l.tables d input area (Refused f) b' d' area' = rw e at t in
          rw (u.2, u.3, u.4) (refused_done u.0 u.1)

      pub tried_served : {s : Batched} {h' : List ℕ} → r ≡ Served s → Written (head_numbers s.done.head) h'
          → length b'.branches ≡ length l.tables.branches → length b'.records ≡ length l.tables.records → length b'.names ≡ length l.tables.names
          → BatchDone l d input area (batch_left s.done.stop s.done.answered s.done.taken s.done.sent s.rows (record { head = h'; tables = b' }) d' area')
      tried_served {s} e w lb lr ln =
          let u : TriedOn h l.tables d input area (Served s) b' d' area' = rw e at t in
          served_done u.0 u.1 u.2 u.3 w lb lr ln
