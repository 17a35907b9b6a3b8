-- A fresh store over the program's tables, a batch for it, and the stop number behind the answers.
use mathlib.Core.Path.{◌≡◌, refl, sym, ap, ◌∙◌}
use mathlib.Core.List.{List, [], ◌∷◌, ◌++◌, append_assoc}
use mathlib.Core.Bool.{true}
use Prim.Native.Nat.{ℕ, suc, ◌+◌, ◌*◌, ◌-◌, ◌≤◌, ◌<◌}
use native.Mathlib.Numerals.{add-one}
use native.Mathlib.Omega.{arith}
use lib.ListN.{length, get_or, set, take, drop, length-append, take-append-drop}
use lib.Seq.{length-take-le, drop-append-le, drop-cons, set_at}
use Rattle.model.specs.declared.Head.{Head}
use Rattle.model.specs.Store.{Store}
use Rattle.model.specs.Fresh.{fresh, program_store}
use Rattle.model.specs.Batch.{Run, batch}
use Rattle.live.specs.Live.{LiveDisk, disk_of, marks_small}
use Rattle.live.specs.Fit.{Sized}
use Rattle.live.proofs.LiveDemand.{sized_run}
use Rattle.rows.specs.Rows.{zeros}
use Rattle.rows.specs.View.{Tables, store_of}
use Rattle.rows.proofs.Laws.{branch_count, record_count, length_zeros}
use Rattle.rows.proofs.View.{SameLengths, laid_on}
use Rattle.soundness.specs.Check.{whole_tables, allowed_in}
use Rattle.soundness.proofs.Sizes.{→lengths, →whole}
use Rattle.fresh.specs.declared.Made.{Made}
use Rattle.fresh.specs.Fresh.{fresh_of, Fresh}
use Rattle.fresh.proofs.Fresh.{fresh_is, store_made}
use Rattle.batch.specs.declared.Done.{Done}
use Rattle.batch.specs.Batch.{batch_of, BatchLeaves}
use Rattle.program.specs.declared.Reply.{Reply}
use Rattle.program.specs.Session.{TableLengths, at_start, Sends, session_of, SessionLeaves, SomeSession}
use Rattle.program.proofs.Stops.{batch_small}

module _ {t : Tables} (l : TableLengths t) where
  sizes : allowed_in 64 t ≡ true
  sizes =
      →lengths
      (record {
        branches = omega (arith, l.branches);
        records = omega (arith, l.records);
        names = omega (arith, l.names);
        allowed =
            record {
              size_low = omega arith;
              size_high = omega arith;
              branches_low = omega (arith, l.branches);
              branches_high = omega (arith, l.branches);
              records_low = omega (arith, l.records);
              records_high = omega (arith, l.records);
              places_low = omega (arith, l.places);
              places_high = omega (arith, l.places);
              name_rows = omega (arith, l.names);
              slab = omega (arith, l.places, l.slab);
            };
      })

  made_program : (h : Head) → fresh_of h t 64 ≡ program_store t.slab
  made_program h = fresh_is h 64 t sizes ∙ rw (branch_count t.branches, record_count t.records, l.branches, l.records, l.places)

  module _ {head : Head} {r : Made} {t' : Tables} (f : Fresh head 64 t r t') (k : SameLengths t t') where
    started : store_of r.head t' ≡ program_store t.slab
    started = store_made f k ∙ made_program head

    whole : whole_tables t' ≡ true
    whole = →whole t' (record { branches = omega (arith, k.branches, l.branches); records = omega (arith, k.records, l.records); names = omega (arith, k.names, l.names) })

    module _ {d : LiveDisk} (z : Sized 64 d) where
      run_is : (input : List ℕ) (space : ℕ) → (batch_of r.head t' d input space).run ≡ batch (program_store t.slab) input space
      unfolding batch_of fresh
      run_is input space = rw (whole, started) (sized_run (record { store = program_store t.slab; disk = d }) z input space)

      -- what the batch on the tables leaves is what the model's batch on the fresh store says
      pub leaves : (input : List ℕ) {area area' : List ℕ} {t'' : Tables} {done : Done} → BatchLeaves (batch_of r.head t' d input (length area)).run t' area done t'' area'
          → BatchLeaves (batch (program_store t.slab) input (length area)) t area done t'' area'
      leaves input {area} {area'} {t''} {done} v =
          let run : Run = batch (program_store t.slab) input (length area) in
          let w : BatchLeaves run t' area done t'' area' = rw (run_is input (length area)) at v in
          record {
            stop = w.stop;
            answered = w.answered;
            taken = w.taken;
            sent = w.sent;
            head = w.head;
            tables = w.tables ∙ laid_on (fresh_of head t 64) f.tables k run.store;
            answers = w.answers;
          }

-- the program's live disk is one of 64 pages
no_marks : marks_small (zeros 64) ≡ true
unfolding marks_small zeros
no_marks = refl

pub stale_sized : {bytes marks : List ℕ} → bytes ≡ zeros (64 * 256) → marks ≡ zeros 64 → Sized 64 (disk_of bytes marks)
stale_sized e m = record { bytes = ap length e ∙ length_zeros (64 * 256); marks = ap length m ∙ length_zeros 64; small = ap marks_small m ∙ no_marks }

-- what a batch leaves, as what goes out; the stop number fits a byte
module _ (s : Store) (input : List ℕ) {area area' : List ℕ} {t t' : Tables} {done : Done} (v : BatchLeaves (batch s input (length area)) t area done t' area') where
  pub stop_byte : done.stop ≤ 14
  stop_byte = rw v.stop (batch_small s input (length area))

  pub sends : {s' : Store} → s ≡ s' → Sends (batch s' input (length area)) area (record { sent = done.sent; stop = done.stop }) area'
  sends e = rw (sym e) (record { sent = v.sent; stop = v.stop; answers = v.answers })

-- the stop number put behind the answers
module _ (input out : List ℕ) (some : 0 < length out) where
  abbrev space : ℕ
  space = length out - 1

  abbrev run : Run
  run = batch at_start input space

  abbrev front : List ℕ
  front = take space out

  pub length_front : length front ≡ space
  length_front = length-take-le space out (omega (arith, some))

  module _ {r : Reply} {area' : List ℕ} (x : Sends (batch at_start input (length front)) front r area') (same : length area' ≡ length front) where
    y : Sends run front r area'
    y = rw length_front at x

    fits : length run.out ≤ space
    fits = omega (arith, ap length y.answers, same, length_front, length-append run.out (drop (length run.out) front))

    pub stop_inside : r.sent < length out
    stop_inside = omega (arith, y.sent, fits, some)

    -- the output of the session
    output_is : session_of input (length out) ≡ run.out ++ (run.stop ∷ [])
    unfolding session_of
    output_is = let e : length out ≡ suc space = omega (arith, some) in ap (session_of input) e

    long : length (session_of input (length out)) ≡ length run.out + 1
    long = rw output_is (length-append run.out (run.stop ∷ []))

    area_is : area' ++ drop space out ≡ run.out ++ (get_or out (length run.out) 0 ∷ drop (suc (length run.out)) out)
    area_is =
        let n : ℕ = length run.out in
        let joined : drop n front ++ drop space out ≡ drop n out =
        sym (drop-append-le n front (drop space out) (omega (arith, fits, length_front))) ∙ ap (drop n) (take-append-drop space out) in
        ap (λ (l : List ℕ). l ++ drop space out) y.answers
        ∙ (append_assoc run.out (drop n front) (drop space out)
        ∙ ap (λ (l : List ℕ). run.out ++ l) (joined ∙ drop-cons out n 0 (omega (arith, fits, some))))

    pub session_leaves : SessionLeaves input out (r.sent + 1) (set (area' ++ drop space out) r.sent r.stop)
    session_leaves =
        let n : ℕ = length run.out in
        let put : set (area' ++ drop space out) r.sent r.stop ≡ run.out ++ (run.stop ∷ drop (suc n) out) =
        (λ i. set (area_is i) (y.sent i) (y.stop i)) ∙ set_at run.out (get_or out n 0) (drop (suc n) out) run.stop n refl in
        let shape : session_of input (length out) ++ drop (length (session_of input (length out))) out ≡ run.out ++ (run.stop ∷ drop (suc n) out) =
        ap (λ (k : ℕ). session_of input (length out) ++ drop k out) (long ∙ add-one n)
        ∙ (ap (λ (l : List ℕ). l ++ drop (suc n) out) output_is ∙ append_assoc run.out (run.stop ∷ []) (drop (suc n) out)) in
        record { sent_bytes = omega (arith, y.sent, long); output = put ∙ sym shape }

-- no area, no output
pub no_area : {input out : List ℕ} → length out ≡ 0 → SessionLeaves input out 0 out
unfolding session_of
no_area {input} {out} e = record { sent_bytes = rw e; output = rw e }

-- the output stands in the area
pub output_within : {input area area' : List ℕ} {n : ℕ} → SessionLeaves input area n area' → n ≤ length area'
output_within {input} {area} {area'} {n} l =
    omega (arith, l.sent_bytes, ap length l.output, length-append (session_of input (length area)) (drop (length (session_of input (length area))) area))

pub some_session : {input area area' : List ℕ} {n : ℕ} → length input ≤ 65536 → length area ≡ 65537 → SessionLeaves input area n area' → SomeSession n
some_session {input} {area} {area'} {n} short long l = record { input = input; short = short; sent_bytes = l.sent_bytes ∙ ap (λ (k : ℕ). length (session_of input k)) long }
