-- What is lent, after a batch that is over.
use mathlib.Core.Path.{◌≡◌, refl, ap, sym, ◌∙◌}
use mathlib.Core.List.{List, ◌++◌}
use mathlib.Core.Bool.{true}
use Prim.Native.Nat.{ℕ}
use native.Mathlib.Omega.{arith}
use lib.ListN.{length, take, drop, take-append-drop}
use lib.Seq.{length-take-le}
use Rattle.model.specs.declared.Head.{Head}
use Rattle.model.specs.Batch.{Answered, Run, ended, batch}
use Rattle.rows.specs.View.{Tables, store_of, laid}
use Rattle.rows.proofs.View.{laid_self}
use Rattle.model.proofs.Base.{case}
use Rattle.live.specs.Live.{LiveDisk, live_check, played}
use Rattle.live.proofs.LiveDemand.{batch_is, live_refused}
use Rattle.soundness.specs.Check.{whole_tables}
use Rattle.disk_check.specs.Check.{live_of, live_check_of}
use Rattle.disk_check.proofs.Checked.{whole_check, odd_check, passed_whole}
use Rattle.batch.specs.Batch.{batch_of, BatchLeaves}
use Rattle.batch.proofs.Laws.{Over}

module _ {head h' : Head} {t t' : Tables} {input area area' : List ℕ} {log : List Answered} {stop count at out : ℕ} where
  pub over_leaves : t' ≡ laid (store_of h' t') t → Over (store_of head t) input area (store_of h' t') area' log stop count at out
      → BatchLeaves (batch (store_of head t) input (length area)) t area (record { head = h'; stop = stop; answered = count; taken = at; sent = out }) t' area'
  over_leaves d o =
      let run : Run = batch (store_of head t) input (length area) in
      let e : ◌≡◌ {A = Run} (record { store = store_of h' t'; stop = stop; log = log; taken = at; out = take out area' }) run = sym o.same in
      let n : length (take out area') ≡ out = length-take-le out area' (omega (arith, o.room, o.long)) in
      let m : out ≡ length run.out = sym n ∙ ap (λ (r : Run). length r.out) e in
      let w : take out area' ≡ run.out = ap (λ (r : Run). r.out) e in
      record {
        stop = ap (λ (r : Run). r.stop) e;
        answered = sym o.counted ∙ ap (λ (r : Run). length r.log) e;
        taken = ap (λ (r : Run). r.taken) e;
        sent = m;
        head = ap (λ (r : Run). r.store.head) e;
        tables = d ∙ ap (λ (r : Run). laid r.store t) e;
        answers =
            sym (take-append-drop out area')
            ∙ (ap (λ (x : List ℕ). take out area' ++ x) o.rest
            ∙ (ap (λ (x : List ℕ). x ++ drop out area) w ∙ ap (λ (k : ℕ). run.out ++ drop k area) m));
      }

-- a batch that the checks refuse leaves all as it was
pub refused_leaves : (head : Head) (t : Tables) (area : List ℕ) (n : ℕ)
    → BatchLeaves (ended (store_of head t) n) t area (record { head = head; stop = n; answered = 0; taken = 0; sent = 0 }) t area
refused_leaves head t area n =
    record {
      stop = refl;
      answered = refl;
      taken = refl;
      sent = refl;
      head = refl;
      tables = laid_self head t;
      answers = refl;
    }

-- the batch of what is lent, by the refusal of the checks
module _ (head : Head) (t : Tables) (d : LiveDisk) (input : List ℕ) (space : ℕ) where
  pub batch_checked : live_check_of head t d ≡ 0
      → batch_of head t d input space ≡ record { run = batch (store_of head t) input space; disk = played d (batch (store_of head t) input space).log }
  unfolding batch_of
  batch_checked e =
      let w : whole_tables t ≡ true = passed_whole head t d e in
      rw w (batch_is (live_of head t d) input space (sym (whole_check head t d w) ∙ e))

  pub batch_unchecked : (n : ℕ) → n ≡ live_check_of head t d → (n ≡ 0 → ⊥) → batch_of head t d input space ≡ record { run = ended (store_of head t) n; disk = d }
  unfolding batch_of
  batch_unchecked n e ne =
      case (whole_tables t)
      (λ w.
      let c : live_check (live_of head t d) ≡ n = sym (whole_check head t d w) ∙ sym e in
      rw w (live_refused (live_of head t d) input space (λ z. ne (sym c ∙ z)) ∙ rw c))
      (λ w. let z : n ≡ 1 = e ∙ odd_check head t d w in rw (w, z))
