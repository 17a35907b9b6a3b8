-- Laws of a batch on tables of bytes.
use mathlib.Core.Path.{◌≡◌, ap, ◌∙◌}
use mathlib.Core.List.{List}
use Prim.Native.Nat.{ℕ}
use lib.ListN.{length}
use Rattle.model.specs.declared.Head.{Head}
use Rattle.model.specs.Batch.{Run, batch}
use Rattle.rows.specs.View.{Tables, store_of}
use Rattle.batch.specs.declared.Done.{Done}
use Rattle.batch.specs.Batch.{BatchLeaves}
use Rattle.tables.specs.Tables.{numbers_in, Saved}
use Rattle.batch_tables.specs.Tried.{RunSaved}

-- numbers that were read, run on and written back
pub run_saved_is : (h : Head) (b : Tables) (input : List ℕ) {t t' b' : Tables} {area area' : List ℕ} {d : Done} → t ≡ numbers_in b
    → BatchLeaves (batch (store_of h t) input (length area)) t area d t' area' → Saved t' b' → b'.slab ≡ t'.slab
    → RunSaved (batch (store_of h (numbers_in b)) input (length area)) b area d b' area'
run_saved_is h b input {t} {t'} {b'} {area} {area'} {d} e f s es =
    let run : Run = batch (store_of h (numbers_in b)) input (length area) in
    let g : BatchLeaves run (numbers_in b) area d t' area' = rw e at f in
    record {
      stop = g.stop;
      answered = g.answered;
      taken = g.taken;
      sent = g.sent;
      head = g.head;
      tables = rw g.tables at s;
      slab = es ∙ ap (λ (x : Tables). x.slab) g.tables;
      answers = g.answers;
    }
