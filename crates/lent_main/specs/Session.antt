-- What the program answers to its input.
use Rattle.std.specs.Prelude.{◌≡◌, List, ℕ, ◌*◌, length}
use Rattle.model.specs.Store.{Store}
use Rattle.model.specs.Soundness.{rows_read}
use Rattle.model.specs.Fresh.{program_store}
use Rattle.model.specs.Batch.{Run, batch, answered_count, request_count, answer_count, area_after}
use Rattle.rows.specs.Rows.{zeros}
use Rattle.lent.specs.declared.Ended.{Ended}

-- the fresh store of the batch program, and the model's batch on it
abbrev pub at_start : Store
at_start = program_store (zeros (128 * 256))

abbrev pub run_of : List ℕ → ℕ → Run
run_of = batch at_start

-- the report, the head and the answer area are those of that batch
pub record Replies (input area : List ℕ) (r : Ended) (area' : List ℕ) : Type 0 where
  pub stop : r.report.stop ≡ (run_of input (length area)).stop
  pub answered : r.report.answered ≡ answered_count (run_of input (length area))
  pub taken : r.report.taken ≡ request_count (run_of input (length area))
  pub sent : r.report.sent ≡ answer_count (run_of input (length area))
  pub rows : r.report.rows ≡ rows_read at_start
  pub head : r.head ≡ (run_of input (length area)).store.head
  pub answers : area' ≡ area_after (run_of input (length area)) area
