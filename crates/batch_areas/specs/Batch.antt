-- A batch on areas of bytes.
use Rattle.std.specs.Prelude.{◌≡◌, List, true, cond, ℕ, zero, suc, length}
use Rattle.model.specs.Soundness.{rows_read}
use Rattle.model.specs.Batch.{answered_count, request_count, answer_count, area_after}
use Rattle.live.specs.Live.{LiveDisk, live_check, LiveRun, live_batch}
use Rattle.areas.specs.Lent.{Lent, fits, store_in, live_in, with_store}

-- what a batch leaves: the stop number, requests answered, the bytes of those requests, the bytes of their answers,
-- the record rows that the table checks read, the areas of the store, the live disk, and the answer area
pub record BatchLeft : Type 0 where
  pub stop : ℕ
  pub answered : ℕ
  pub request_bytes : ℕ
  pub answer_bytes : ℕ
  pub rows_read : ℕ
  pub areas : Lent
  pub disk : LiveDisk
  pub answers : List ℕ

abbrev pub batch_left : ℕ → ℕ → ℕ → ℕ → ℕ → Lent → LiveDisk → List ℕ → BatchLeft
batch_left stop answered request_bytes answer_bytes rows_read areas disk answers =
    record {
      stop = stop;
      answered = answered;
      request_bytes = request_bytes;
      answer_bytes = answer_bytes;
      rows_read = rows_read;
      areas = areas;
      disk = disk;
      answers = answers;
    }

-- the refusal of the checks, 0 where there is none; a length that does not fit is 1
unfoldable pub check_in : Lent → LiveDisk → ℕ
check_in l d = cond (fits l) (live_check (live_in l d)) 1

-- how many record rows the table checks read; none where a length does not fit
unfoldable pub read_in : Lent → ℕ
read_in l = cond (fits l) (rows_read (store_in l)) 0

-- a run after table checks that read so many rows, with its store put into the areas
abbrev pub run_left : LiveRun → ℕ → Lent → List ℕ → BatchLeft
run_left r rows l area =
    batch_left r.run.stop (answered_count r.run) (request_count r.run) (answer_count r.run) rows (with_store l r.run.store) r.disk
    (area_after r.run area)

-- where the checks pass, the batch on the store that the areas hold, and on the live disk;
-- else the refusal is the stop number, the counts but the rows read are zero, and every area is as it was
unfoldable pub batch_bytes : Lent → LiveDisk → List ℕ → List ℕ → BatchLeft
batch_bytes l d input area = serve (check_in l d)
  where
    serve : ℕ → BatchLeft
    serve zero = run_left (live_batch (live_in l d) input (length area)) (read_in l) l area
    serve (suc n) = batch_left (suc n) 0 0 0 (read_in l) l d area

-- what a call leaves is as the definition says; and where the lengths fit, the areas hold the store that the batch leaves
pub record BatchDone (l : Lent) (d : LiveDisk) (input area : List ℕ) (left : BatchLeft) : Type 0 where
  pub all : left ≡ batch_bytes l d input area
  pub store : fits l ≡ true → store_in left.areas ≡ (live_batch (live_in l d) input (length area)).run.store
