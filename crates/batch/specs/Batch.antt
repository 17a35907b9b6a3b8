-- A batch on what is lent: every number of head, tables, slab, live disk and answer area.
use Rattle.std.specs.Prelude.{◌≡◌, List, cond, ℕ}
use Rattle.model.specs.declared.Head.{Head}
use Rattle.model.specs.Batch.{Run, ended, answered_count, request_count, answer_count, area_after}
use Rattle.live.specs.Live.{LiveDisk, LiveRun, live_batch}
use Rattle.rows.specs.View.{Tables, store_of, laid}
use Rattle.soundness.specs.Check.{whole_tables}
use Rattle.disk_check.specs.Check.{live_of}
use Rattle.wire.specs.declared.Parsed.{Parsed}
use Rattle.wire.specs.declared.Parsed.TheVariants.{End, Stop, One}
use Rattle.batch.specs.declared.Done.{Done}

-- a batch on what is lent, and the live disk behind it; a table that is no whole number of rows is refusal 1
unfoldable pub batch_of : Head → Tables → LiveDisk → List ℕ → ℕ → LiveRun
batch_of head t d input space =
    cond (whole_tables t) (live_batch (live_of head t d) input space) (record { run = ended (store_of head t) 1; disk = d })

-- the stop number, the three counts, the head, every number of each table, the slab and the answer area are as a run says
pub record BatchLeaves (run : Run) (t : Tables) (area : List ℕ) (r : Done) (t' : Tables) (area' : List ℕ) : Type 0 where
  pub stop : r.stop ≡ run.stop
  pub answered : r.answered ≡ answered_count run
  pub taken : r.taken ≡ request_count run
  pub sent : r.sent ≡ answer_count run
  pub head : r.head ≡ run.store.head
  pub tables : t' ≡ laid run.store t
  pub answers : area' ≡ area_after run area

-- with which number a batch stops where no request is read
abbrev pub stop_of : Parsed → ℕ
stop_of End = 0
stop_of (Stop n) = n
stop_of (One q n) = 0
