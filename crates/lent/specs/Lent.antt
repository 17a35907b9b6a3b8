-- What is lent with the branch table as rows of four numbers: the store that it is, a batch on it, a fresh store over it.
use Rattle.std.specs.Prelude.{◌≡◌, List, Bool, cond, ◌&&◌, ℕ, ◌%◌, eqb, length, replicate}
use Rattle.model.specs.declared.Head.{Head}
use Rattle.model.specs.declared.Branch.{Branch}
use Rattle.model.specs.Store.{Store, zero_branch}
use Rattle.model.specs.Soundness.{rows_read}
use Rattle.model.specs.Batch.{Run, ended, answered_count, request_count, answer_count, area_after}
use Rattle.model.specs.Fresh.{fresh_check, made_fresh}
use Rattle.live.specs.Live.{LiveDisk, LiveRun, live_batch}
use Rattle.rows.specs.Rows.{record_width, record_rows_of, record_table, name_width, name_rows_of, name_table}
use Rattle.lent.specs.declared.Report.{Report}

-- branch rows, the other tables and the slab, as they are lent
pub record Lent : Type 0 where
  pub branches : List Branch
  pub records : List ℕ
  pub places : List ℕ
  pub names : List ℕ
  pub slab : List ℕ

abbrev pub lent : List Branch → List ℕ → List ℕ → List ℕ → List ℕ → Lent
lent branches rt pt nt slab = record { branches = branches; records = rt; places = pt; names = nt; slab = slab }

-- with a head, the store that they are
abbrev pub lent_store : Head → Lent → Store
lent_store head l =
    record {
      head = head;
      branch_rows = l.branches;
      record_rows = record_rows_of l.records;
      place_rows = l.places;
      name_rows = name_rows_of l.names;
      slab = l.slab;
    }

-- what is lent with a store laid over it: every row and every number
abbrev pub laid_over : Store → Lent → Lent
laid_over s l =
    lent s.branch_rows (record_table s.record_rows l.records) s.place_rows (name_table s.name_rows l.names) s.slab

-- the record table and the name table are whole numbers of rows long
abbrev pub whole_others : Lent → Bool
whole_others l = eqb (length l.records % record_width) 0 && eqb (length l.names % name_width) 0

-- the model's batch on what is lent, and the live disk behind it; a record or name table that is no whole number of rows is refusal 1
unfoldable pub lent_batch : Head → Lent → LiveDisk → List ℕ → ℕ → LiveRun
lent_batch head l d input space =
    cond (whole_others l) (live_batch (record { store = lent_store head l; disk = d }) input space) (record { run = ended (lent_store head l) 1; disk = d })

-- how many record rows its table checks read: none where the record or the name table is no whole number of rows
unfoldable pub lent_read : Head → Lent → ℕ
lent_read head l = cond (whole_others l) (rows_read (lent_store head l)) 0

-- what a run on what is lent reports and leaves: the stop number, the three counts, the head, all that is lent, and the answer area
pub record BatchLeaves (run : Run) (l : Lent) (area : List ℕ) (r : Report) (head' : Head) (l' : Lent) (area' : List ℕ) : Type 0 where
  pub stop : r.stop ≡ run.stop
  pub answered : r.answered ≡ answered_count run
  pub taken : r.taken ≡ request_count run
  pub sent : r.sent ≡ answer_count run
  pub head : head' ≡ run.store.head
  pub tables : l' ≡ laid_over run.store l
  pub answers : area' ≡ area_after run area

-- a fresh store of `size` pages over what is lent; a refusal changes nothing
unfoldable pub lent_fresh : Head → Lent → ℕ → Store
lent_fresh head l size = cond (whole_others l) (made_fresh (lent_store head l) size) (lent_store head l)

-- its refusal: 1, or 0 where there is none
unfoldable pub lent_refusal : Head → Lent → ℕ → ℕ
lent_refusal head l size = cond (whole_others l) (fresh_check (lent_store head l) size) 1

-- what making a fresh store gives back and leaves: the refusal, the head and all that is lent
pub record FreshLeaves (head : Head) (l : Lent) (size r : ℕ) (head' : Head) (l' : Lent) : Type 0 where
  pub refusal : r ≡ lent_refusal head l size
  pub made : head' ≡ (lent_fresh head l size).head
  pub tables : l' ≡ laid_over (lent_fresh head l size) l

-- 16 branch rows of zeros, with tables and slab that are lent
abbrev pub zero_rows : List ℕ → List ℕ → List ℕ → List ℕ → Lent
zero_rows = lent (replicate 16 zero_branch)

-- made a fresh store of `size` pages, with a head of zeros
abbrev pub fresh_start : ℕ → Lent → Store
fresh_start size l = lent_fresh (record { size = 0; branches = 0; records = 0; now = 0; floor = 0; names = 0 }) l size

-- the model's batch on that store, and the live disk behind it; a record or name table that is no whole number of rows is refusal 1
unfoldable pub fresh_batch : ℕ → Lent → LiveDisk → List ℕ → ℕ → LiveRun
fresh_batch size l d input space =
    cond (whole_others l) (live_batch (record { store = fresh_start size l; disk = d }) input space) (record { run = ended (fresh_start size l) 1; disk = d })

-- how many record rows its table checks read
unfoldable pub fresh_read : ℕ → Lent → ℕ
fresh_read size l = cond (whole_others l) (rows_read (fresh_start size l)) 0
