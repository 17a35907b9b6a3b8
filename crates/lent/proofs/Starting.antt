-- A batch on a store that was just made, in one step.
use mathlib.Core.Path.{◌≡◌, sym, ap, ap₂, ◌∙◌}
use mathlib.Core.List.{List}
use mathlib.Core.Bool.{◌&&◌}
use Prim.Native.Nat.{ℕ, ◌%◌}
use lib.Dec.{eqb}
use lib.ListN.{length}
use Rattle.model.specs.declared.Head.{Head}
use Rattle.model.specs.Store.{Store}
use Rattle.model.specs.Soundness.{sizes_allowed}
use Rattle.model.specs.Batch.{Run}
use Rattle.model.specs.Fresh.{fresh, made_fresh}
use Rattle.model.proofs.Base.{case}
use Rattle.live.specs.Live.{LiveDisk, LiveRun}
use Rattle.rows.specs.Rows.{record_width, record_rows_of, record_table, RecordsLaid, name_width, name_rows_of, name_table, NamesLaid}
use Rattle.rows.proofs.Laws.{record_kind, name_kind}
use Rattle.rows.proofs.Relaid.{laid_rows, laid_over_lem}
use Rattle.lent.specs.declared.Report.{Report}
use Rattle.lent.specs.Lent.{Lent, lent, lent_store, whole_others, lent_batch, lent_read, lent_fresh, BatchLeaves, FreshLeaves, fresh_start, fresh_batch, fresh_read}

-- a fresh store leaves the slab untouched
made_slab : (s : Store) (size : ℕ) → (made_fresh s size).slab ≡ s.slab
unfolding made_fresh fresh
made_slab s size =
    case (sizes_allowed size (length s.branch_rows) (length s.record_rows) (length s.place_rows) (length s.name_rows) (length s.slab)) (λ e. rw e) (λ e. rw e)

start_slab : (size : ℕ) (l : Lent) → (fresh_start size l).slab ≡ l.slab
unfolding lent_fresh
start_slab size l = case (whole_others l) (λ e. rw e (made_slab _ size)) (λ e. rw e)

abbrev zero_head : Head
zero_head = record { size = 0; branches = 0; records = 0; now = 0; floor = 0; names = 0 }

-- l₁ is what making a fresh store left of l
module _ (size : ℕ) (l : Lent) (r : ℕ) (h₁ : Head) (l₁ : Lent) (same : length l₁.records ≡ length l.records) (same_names : length l₁.names ≡ length l.names) (made : FreshLeaves zero_head l size r h₁ l₁) where
  abbrev s : Store
  s = fresh_start size l

  laid : RecordsLaid l.records s.record_rows l₁.records
  laid = record { table = ap (λ (x : Lent). x.records) made.tables }

  laid_names : NamesLaid l.names s.name_rows l₁.names
  laid_names = record { table = ap (λ (x : Lent). x.names) made.tables }

  -- it is that store
  store_made : lent_store h₁ l₁ ≡ s
  store_made =
      let rows : record_rows_of l₁.records ≡ s.record_rows = laid_rows record_kind laid same in
      let named : name_rows_of l₁.names ≡ s.name_rows = laid_rows name_kind laid_names same_names in
      λ i.
      record {
        head = made.made i;
        branch_rows = (made.tables i).branches;
        record_rows = rows i;
        place_rows = (made.tables i).places;
        name_rows = named i;
        slab = (made.tables i).slab;
      }

  whole_made : whole_others l₁ ≡ whole_others l
  whole_made = ap₂ (λ (n k : ℕ). eqb (n % record_width) 0 && eqb (k % name_width) 0) same same_names

  batch_made : (d : LiveDisk) (input : List ℕ) (space : ℕ) → lent_batch h₁ l₁ d input space ≡ fresh_batch size l d input space
  unfolding lent_batch fresh_batch
  batch_made d input space = rw (whole_made, store_made)

  -- the live disk behind it
  pub disk_made : (d : LiveDisk) (input : List ℕ) (space : ℕ) {d₂ : LiveDisk} → d₂ ≡ (lent_batch h₁ l₁ d input space).disk → d₂ ≡ (fresh_batch size l d input space).disk
  disk_made d input space e = e ∙ ap (λ (r : LiveRun). r.disk) (batch_made d input space)

  pub read_made : lent_read h₁ l₁ ≡ fresh_read size l
  unfolding lent_read fresh_read
  read_made = rw (whole_made, store_made)

  -- and what is laid over it is laid over l
  pub then_batch : (d : LiveDisk) (input area : List ℕ) (q : Report) (h₂ : Head) (l₂ : Lent) (area₂ : List ℕ) → BatchLeaves (lent_batch h₁ l₁ d input (length area)).run l₁ area q h₂ l₂ area₂
      → BatchLeaves (fresh_batch size l d input (length area)).run l area q h₂ (lent (fresh_batch size l d input (length area)).run.store.branch_rows l₂.records l₂.places l₂.names l₂.slab) area₂
  then_batch d input area q h₂ l₂ area₂ x =
      let run : Run = (lent_batch h₁ l₁ d input (length area)).run in
      let er : l₂.records ≡ record_table run.store.record_rows l.records = ap (λ (y : Lent). y.records) x.tables ∙ laid_over_lem record_kind laid same run.store.record_rows in
      let en : l₂.names ≡ name_table run.store.name_rows l.names = ap (λ (y : Lent). y.names) x.tables ∙ laid_over_lem name_kind laid_names same_names run.store.name_rows in
      rw (sym (batch_made d input (length area)))
      (record {
        stop = x.stop;
        answered = x.answered;
        taken = x.taken;
        sent = x.sent;
        head = x.head;
        tables = λ i. record { branches = run.store.branch_rows; records = er i; places = (x.tables i).places; names = en i; slab = (x.tables i).slab };
        answers = x.answers;
      })
