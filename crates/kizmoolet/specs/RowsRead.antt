-- Change request Five said of kizmoolet_batch: what the rows read that a call reports tell of the record rows that it was given.
-- proofs/RowsRead.antt proves it.
use Rattle.std.specs.Prelude.{ℕ, ◌≤◌, ◌≡◌, ◌⊎◌, List}
use Rattle.model.specs.RowsRead.{FirstBroken, OnlyCount}
use Rattle.live.specs.Live.{LiveDisk}
use Rattle.areas.specs.Lent.{Lent, store_in}
use Rattle.batch_areas.specs.Batch.{BatchLeft, batch_bytes}

-- at most all counted rows are read; none where 1 or 2 refuses; where 3 refuses, the last row read is the first that breaks a rule, or all
-- were read, none breaks one, and the number of places in use is wrong; all where the tables pass, 18 among these
pub record RowsToldIn (l : Lent) (left : BatchLeft) : Type 0 where
  pub most : left.rows_read ≤ (store_in l).head.records
  pub unread : (left.stop ≡ 1) ⊎ (left.stop ≡ 2) → left.rows_read ≡ 0
  pub broken : left.stop ≡ 3
      → FirstBroken (store_in l) left.rows_read ⊎ ((left.rows_read ≡ (store_in l).head.records) × OnlyCount (store_in l))
  pub served : (left.stop ≡ 0) ⊎ (11 ≤ left.stop) → left.rows_read ≡ (store_in l).head.records

-- of every call, on whatever areas and live disk are lent
abbrev pub RowsTell : Type 0
RowsTell = (l : Lent) (d : LiveDisk) (input area : List ℕ) → RowsToldIn l (batch_bytes l d input area)
