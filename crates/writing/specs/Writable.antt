-- What a write asks of the tables; a sound store has it.
use Rattle.std.specs.Prelude.{◌≡◌, List, ℕ, ◌*◌, ◌≤◌, ◌<◌, length, get_or, take}
use Rattle.model.specs.declared.Head.{Head}
use Rattle.model.specs.declared.Record.{Record}
use Rattle.model.specs.Store.{◌∈◌}
use Rattle.model.specs.ByNumber.{Asc}
use Rattle.model.specs.Step.{before}
use Rattle.rows.specs.Rows.{record_rows_of, RecordsIn}

-- the counted rows are there, their count can grow by 1, a place is a number of 32 bits, and no place row names a record that is not counted
pub record Room (head : Head) (rt pt slab : List ℕ) : Type 0 where
  pub counted : RecordsIn head.records rt
  pub few : head.records < 4294967295
  pub places : length pt ≤ 4294967296
  pub pages : length slab ≡ 256 * length pt
  pub named : (k : ℕ) → get_or pt k 0 ≤ head.records

-- the same, with the counted records in order and each in a place of the table
pub record Writable (head : Head) (rt pt slab : List ℕ) : Type 0 where
  pub room : Room head rt pt slab
  pub ascends : Asc (take head.records (record_rows_of rt))
  pub placed : (r : Record) → r ∈ take head.records (record_rows_of rt) → r.place < length pt

-- the row at which a new record of (a, t) goes in
pub record Slot (rs : List Record) (a t at : ℕ) : Type 0 where
  pub inside : at ≤ length rs
  pub row : (p : ℕ) → before (record { address = a; moment = t; place = p }) rs ≡ at
