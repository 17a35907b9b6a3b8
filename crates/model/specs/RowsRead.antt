-- Change request Five: what the number of record rows read tells of a store. proofs/RowsRead proves it.
use Rattle.std.specs.Prelude.{ℕ, suc, ◌-◌, ◌≤◌, ◌<◌, ◌≡◌, ◌⊎◌, true}
use Rattle.model.specs.Store.{Store, records}
use Rattle.model.specs.Soundness.{precedes, by_itself, used, table_check, rows_read}
use Rattle.model.specs.ByNumber.{entry}

-- the counted record row i, from 0, keeps the record rules: by itself, and against the row before it
pub record Keeps (s : Store) (i : ℕ) : Type 0 where
  pub alone : by_itself s (suc i) (entry (records s) i) ≡ true
  pub after : 0 < i → precedes (entry (records s) (i - 1)) (entry (records s) i) ≡ true

-- of the counted record rows the n-th is the first that breaks a rule
pub record FirstBroken (s : Store) (n : ℕ) : Type 0 where
  pub low : 1 ≤ n
  pub high : n ≤ s.head.records
  pub before : (i : ℕ) → suc i < n → Keeps s i
  pub breaks : Keeps s (n - 1) → ⊥

-- no counted record row breaks a rule, but the number of places in use is not that of the records
pub record OnlyCount (s : Store) : Type 0 where
  pub keep : (i : ℕ) → i < s.head.records → Keeps s i
  pub count : used s.place_rows ≡ s.head.records → ⊥

-- at most all counted rows are read; none where 1 or 2 refuses; all where the tables pass; where 3 refuses, the last row read is the first
-- that breaks a rule, or all were read, none breaks one, and the number of places in use is wrong
pub record RowsTold (s : Store) : Type 0 where
  pub most : rows_read s ≤ s.head.records
  pub unread : (table_check s ≡ 1) ⊎ (table_check s ≡ 2) → rows_read s ≡ 0
  pub passed : table_check s ≡ 0 → rows_read s ≡ s.head.records
  pub broken : table_check s ≡ 3 → FirstBroken s (rows_read s) ⊎ ((rows_read s ≡ s.head.records) × OnlyCount s)

-- of every store
abbrev pub RowsTell : Type 0
RowsTell = (s : Store) → RowsTold s
