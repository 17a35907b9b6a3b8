-- Head, tables and slab as a C program lends them: areas of bytes.
use Rattle.std.specs.Prelude.{List, Bool, ℕ, length}
use Rattle.model.specs.Store.{Store}
use Rattle.live.specs.Live.{LiveDisk, Live}
use Rattle.rows.specs.View.{Tables, tables, store_of, laid}
use Rattle.tables.specs.Numbers.{numbers_of, bytes_of, head_numbers, head_of}
use Rattle.tables.specs.Tables.{numbers_in, bytes_in, lengths_fit}

-- the areas of a store; each number of head and tables is four bytes, most significant first
pub record Lent : Type 0 where
  pub head : List ℕ
  pub tables : Tables

abbrev pub lent : List ℕ → List ℕ → List ℕ → List ℕ → List ℕ → List ℕ → Lent
lent head branches records places names slab = record { head = head; tables = tables branches records places names slab }

-- whether head and tables are as long as may be lent: whole numbers of rows, and 32 name rows
abbrev pub fits : Lent → Bool
fits l =
    lengths_fit (length l.head) (length l.tables.branches) (length l.tables.records) (length l.tables.places) (length l.tables.names)

-- the store that the areas hold
abbrev pub store_in : Lent → Store
store_in l = store_of (head_of (numbers_of l.head)) (numbers_in l.tables)

-- with the live disk that is lent beside them
abbrev pub live_in : Lent → LiveDisk → Live
live_in l d = record { store = store_in l; disk = d }

-- the areas with a store put into them
abbrev pub with_store : Lent → Store → Lent
with_store l s = record { head = bytes_of (head_numbers s.head); tables = bytes_in (laid s (numbers_in l.tables)) }
