-- The table checks over what is lent: flat tables of any length.
use Rattle.std.specs.Prelude.{Bool, cond, ◌&&◌, ℕ, ◌/◌, ◌%◌, eqb, length}
use Rattle.model.specs.declared.Head.{Head}
use Rattle.model.specs.Soundness.{sizes_allowed, table_check, rows_read}
use Rattle.rows.specs.Rows.{branch_width, record_width, name_width}
use Rattle.rows.specs.View.{Tables, store_of}
use Rattle.record_check.specs.declared.Finding.{Finding}

-- a branch table of lb numbers, a record table of lr and a name table of ln are whole numbers of rows long
unfoldable pub whole_rows : ℕ → ℕ → ℕ → Bool
whole_rows lb lr ln = eqb (lb % branch_width) 0 && (eqb (lr % record_width) 0 && eqb (ln % name_width) 0)

abbrev pub whole_tables : Tables → Bool
whole_tables t = whole_rows (length t.branches) (length t.records) (length t.names)

-- the volume size and the lengths that document 01 allows, of tables of lb, lr, lp and ln numbers and a slab of ls bytes
unfoldable pub allowed_of : ℕ → ℕ → ℕ → ℕ → ℕ → ℕ → Bool
allowed_of size lb lr lp ln ls = whole_rows lb lr ln && sizes_allowed size (lb / branch_width) (lr / record_width) lp (ln / name_width) ls

abbrev pub allowed_in : ℕ → Tables → Bool
allowed_in size t = allowed_of size (length t.branches) (length t.records) (length t.places) (length t.names) (length t.slab)

-- the refusal of the table checks, 0 where there is none: 1 where a table's length is no whole number of rows
unfoldable pub check_of : Head → Tables → ℕ
check_of head t = cond (whole_tables t) (table_check (store_of head t)) 1

-- how many record rows they read: none where a table's length is no whole number of rows
unfoldable pub read_of : Head → Tables → ℕ
read_of head t = cond (whole_tables t) (rows_read (store_of head t)) 0

-- what the table checks find
abbrev pub finding_of : Head → Tables → Finding
finding_of head t = record { refusal = check_of head t; rows = read_of head t }
