-- Tables as bytes and as numbers.
use Rattle.std.specs.Prelude.{◌≡◌, Bool, ◌&&◌, ℕ, ◌*◌, ◌%◌, leb, eqb, length}
use Rattle.rows.specs.Rows.{branch_width, record_width, name_width}
use Rattle.rows.specs.View.{Tables, tables}
use Rattle.tables.specs.Numbers.{numbers_of, bytes_of, Written}

-- the numbers that tables of bytes spell; the slab is bytes
abbrev pub numbers_in : Tables → Tables
numbers_in b =
    tables (numbers_of b.branches) (numbers_of b.records) (numbers_of b.places) (numbers_of b.names) b.slab

-- tables of numbers as bytes
abbrev pub bytes_in : Tables → Tables
bytes_in t = tables (bytes_of t.branches) (bytes_of t.records) (bytes_of t.places) (bytes_of t.names) t.slab

-- n bytes are a whole number of rows of `width` numbers, and at most `most` rows
abbrev pub rows_fit : ℕ → ℕ → ℕ → Bool
rows_fit width most n = eqb (n % (width * 4)) 0 && leb n (width * 4 * most)

-- a head of h bytes is six numbers; tables of b, r and p bytes are whole rows, no more than may be lent; a name table of n bytes is 32 rows
unfoldable pub lengths_fit : ℕ → ℕ → ℕ → ℕ → ℕ → Bool
lengths_fit h b r p n =
    eqb h 24 && (rows_fit branch_width 4096 b && (rows_fit record_width 65536 r && (rows_fit 1 65536 p && eqb n (32 * name_width * 4))))

-- tables of bytes have four for each number of the tables of numbers
pub record Room (b t : Tables) : Type 0 where
  pub branches : length b.branches ≡ length t.branches * 4
  pub records : length b.records ≡ length t.records * 4
  pub places : length b.places ≡ length t.places * 4
  pub names : length b.names ≡ length t.names * 4

-- tables of numbers were written to tables of bytes
pub record Saved (t b : Tables) : Type 0 where
  pub branches : Written t.branches b.branches
  pub records : Written t.records b.records
  pub places : Written t.places b.places
  pub names : Written t.names b.names
