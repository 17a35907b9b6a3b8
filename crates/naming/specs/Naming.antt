-- Where a name stands, and names that close up.
use Rattle.std.specs.Prelude.{◌≡◌, List, [], ◌∷◌, cond, ℕ, suc, length, take}
use Rattle.model.specs.declared.Head.{Head}
use Rattle.model.specs.declared.Name.{Name}
use Rattle.model.specs.Store.{is_called, without, zero_name}
use Rattle.model.specs.Step.{closed_up}
use Rattle.rows.specs.Rows.{name_rows_of, NamesLaid}

-- how many rows stand before the first that has this name
unfoldable pub index_of : ℕ → ℕ → List Name → ℕ
index_of high low [] = 0
index_of high low (n ∷ ns) = cond (is_called high low n) 0 (suc (index_of high low ns))

-- the head with another count of names
abbrev pub with_count : Head → ℕ → Head
with_count h count = record { size = h.size; branches = h.branches; records = h.records; now = h.now; floor = h.floor; names = count }

-- of n names in the table nt those that are called otherwise close up in order: w are left, and the table nt'
pub record ClosedNames (high low n : ℕ) (nt nt' : List ℕ) (w : ℕ) : Type 0 where
  pub table : NamesLaid nt (closed_up zero_name (without high low (take n (name_rows_of nt))) n (name_rows_of nt)) nt'
  pub count : w ≡ length (without high low (take n (name_rows_of nt)))
