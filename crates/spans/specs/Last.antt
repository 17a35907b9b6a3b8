-- The last row that passes a test. A row number counts from 1; 0 stands for none.
use Rattle.std.specs.Prelude.{List, Bool, cond, ℕ, zero, suc}
use Rattle.std.proofs.Math.Option.{Option, some, none}
use Rattle.model.specs.declared.Record.{Record}
use Rattle.model.specs.ByNumber.{entry}

-- the record that a row number names
abbrev pub record_no : List Record → ℕ → Option Record
record_no rs zero = none
record_no rs (suc k) = some (entry rs k)

-- the first of two row numbers, or else the second
abbrev pub or_row : ℕ → ℕ → ℕ
or_row zero o = o
or_row (suc k) o = suc k

-- the number of the last row below n that passes a test
unfoldable pub last_row : (ℕ → Bool) → ℕ → ℕ
last_row p zero = zero
last_row p (suc k) = cond (p k) (suc k) (last_row p k)
