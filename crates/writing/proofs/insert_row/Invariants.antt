use mathlib.Core.Path.{◌≡◌}
use lib.ListN.{length}
use Rattle.rows.specs.Rows.{record_rows_of, RecordsLaid}
use Rattle.writing.proofs.Shift.{Moved}
use Rattle.writing.proofs.insert_row.Given as goal

abbrev pub invariant-loop-k : goal.invariant-loop-k
invariant-loop-k l = Moved (record_rows_of l.initial.rt) (record_rows_of l.rt) l.n l.at l.k × (length l.rt ≡ length l.initial.rt) × RecordsLaid l.initial.rt (record_rows_of l.rt) l.rt
