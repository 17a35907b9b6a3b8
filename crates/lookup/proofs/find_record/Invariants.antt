use mathlib.Core.Path.{◌≡◌}
use Prim.Native.Nat.{◌≤◌}
use lib.ListN.{take}
use Rattle.model.specs.ByNumber.{find, newest_of}
use Rattle.rows.specs.Rows.{record_rows_of, branch_rows_of}
use Rattle.lookup.proofs.Walk.{Span}
use Rattle.lookup.proofs.find_record.Given as goal

abbrev pub invariant-recs : goal.invariant-recs
invariant-recs l = Span (record_rows_of l.rt) l.nr l.a l.j l.t

abbrev pub decreases-recs : goal.decreases-recs
decreases-recs l = l.j

abbrev pub invariant-rows : goal.invariant-rows
invariant-rows l =
    (l.i ≤ l.nb) × Span (record_rows_of l.rt) l.nr l.a l.j l.t × (find (take l.nr (record_rows_of l.rt)) l.a (newest_of (branch_rows_of l.bt) l.nb) l.when ≡ find (take l.nr (record_rows_of l.rt)) l.a (newest_of (branch_rows_of l.bt) l.i) l.t)

abbrev pub decreases-rows : goal.decreases-rows
decreases-rows l = l.i
