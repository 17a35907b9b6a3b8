use mathlib.Core.Path.{◌≡◌}
use Rattle.model.specs.ByNumber.{newest_of}
use Rattle.rows.specs.Rows.{branch_rows_of}
use Rattle.holding.specs.Search.{unbroken}
use Rattle.holding.proofs.unbroken_from.Given as goal

-- the first i rows leave the same last gap as all
abbrev pub invariant-loop-i : goal.invariant-loop-i
invariant-loop-i l = unbroken (newest_of (branch_rows_of l.bt) l.i) ≡ unbroken (newest_of (branch_rows_of l.bt) l.initial.i)
