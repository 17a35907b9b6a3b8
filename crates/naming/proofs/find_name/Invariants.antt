use Prim.Native.Nat.{◌+◌}
use mathlib.Core.Path.{◌≡◌}
use lib.ListN.{take, drop}
use Rattle.rows.specs.Rows.{name_rows_of}
use Rattle.naming.specs.Naming.{index_of}
use Rattle.naming.proofs.find_name.Given as goal

abbrev pub invariant-loop-i : goal.invariant-loop-i
invariant-loop-i l =
    l.from + index_of l.high l.low (drop l.from (take l.n (name_rows_of l.nt))) ≡ l.i + index_of l.high l.low (drop l.i (take l.n (name_rows_of l.nt)))
