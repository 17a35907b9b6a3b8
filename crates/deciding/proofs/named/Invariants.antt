use Prim.Native.Nat.{◌+◌}
use lib.ListN.{take}
use Rattle.model.specs.Store.{moments}
use Rattle.rows.specs.Rows.{name_rows_of}
use Rattle.deciding.specs.Deciding.{Behind}
use Rattle.deciding.proofs.named.Given as goal

-- `deciding::named` meets its contract: the moments of the first j names stand behind the first c numbers.
abbrev pub invariant-loop-j : goal.invariant-loop-j
invariant-loop-j l = Behind (moments (take l.j (name_rows_of l.nt))) l.c (l.c + l.j) l.initial.table l.table
