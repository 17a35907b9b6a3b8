use Prim.Native.Nat.{◌≤◌}
use Rattle.rows.specs.Rows.{branch_rows_of}
use Rattle.spans.specs.Order.{first_of}
use Rattle.spans.proofs.Tabling.{Edging}
use Rattle.spans.proofs.edge_rows.Given as goal

-- `spans::edge_rows` meets its contract: newest to oldest, each edge near the one before it.
abbrev pub invariant-loop-i : goal.invariant-loop-i
invariant-loop-i l = (l.c ≤ l.ne) × Edging (first_of (branch_rows_of l.bt) l.keys l.ne) l.n l.i l.initial.edges l.edges
