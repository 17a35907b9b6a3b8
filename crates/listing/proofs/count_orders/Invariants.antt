use mathlib.Core.Path.{◌≡◌}
use Prim.Native.Nat.{◌+◌, ◌≤◌}
use lib.ListN.{length}
use Rattle.model.specs.ByNumber.{newest_of}
use Rattle.rows.specs.Rows.{branch_rows_of}
use Rattle.work_orders.specs.Orders.{orders_in}
use Rattle.listing.proofs.count_orders.Given as goal

-- what is counted, and what is left to count, are the work orders of the moment
abbrev pub invariant-loop-i : goal.invariant-loop-i
invariant-loop-i l = record {
  few : l.count + l.i ≤ l.n;
  left : l.count + length (orders_in (newest_of (branch_rows_of l.bt) l.i) l.t) ≡ length (orders_in (newest_of (branch_rows_of l.bt) l.n) l.when);
}
