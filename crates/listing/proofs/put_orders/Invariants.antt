use mathlib.Core.Path.{◌≡◌}
use lib.ListN.{length, take, drop}
use Rattle.model.specs.ByNumber.{newest_of}
use Rattle.rows.specs.Rows.{branch_rows_of}
use Rattle.work_orders.specs.Orders.{orders_in, listed_in}
use Rattle.listing.proofs.put_orders.Given as goal

-- of the work orders of the moment the first k are listed, and the others are those of what is left
abbrev pub invariant-loop-i : goal.invariant-loop-i
invariant-loop-i l = record {
  long : length l.list ≡ length l.initial.list;
  left : drop l.k (orders_in (newest_of (branch_rows_of l.bt) l.n) l.when) ≡ orders_in (newest_of (branch_rows_of l.bt) l.i) l.t;
  listed : l.list ≡ listed_in (take l.k (orders_in (newest_of (branch_rows_of l.bt) l.n) l.when)) l.initial.list;
}
