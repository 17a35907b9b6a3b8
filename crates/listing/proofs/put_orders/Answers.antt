use mathlib.Core.Path.{◌≡◌, refl, ap, ◌∙◌}
use mathlib.Core.List.{List, ◌∷◌}
use Prim.Native.Nat.{ℕ, ◌-◌, ◌*◌, ◌≤◌}
use native.Mathlib.Omega.{arith}
use lib.ListN.{length, drop}
use lib.Seq.{sets, length-sets}
use Rattle.model.specs.declared.Branch.{Branch}
use Rattle.model.specs.Wire.{bytes}
use Rattle.model.specs.ByNumber.{branch, newest_of}
use Rattle.rows.specs.Rows.{branch_rows_of}
use Rattle.work_orders.specs.Orders.{orders_in, order_bytes, listed_in}
use Rattle.listing.proofs.Walking.{walk_low, walk_high, walk_on, walked, left_short, left_next, left_none, listed_more}
use Rattle.listing.proofs.put_orders.Goals as goal
use Rattle.listing.proofs.put_orders.Goals.{In-loop-i}

-- the work orders of the moment
abbrev wanted : In-loop-i → List ℕ
wanted c = orders_in (newest_of (branch_rows_of c.args.bt.now) c.args.n) c.args.when

-- the next of them is that of a row that holds the moment
next_is : (c : In-loop-i) (b : Branch) → b ≡ branch (branch_rows_of c.args.bt.now) (c.loop-i.i - 1) → b.start ≤ c.loop-i.t → c.loop-i.t ≤ b.end
    → drop c.loop-i.k (wanted c) ≡ b.order ∷ orders_in (newest_of (branch_rows_of c.args.bt.now) (c.loop-i.i - 1)) b.cut
next_is c b e l h =
    c.loop-i.invariant.left ∙ walk_on c.args.bt.now c.args.n c.loop-i.i c.loop-i.t c.requires.branches_in c.loop-i.auto.i c.loop-i-test.true b e l h

pub loop-i-init : goal.loop-i-init
unfolding order_bytes
loop-i-init c = record { long = refl; left = refl; listed = refl }

pub loop-i-preserved-then-t-b : goal.loop-i-preserved-then-t-b
loop-i-preserved-then-t-b c =
    let w = walk_low c.args.bt.now c.args.n c.loop-i.i c.loop-i.t c.requires.branches_in c.loop-i.auto.i c.loop-i-test.true c.branch_at-b.result c.branch_at-b.ensures c.if-t-b.true in
    record { long = c.loop-i.invariant.long; left = c.loop-i.invariant.left ∙ w; listed = c.loop-i.invariant.listed }

pub loop-i-preserved-then-b-t : goal.loop-i-preserved-then-b-t
loop-i-preserved-then-b-t c =
    let w = walk_high c.args.bt.now c.args.n c.loop-i.i c.loop-i.t c.requires.branches_in c.loop-i.auto.i c.loop-i-test.true c.branch_at-b.result c.branch_at-b.ensures c.if-b-t.true in
    record { long = c.loop-i.invariant.long; left = c.loop-i.invariant.left ∙ w; listed = c.loop-i.invariant.listed }

pub put_order-requires : goal.put_order-requires
put_order-requires c =
    let e = next_is (goal.at.put_order-requires c).In-loop-i c.branch_at-b.result c.branch_at-b.ensures c.if-t-b.false c.if-b-t.false in
    omega (arith, left_short _ c.loop-i.k _ _ e, c.requires.when_in_bounds, c.loop-i.invariant.long)

pub overflow_add-k : goal.overflow_add-k
overflow_add-k c =
    let e = next_is (goal.at.overflow_add-k c).In-loop-i c.branch_at-b.result c.branch_at-b.ensures c.if-t-b.false c.if-b-t.false in
    omega (arith, left_short _ c.loop-i.k _ _ e, c.requires.when_in_bounds)

pub loop-i-preserved : goal.loop-i-preserved
loop-i-preserved c =
    let e = next_is (goal.at.loop-i-preserved c).In-loop-i c.branch_at-b.result c.branch_at-b.ensures c.if-t-b.false c.if-b-t.false in
    let w : ℕ = c.branch_at-b.result.order in
    record {
      long = ap length c.put_order.ensures ∙ (length-sets c.loop-i.list (c.loop-i.k * 2) (bytes 2 w) ∙ c.loop-i.invariant.long);
      left = left_next _ c.loop-i.k w _ e;
      listed = c.put_order.ensures ∙ (ap (λ (x : List ℕ). sets x (c.loop-i.k * 2) (bytes 2 w)) c.loop-i.invariant.listed ∙ listed_more _ c.args.list.now c.loop-i.k w _ e c.requires.when_in_bounds);
    }

pub returns : goal.returns
returns c =
    let z = walked (branch_rows_of c.args.bt.now) c.loop-i.i c.loop-i.t (omega arith) in
    c.loop-i.invariant.listed ∙ ap (λ (x : List ℕ). listed_in x c.args.list.now) (left_none _ c.loop-i.k (c.loop-i.invariant.left ∙ z))
