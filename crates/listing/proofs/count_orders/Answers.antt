use mathlib.Core.Path.{ap}
use native.Mathlib.Omega.{arith}
use lib.ListN.{length}
use Rattle.rows.specs.Rows.{branch_rows_of}
use Rattle.listing.proofs.Walking.{walk_low, walk_high, walk_on, walked}
use Rattle.listing.proofs.count_orders.Goals as goal

pub loop-i-preserved-then-t-b : goal.loop-i-preserved-then-t-b
loop-i-preserved-then-t-b c =
    let w = walk_low c.args.bt.now c.args.n c.loop-i.i c.loop-i.t c.requires c.loop-i.auto.i c.loop-i-test.true c.branch_at-b.result c.branch_at-b.ensures c.if-t-b.true in
    record { few = omega arith; left = omega (arith, ap length w) }

pub loop-i-preserved-then-b-t : goal.loop-i-preserved-then-b-t
loop-i-preserved-then-b-t c =
    let w = walk_high c.args.bt.now c.args.n c.loop-i.i c.loop-i.t c.requires c.loop-i.auto.i c.loop-i-test.true c.branch_at-b.result c.branch_at-b.ensures c.if-b-t.true in
    record { few = omega arith; left = omega (arith, ap length w) }

pub loop-i-preserved : goal.loop-i-preserved
loop-i-preserved c =
    let w =
    walk_on c.args.bt.now c.args.n c.loop-i.i c.loop-i.t c.requires c.loop-i.auto.i c.loop-i-test.true c.branch_at-b.result c.branch_at-b.ensures c.if-t-b.false c.if-b-t.false in
    record { few = omega arith; left = omega (arith, ap length w) }

pub returns : goal.returns
returns c =
    omega (arith, ap length (walked (branch_rows_of c.args.bt.now) c.loop-i.i c.loop-i.t (omega arith)))
