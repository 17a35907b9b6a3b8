use Rattle.std.proofs.Common.{◌-◌, arith}
use Rattle.rows.specs.Rows.{branch_rows_of}
use Rattle.spans.proofs.Framing.{above_within}
use Rattle.spans.proofs.Tabling.{edge_is, edging_step}
use Rattle.spans.proofs.edge_rows.Goals as goal

pub overflow_cast-edges : goal.overflow_cast-edges
overflow_cast-edges c = omega (arith, above_within)

pub loop-i-preserved : goal.loop-i-preserved
loop-i-preserved c = (
  omega (arith, above_within),
  edging_step c.loop-i.invariant.1 c.loop-i-test.true (omega arith) (edge_is (branch_rows_of c.args.bt.now) c.args.keys.now c.args.ne (c.loop-i.i - 1) c.branch_at-b.ensures c.above_near-c.ensures),
)
