use native.Mathlib.Omega.{arith}
use Rattle.rows.specs.Rows.{branch_rows_of}
use Rattle.rows.proofs.Laws.{branch_count}
use Rattle.branch_marks.proofs.Holders.{between_start, between_up, between_down, between_end}
use Rattle.branch_marks.proofs.row_holding.Goals as goal

pub loop-lo-init : goal.loop-lo-init
loop-lo-init c = between_start (branch_rows_of c.args.bt.now) c.args.n c.args.t (omega (arith, branch_count c.args.bt.now)) c.requires.t_value

pub loop-lo-preserved-then-b-t : goal.loop-lo-preserved-then-b-t
loop-lo-preserved-then-b-t c = between_up c.loop-lo.invariant c.requires.stairs (omega arith) c.branch_at-b.ensures (omega (arith, c.if-b-t.true))

pub loop-lo-preserved : goal.loop-lo-preserved
loop-lo-preserved c = between_down c.loop-lo.invariant c.requires.stairs (omega arith) c.branch_at-b.ensures (omega (arith, c.if-b-t.false))

pub returns : goal.returns
returns c = between_end c.loop-lo.invariant c.loop-lo-test.false
