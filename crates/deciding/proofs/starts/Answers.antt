use mathlib.Core.Path.{ap}
use native.Mathlib.Omega.{arith}
use lib.ListN.{length-set}
use Rattle.model.specs.declared.Branch.{Branch}
use Rattle.rows.specs.Rows.{branch_rows_of}
use Rattle.rows.proofs.Laws.{branch_count}
use Rattle.deciding.proofs.Keeping.{gather_start, gather_old, gather_new, gather_end}
use Rattle.deciding.proofs.starts.Goals as goal

pub loop-i-init : goal.loop-i-init
loop-i-init c = gather_start (branch_rows_of c.args.bt.now) c.args.n c.args.floor c.args.table.now (omega arith)

pub loop-i-preserved-then-b-floor : goal.loop-i-preserved-then-b-floor
loop-i-preserved-then-b-floor c =
    gather_old c.loop-i.invariant c.loop-i-test.true (omega (arith, branch_count c.args.bt.now)) (omega (arith, ap (λ (b : Branch). b.start) c.branch_at-b.ensures))

pub loop-i-preserved : goal.loop-i-preserved
loop-i-preserved c =
    let start = ap (λ (b : Branch). b.start) c.branch_at-b.ensures in
    gather_new c.loop-i.invariant c.loop-i-test.true (omega (arith, branch_count c.args.bt.now)) start (omega (arith, start)) (omega (arith, length-set c.args.table.now 0 c.args.floor))

pub returns : goal.returns
returns c = gather_end c.loop-i.invariant c.loop-i-test.false (omega arith)
