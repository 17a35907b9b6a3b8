use mathlib.Core.Path.{ap, sym, ◌∙◌}
use Prim.Native.Nat.{◌-◌, ◌<◌}
use native.Mathlib.Omega.{arith}
use Rattle.model.specs.declared.Branch.{Branch}
use Rattle.rows.specs.Rows.{branch_rows_of}
use Rattle.rows.proofs.Laws.{branch_count}
use Rattle.holding.proofs.Chain.{table_stairs, unbroken_few, unbroken_gap, unbroken_on}
use Rattle.holding.proofs.unbroken_from.Goals as goal

pub overflow_add-c : goal.overflow_add-c
overflow_add-c c =
    let stairs = table_stairs c.args.head.floor c.args.head.branches c.args.bt.now c.requires.branches_in c.requires.branches_value in
    let apart : c.branch_at-c.result.end < c.branch_at-b.result.start = rw (c.branch_at-b.ensures, c.branch_at-c.ensures) (stairs.apart (c.loop-i.i - 1 - 1) (c.loop-i.i - 1) (omega arith) (omega arith)) in
    omega arith

pub returns-then-b-c : goal.returns-then-b-c
returns-then-b-c c =
    let gap = unbroken_gap (branch_rows_of c.args.bt.now) c.loop-i.i c.loop-i-test.true (omega (arith, branch_count c.args.bt.now)) (rw (c.branch_at-b.ensures, c.branch_at-c.ensures) at c.if-b-c.true) in
    ap (λ (b : Branch). b.start) c.branch_at-b.ensures ∙ (sym gap ∙ c.loop-i.invariant)

pub loop-i-preserved : goal.loop-i-preserved
loop-i-preserved c =
    let on = unbroken_on (branch_rows_of c.args.bt.now) c.loop-i.i c.loop-i-test.true (omega (arith, branch_count c.args.bt.now)) (rw (c.branch_at-b.ensures, c.branch_at-c.ensures) at c.if-b-c.false) in
    sym on ∙ c.loop-i.invariant

pub returns : goal.returns
returns c =
    sym (unbroken_few (branch_rows_of c.args.bt.now) c.loop-i.i c.loop-i-test.false (omega (arith, branch_count c.args.bt.now))) ∙ c.loop-i.invariant
