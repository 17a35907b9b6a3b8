use borrow.Author.Tests.{eq-eqb, ne_eqb}
use Rattle.cuts.proofs.Recutting.{cut_start, cut_end, cut_stairs, cut_held, cut_stays, cut_goes}
use Rattle.cuts.proofs.take_over.Goals as goal

pub loop-i-init : goal.loop-i-init
loop-i-init c = cut_start

pub row_near-p-requires-clause-stairs : goal.row_near-p-requires-clause-stairs
row_near-p-requires-clause-stairs c = cut_stairs c.requires.line c.requires.branches_in.0 c.loop-i.invariant c.loop-i-test.true

pub row_near-p-requires-clause-m_value : goal.row_near-p-requires-clause-m_value
row_near-p-requires-clause-m_value c = cut_held c.requires.line c.requires.branches_in.0 c.loop-i.invariant c.loop-i-test.true c.branch_at-b.ensures

pub loop-i-preserved-then-marks-p-eq1 : goal.loop-i-preserved-then-marks-p-eq1
loop-i-preserved-then-marks-p-eq1 c =
    cut_stays c.requires.line c.requires.branches_in.0 c.loop-i.invariant c.loop-i-test.true c.branch_at-b.ensures c.row_near-p.ensures (eq-eqb _ 1 c.if-marks-p-eq1.true)

pub loop-i-preserved : goal.loop-i-preserved
loop-i-preserved c =
    cut_goes c.requires.line c.requires.branches_in.0 c.loop-i.invariant c.loop-i-test.true c.branch_at-b.ensures c.row_near-p.ensures (ne_eqb _ 1 c.if-marks-p-eq1.false) c.branch_at-d.ensures c.set_branch.ensures

pub returns : goal.returns
returns c = cut_end c.loop-i.invariant c.loop-i.auto.i-end c.loop-i-test.false
