use borrow.Author.Tests.{eq-eqb, ne_eqb}
use Rattle.rows.proofs.Laws.{branch_kind}
use Rattle.closing.proofs.Closing.{closes_start, closes_drop, closes_keep, going_end}
use Rattle.closing.proofs.close_branches.Goals as goal
use Rattle.closing.proofs.close_branches.Goals.{then-marks-i-eq1, else-marks-i-eq1}

pub loop-i-init : goal.loop-i-init
loop-i-init c = closes_start branch_kind

pub loop-i-preserved : goal.loop-i-preserved
loop-i-preserved c =
    elim c.if-marks-i-eq1.branch [
      | then-marks-i-eq1 w ↦ rw (w.bt-is, w.w-is) (closes_keep branch_kind c.requires.0 c.loop-i.invariant c.loop-i-test.true c.set_branch.ensures (eq-eqb _ 1 w.if-marks-i-eq1.true) c.branch_at-b.ensures w.set_branch-then-marks-i-eq1.ensures)
      | else-marks-i-eq1 w ↦ rw (w.bt-is, w.w-is) (closes_drop branch_kind c.requires.0 c.loop-i.invariant c.loop-i-test.true c.set_branch.ensures (ne_eqb _ 1 w.if-marks-i-eq1.false))
    ]

pub returns : goal.returns
returns c =
    let g = going_end c.loop-i.invariant.going c.loop-i-test.false in
    record { table = rw g.0 at c.loop-i.invariant.laid; count = g.1 }
