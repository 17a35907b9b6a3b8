use native.Mathlib.Omega.{arith}
use Rattle.rows.proofs.Laws.{branch_count}
use Rattle.branch_marks.proofs.Holders.{row_here, row_before}
use Rattle.branch_marks.proofs.row_near.Goals as goal

pub returns-then-m-b : goal.returns-then-m-b
returns-then-m-b c =
    row_here c.requires.stairs c.requires.branches_in.1 c.branch_at-b.ensures c.if-b-m.true c.if-m-b.true

pub returns-then-d-m : goal.returns-then-d-m
returns-then-d-m c =
    row_before c.requires.stairs (omega (arith, branch_count c.args.bt.now)) c.requires.m_value c.requires.branches_in.1 c.if-i-eq0.false c.branch_at-b.ensures c.if-b-m.false c.branch_at-d.ensures c.if-d-m.true
