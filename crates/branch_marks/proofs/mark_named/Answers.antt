use native.Mathlib.Omega.{arith}
use Rattle.rows.specs.Rows.{branch_rows_of, name_rows_of}
use Rattle.rows.proofs.Laws.{name_count}
use Rattle.branch_marks.proofs.Staying.{held_none, name_step, name_in}
use Rattle.branch_marks.proofs.mark_named.Goals as goal

pub loop-q-init : goal.loop-q-init
loop-q-init c = (c.requires.branches_in.1, held_none (branch_rows_of c.args.bt.now))

pub row_near-i-requires-clause-m_value : goal.row_near-i-requires-clause-m_value
row_near-i-requires-clause-m_value c =
    rw c.name_at-name.ensures (c.requires.held.each _ (name_in (name_rows_of c.args.nt.now) c.args.k c.loop-q.q c.loop-q-test.true (omega (arith, name_count c.args.nt.now))))

pub loop-q-preserved : goal.loop-q-preserved
loop-q-preserved c = (
  c.row_near-i.ensures.inside,
  name_step (name_rows_of c.args.nt.now) c.loop-q.q c.args.marks.now (omega (arith, name_count c.args.nt.now)) c.requires.stairs c.requires.branches_in.3 c.name_at-name.ensures c.row_near-i.ensures c.loop-q.invariant.1,
)
