use native.Mathlib.Omega.{arith}
use Rattle.model.specs.Store.{keep}
use Rattle.rows.specs.Rows.{branch_rows_of, record_rows_of}
use Rattle.rows.proofs.Laws.{record_count}
use Rattle.closing.specs.Closed.{keep_by}
use Rattle.branch_marks.proofs.Staying.{held_none, older_gone, older_young, older_step}
use Rattle.branch_marks.proofs.mark_kept.Goals as goal

pub loop-j-init : goal.loop-j-init
unfolding keep_by keep
loop-j-init c = (c.requires.branches_in.1, held_none (branch_rows_of c.args.bt.now))

pub loop-j-preserved-then-byte-ne1 : goal.loop-j-preserved-then-byte-ne1
loop-j-preserved-then-byte-ne1 c = (
  c.loop-j.invariant.0,
  rw (older_gone c.args.floor c.args.kept.now (record_rows_of c.args.rt.now) c.loop-j.j (omega (arith, record_count c.args.rt.now)) c.if-byte-ne1.true) c.loop-j.invariant.1,
)

pub loop-j-preserved-then-floor-r : goal.loop-j-preserved-then-floor-r
loop-j-preserved-then-floor-r c = (
  c.loop-j.invariant.0,
  rw (older_young c.args.floor c.args.kept.now (record_rows_of c.args.rt.now) c.loop-j.j (omega (arith, record_count c.args.rt.now)) c.if-byte-ne1.false (rw c.record_at-r.ensures at c.if-floor-r.true)) c.loop-j.invariant.1,
)

pub loop-j-preserved : goal.loop-j-preserved
loop-j-preserved c = (
  c.row_near-i.ensures.inside,
  older_step c.args.floor c.args.kept.now (record_rows_of c.args.rt.now) c.loop-j.j (omega (arith, record_count c.args.rt.now)) c.args.marks.now c.if-byte-ne1.false c.requires.stairs c.requires.branches_in.4 c.record_at-r.ensures c.if-floor-r.false c.row_near-i.ensures c.loop-j.invariant.1,
)
