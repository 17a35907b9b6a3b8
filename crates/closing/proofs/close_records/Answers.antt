use borrow.Author.Tests.{eq-eqb, ne_eqb}
use Rattle.closing.proofs.Closing.{records_start, records_inside, records_drop, records_keep, records_end}
use Rattle.closing.proofs.close_records.Goals as goal
use Rattle.closing.proofs.close_records.Goals.{then-marks-i-eq1, else-marks-i-eq1}

pub loop-i-init : goal.loop-i-init
loop-i-init c = records_start

pub bounds-pt-p : goal.bounds-pt-p
bounds-pt-p c = records_inside c.requires.names c.loop-i.invariant c.requires.n_bound.1 c.loop-i-test.true c.record_at-r.ensures

pub bounds-pt-p-else-marks-i-eq1 : goal.bounds-pt-p-else-marks-i-eq1
bounds-pt-p-else-marks-i-eq1 c = records_inside c.requires.names c.loop-i.invariant c.requires.n_bound.1 c.loop-i-test.true c.record_at-r.ensures

pub loop-i-preserved : goal.loop-i-preserved
loop-i-preserved c =
    elim c.if-marks-i-eq1.branch [
      | then-marks-i-eq1 w ↦ rw (w.rt-is, w.pt-is, w.w-is) (records_keep c.requires.names c.loop-i.invariant c.requires.n_bound.1 c.loop-i-test.true c.record_at-r.ensures c.set_record.ensures (eq-eqb _ 1 w.if-marks-i-eq1.true) w.set_record-then-marks-i-eq1.ensures)
      | else-marks-i-eq1 w ↦ rw (w.rt-is, w.pt-is, w.w-is) (records_drop c.requires.names c.loop-i.invariant c.requires.n_bound.1 c.loop-i-test.true c.record_at-r.ensures c.set_record.ensures (ne_eqb _ 1 w.if-marks-i-eq1.false))
    ]

pub returns : goal.returns
returns c = records_end c.requires.names c.loop-i.invariant c.loop-i-test.false
