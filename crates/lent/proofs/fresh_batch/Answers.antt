-- The batch is one on the store that was just made: `Starting.antt` says so in one step.
use Rattle.std.proofs.Common.{length}
use Rattle.live.specs.Live.{disk_of}
use Rattle.lent.specs.Lent.{lent, zero_rows}
use Rattle.lent.proofs.Starting.{then_batch, disk_made}
use Rattle.lent.proofs.fresh_batch.Goals as goal

pub returns-clause-batch_leaves : goal.returns-clause-batch_leaves
returns-clause-batch_leaves c =
    let s = c.args in
    let m = c.make_fresh in
    let b = c.run_batch-report in
    then_batch s.size (zero_rows s.rt.now s.pt.now s.nt.now s.slab.now) m.result m.new.head (lent m.new.branches m.new.rt m.new.pt m.new.nt s.slab.now) m.auto.rt m.auto.nt m.ensures (disk_of s.disk.now s.marks.now) s.input.now s.answers.now b.result b.new.head (lent b.new.branches b.new.rt b.new.pt b.new.nt b.new.slab) b.new.answers b.ensures.batch_leaves

pub returns-clause-marks_after : goal.returns-clause-marks_after
returns-clause-marks_after c =
    let s = c.args in
    let m = c.make_fresh in
    disk_made s.size (zero_rows s.rt.now s.pt.now s.nt.now s.slab.now) m.result m.new.head (lent m.new.branches m.new.rt m.new.pt m.new.nt s.slab.now) m.auto.rt m.auto.nt m.ensures (disk_of s.disk.now s.marks.now) s.input.now (length s.answers.now) c.run_batch-report.ensures.marks_after
