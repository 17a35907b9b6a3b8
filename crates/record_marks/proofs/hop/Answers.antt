use Rattle.std.proofs.Common.{arith}
use Rattle.record_marks.specs.Marks.{stay, more}
use Rattle.record_marks.proofs.Taking.{end_at, is_owner}
use Rattle.record_marks.proofs.hop.Goals as goal

pub loop-p-init : goal.loop-p-init
loop-p-init c = stay

pub loop-p-smaller : goal.loop-p-smaller
loop-p-smaller c = omega (arith, c.requires.onward.up c.loop-p.p (is_owner c.args.taken.now c.loop-p.p c.args.a c.if-v-a.false c.if-v-eq0.false), end_at c.args.taken.now c.loop-p.p)

pub loop-p-preserved : goal.loop-p-preserved
loop-p-preserved c = more c.loop-p.invariant (is_owner c.args.taken.now c.loop-p.p c.args.a c.if-v-a.false c.if-v-eq0.false) (end_at c.args.taken.now c.loop-p.p)
