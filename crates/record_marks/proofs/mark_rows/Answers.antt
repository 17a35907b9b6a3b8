-- Each turn looks at the row before k; a span that is not empty is taken at its begin.
use Rattle.std.proofs.Common.{arith}
use Rattle.rows.proofs.Laws.{branch_count, record_count}
use Rattle.spans.proofs.Tabling.{none_ranged}
use Rattle.record_marks.proofs.Taking.{turning_start, turning_skip, turning_take, turning_end}
use Rattle.record_marks.proofs.mark_rows.Goals as goal

pub loop-k-init : goal.loop-k-init
loop-k-init c = record { turning = turning_start c.requires.blank; ranged = rw c.no_span-s.ensures (none_ranged c.requires.branches_in.1) }

pub loop-k-preserved-then-hi-lo : goal.loop-k-preserved-then-hi-lo
loop-k-preserved-then-hi-lo c =
    let q = c.requires in
    record {
      turning =
          turning_skip q.line (omega (arith, branch_count c.args.bt.now)) q.ascend (omega (arith, record_count c.args.rt.now)) q.placed q.tree q.sums q.firsts
          c.loop-k.invariant.turning c.loop-k-test.true (omega arith) (omega arith) c.record_at-r.ensures c.span_near-s.ensures c.if-hi-lo.true;
      ranged = c.span_near-s.ensures.ranged;
    }

pub loop-k-preserved : goal.loop-k-preserved
loop-k-preserved c =
    let q = c.requires in
    let f = c.if-hi-lo.false in
    record {
      turning =
          turning_take q.line (omega (arith, branch_count c.args.bt.now)) q.ascend (omega (arith, record_count c.args.rt.now)) q.placed q.tree q.sums q.firsts
          c.loop-k.invariant.turning c.loop-k-test.true (omega arith) (omega arith) c.record_at-r.ensures c.span_near-s.ensures f (omega arith) (omega arith) c.hop-p.ensures;
      ranged = c.span_near-s.ensures.ranged;
    }

pub returns-clause-given_by : goal.returns-clause-given_by
returns-clause-given_by c =
    let q = c.requires in
    turning_end q.line (omega (arith, branch_count c.args.bt.now)) q.ascend (omega (arith, record_count c.args.rt.now)) q.placed q.tree q.sums q.firsts c.loop-k.invariant.turning c.loop-k-test.false
