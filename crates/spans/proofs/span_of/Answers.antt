-- The span that the tables give is that of the moment, and of all of its row between two events.
use Rattle.std.proofs.Common.{get_or, arith}
use Rattle.rows.specs.Rows.{branch_rows_of}
use Rattle.rows.proofs.Laws.{branch_count}
use Rattle.spans.specs.Order.{span_low, span_high}
use Rattle.spans.proofs.Tabling.{Reads, spanned, ranged_low, ranged_high}
use Rattle.spans.proofs.span_of.Goals.{After-above_near-c}
use Rattle.spans.proofs.span_of.Goals as goal

-- what is read
reads : (c : After-above_near-c) → Reads c.above_near-c.result (get_or c.args.firsts.now c.row_near-i.result 0) (get_or c.args.edges.now c.row_near-i.result 0) (λ k. get_or c.args.sums.now k 0) c.args.ne (span_low (branch_rows_of c.args.bt.now) c.args.n c.args.firsts.now c.args.m) (span_high (branch_rows_of c.args.bt.now) c.args.n c.args.keys.now c.args.ne c.args.sums.now c.args.firsts.now c.args.m)
reads c =
    let q = c.requires in
    spanned q.line (omega (arith, branch_count c.args.bt.now)) q.tree q.sums (omega (arith, c.row_near-i.ensures.inside)) q.edges q.firsts c.row_near-i.ensures c.above_near-c.ensures

pub offset_bounds-sums-c : goal.offset_bounds-sums-c
offset_bounds-sums-c c = let r = reads (goal.at.offset_bounds-sums-c c).After-above_near-c in omega arith

pub bounds-sums-c : goal.bounds-sums-c
bounds-sums-c c = let r = reads (goal.at.bounds-sums-c c).After-above_near-c in omega arith

pub bounds-sums-first : goal.bounds-sums-first
bounds-sums-first c = let r = reads (goal.at.bounds-sums-first c).After-above_near-c in omega arith

pub overflow_sub-result : goal.overflow_sub-result
overflow_sub-result c = let r = reads (goal.at.overflow_sub-result c).After-above_near-c in omega arith

pub last_moment-requires : goal.last_moment-requires
last_moment-requires c = let r = reads (goal.at.last_moment-requires c).After-above_near-c in (omega (arith, c.row_near-i.ensures.inside), omega arith)

pub returns : goal.returns
returns c =
    let r = reads (goal.at.returns c).After-above_near-c in
    let i = c.row_near-i.result in
    let k = c.above_near-c.result in
    let within = c.row_near-i.ensures.inside in
    record {
      low = r.low_is;
      high = r.high_is;
      ranged =
          record {
            order = omega arith;
            within = r.small;
            row_in = within;
            at_in = r.early;
            low = λ t x y. ranged_low c.requires.line c.requires.tree i k within c.args.firsts.now t (omega arith) (omega arith);
            high = λ t x y. ranged_high c.requires.line c.requires.tree i k (get_or c.args.edges.now i 0) within r.early c.args.sums.now c.args.firsts.now (c.requires.edges.at i within) t (omega arith) (omega arith);
          };
    }
