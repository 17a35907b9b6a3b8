-- From the last event to the first: at a row that hangs, the reads are within the tables, and its first number follows from its parent's.
use Rattle.std.proofs.Common.{ℕ, get_or, ◌-◌, ◌%◌, length-set, get_or-set_same, arith}
use Rattle.rows.specs.Rows.{branch_rows_of}
use Rattle.rows.proofs.Laws.{branch_count}
use Rattle.branch_marks.proofs.Marking.{rest_start, rest_set}
use Rattle.spans.proofs.Tabling.{when_is, firsts_start, turn_skip, Turned, turned}
use Rattle.spans.proofs.number_rows.Goals.{After-row_near-p}
use Rattle.spans.proofs.number_rows.Goals as goal

-- a row hangs at the event
turns : (c : After-row_near-p) → Turned (branch_rows_of c.args.bt.now) c.args.n c.args.keys.now c.args.ne c.args.sums.now (c.loop-k.k - 1) (get_or c.args.keys.now (c.loop-k.k - 1) 0 % 4294967296) c.row_near-p.result (get_or c.args.edges.now c.row_near-p.result 0) c.loop-k.firsts
turns c =
    let q = c.requires in
    turned q.line (omega (arith, branch_count c.args.bt.now)) q.tree q.sums q.branches_in.1 c.loop-k-test.true (omega arith) c.loop-k.invariant.firsts q.edges c.if-j-eq0.false c.row_near-p.ensures

pub loop-k-init : goal.loop-k-init
loop-k-init c =
    let q = c.requires in
    record {
      firsts = firsts_start q.line (omega (arith, branch_count c.args.bt.now)) q.tree q.sums q.branches_in.1 (get_or-set_same c.args.firsts.now 0 0 0 (omega arith));
      rest = rest_start;
      near = omega arith;
    }

pub loop-k-preserved-then-j-eq0 : goal.loop-k-preserved-then-j-eq0
loop-k-preserved-then-j-eq0 c =
    let q = c.requires in
    let inv = c.loop-k.invariant in
    record { firsts = turn_skip q.line (omega (arith, branch_count c.args.bt.now)) q.tree q.sums q.branches_in.1 c.loop-k-test.true inv.firsts c.if-j-eq0.true; rest = inv.rest; near = inv.near }

pub row_near-p-requires-clause-m_value : goal.row_near-p-requires-clause-m_value
row_near-p-requires-clause-m_value c = rw (when_is c.args.keys.now (c.loop-k.k - 1)) (c.requires.tree.inside (c.loop-k.k - 1) (omega arith))

pub bounds-sums-first : goal.bounds-sums-first
bounds-sums-first c = let t = turns (goal.at.bounds-sums-first c).After-row_near-p in omega arith

pub overflow_sub-firsts : goal.overflow_sub-firsts
overflow_sub-firsts c = (turns (goal.at.overflow_sub-firsts c).After-row_near-p).up

pub overflow_add-firsts : goal.overflow_add-firsts
overflow_add-firsts c = let t = turns (goal.at.overflow_add-firsts c).After-row_near-p in omega arith

pub bounds-firsts-j : goal.bounds-firsts-j
bounds-firsts-j c = let t = turns (goal.at.bounds-firsts-j c).After-row_near-p in omega (arith, length-set {A = ℕ})

pub loop-k-preserved : goal.loop-k-preserved
loop-k-preserved c =
    let t = turns (goal.at.loop-k-preserved c).After-row_near-p in
    record { firsts = t.step (omega (arith, length-set {A = ℕ})); rest = rest_set _ _ c.loop-k.invariant.rest t.inside; near = c.row_near-p.ensures.inside }
