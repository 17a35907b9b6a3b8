-- A wanted moment counts 1; at a row that hangs, the reads are within the tables, and the difference is that of its events.
use Rattle.std.proofs.Common.{ℕ, get_or, ◌-◌, ◌%◌, length-set, arith}
use Rattle.rows.specs.Rows.{branch_rows_of}
use Rattle.rows.proofs.Laws.{branch_count}
use Rattle.branch_marks.proofs.Marking.{rest_set}
use Rattle.spans.proofs.Tabling.{Ready, ready, next_leaf}
use Rattle.spans.proofs.sum_up.Goals.{Else-j-eq0}
use Rattle.spans.proofs.sum_up.Goals as goal

-- a row hangs at the event
abbrev row : Else-j-eq0 → ℕ
row c = get_or c.args.keys.now c.loop-k.k 0 % 4294967296

hangs : (c : Else-j-eq0) → Ready (branch_rows_of c.args.bt.now) c.args.n c.args.keys.now c.args.ne c.loop-k.k c.loop-k.sums (row c) (get_or c.args.edges.now (row c) 0) (get_or c.args.edges.now (row c - 1) 0)
hangs c = ready c.requires.line (omega (arith, branch_count c.args.bt.now)) c.requires.tree c.loop-k-test.true c.loop-k.invariant.sums c.requires.edges c.if-j-eq0.false

pub loop-k-preserved-then-j-eq0 : goal.loop-k-preserved-then-j-eq0
loop-k-preserved-then-j-eq0 c =
    let inv = c.loop-k.invariant in
    record {
      sums = next_leaf c.requires.line (omega (arith, branch_count c.args.bt.now)) c.requires.tree c.loop-k-test.true inv.sums c.if-j-eq0.true (omega (arith, length-set {A = ℕ})) (omega arith);
      rest = rest_set _ _ inv.rest (omega arith);
    }

pub bounds-edges-j : goal.bounds-edges-j
bounds-edges-j c = let h = hangs (goal.at.bounds-edges-j c).Else-j-eq0 in omega arith

pub bounds-edges-j-in-loop-k : goal.bounds-edges-j-in-loop-k
bounds-edges-j-in-loop-k c = let h = hangs (goal.at.bounds-edges-j-in-loop-k c).Else-j-eq0 in omega arith

pub bounds-sums-past : goal.bounds-sums-past
bounds-sums-past c = let h = hangs (goal.at.bounds-sums-past c).Else-j-eq0 in omega (arith, length-set {A = ℕ})

pub bounds-sums-first : goal.bounds-sums-first
bounds-sums-first c = let h = hangs (goal.at.bounds-sums-first c).Else-j-eq0 in omega (arith, length-set {A = ℕ})

pub overflow_sub-sums : goal.overflow_sub-sums
overflow_sub-sums c = (hangs (goal.at.overflow_sub-sums c).Else-j-eq0).up

pub overflow_add-sums-in-loop-k : goal.overflow_add-sums-in-loop-k
overflow_add-sums-in-loop-k c =
    let h = hangs (goal.at.overflow_add-sums-in-loop-k c).Else-j-eq0 in omega (arith, c.loop-k.invariant.sums.small c.loop-k.k (omega arith))

pub loop-k-preserved : goal.loop-k-preserved
loop-k-preserved c =
    let h = hangs (goal.at.loop-k-preserved c).Else-j-eq0 in
    record { sums = h.step (omega (arith, length-set {A = ℕ})) (omega arith); rest = rest_set _ _ c.loop-k.invariant.rest (omega arith) }
