use mathlib.Core.Path.{◌≡◌, refl, ap, sym, ◌∙◌}
use Prim.Native.Nat.{◌≤◌, ◌-◌}
use mathlib.Core.Option.{some}
use native.Mathlib.Omega.{arith}
use lib.ListN.{length, take}
use Rattle.model.specs.ByNumber.{Ascend}
use Rattle.model.specs.declared.Branch.{Branch}
use Rattle.model.specs.declared.Record.{Record}
use Rattle.rows.specs.Rows.{record_rows_of, branch_rows_of}
use Rattle.rows.proofs.Laws.{record_count, branch_count}
use Rattle.model.proofs.ByNumber.{asc_ascend}
use Rattle.lookup.proofs.Laws.{bracket_of}
use Rattle.lookup.proofs.Walk.{span_start, latest_here, latest_low, latest_other, latest_end, find_not, find_end, falls_at, Held, walk_found, walk_on}
use Rattle.lookup.proofs.find_record.Goals as goal

-- src/lib.rt:52:9
pub rows-init : goal.rows-init
rows-init c =
    let room : c.args.nr ≤ length (record_rows_of c.args.rt.now) = omega (arith, record_count c.args.rt.now, c.requires.branches_in) in
    let up : Ascend (record_rows_of c.args.rt.now) c.args.nr = asc_ascend (record_rows_of c.args.rt.now) c.args.nr (room) c.requires.asc in
    let rs = record_rows_of c.args.rt.now in (
      omega arith,
      span_start rs c.args.nr c.args.a (room) (up) c.up_to-j.result c.args.when
          (bracket_of rs c.args.nr c.args.a c.args.when (room) (up) _ c.up_to-j.ensures),
      refl,
    )

-- src/lib.rt:52:9
pub rows-preserved-then-t-b : goal.rows-preserved-then-t-b
rows-preserved-then-t-b c =
    let roomy : c.args.nb ≤ length (branch_rows_of c.args.bt.now) = omega (arith, branch_count c.args.bt.now, c.requires.branches_in) in
    let bs = branch_rows_of c.args.bt.now in
    let rs = record_rows_of c.args.rt.now in (
      omega arith,
      c.rows.invariant.1,
      c.rows.invariant.2 ∙ find_not (take c.args.nr rs) bs c.args.a c.rows.t (c.rows.i - 1) c.rows.i (omega arith) (omega (arith, roomy, c.rows.invariant.0))
          (λ z. omega (arith, z, ap (λ (b : Branch). b.start) c.branch_at-b.ensures, c.if-t-b)),
    )

-- src/lib.rt:52:9
pub rows-preserved-then-b-t : goal.rows-preserved-then-b-t
rows-preserved-then-b-t c =
    let roomy : c.args.nb ≤ length (branch_rows_of c.args.bt.now) = omega (arith, branch_count c.args.bt.now, c.requires.branches_in) in
    let bs = branch_rows_of c.args.bt.now in
    let rs = record_rows_of c.args.rt.now in (
      omega arith,
      c.rows.invariant.1,
      c.rows.invariant.2 ∙ find_not (take c.args.nr rs) bs c.args.a c.rows.t (c.rows.i - 1) c.rows.i (omega arith) (omega (arith, roomy, c.rows.invariant.0))
          (λ z. omega (arith, z, ap (λ (b : Branch). b.end) c.branch_at-b.ensures, c.if-b-t)),
    )

-- src/lib.rt:52:9
pub rows-preserved-after-recs : goal.rows-preserved-after-recs
rows-preserved-after-recs c =
    let room : c.args.nr ≤ length (record_rows_of c.args.rt.now) = omega (arith, record_count c.args.rt.now, c.requires.branches_in) in
    let roomy : c.args.nb ≤ length (branch_rows_of c.args.bt.now) = omega (arith, branch_count c.args.bt.now, c.requires.branches_in) in
    let up : Ascend (record_rows_of c.args.rt.now) c.args.nr = asc_ascend (record_rows_of c.args.rt.now) c.args.nr (room) c.requires.asc in
    let held : Held (branch_rows_of c.args.bt.now) (c.rows.i - 1) c.rows.i c.rows.t c.branch_at-b.result = let q = c.branch_at-b.ensures in
    let n : c.rows.i ≡ 0 → ⊥ = c.if-i-eq0.false in
    record {
      count = omega arith;
      room = omega (arith, roomy, c.rows.invariant.0);
      same = q;
      from = omega (arith, c.if-t-b);
      to = omega (arith, c.if-b-t);
      back = omega (arith, c.if-t-b, ap (λ (b : Branch). b.start) q, ap (λ (b : Branch). b.cut) q, falls_at (branch_rows_of c.args.bt.now) c.args.nb (roomy) c.requires.falls (c.rows.i - 1) (omega (arith, c.rows.invariant.0)));
    } in
    let rs = record_rows_of c.args.rt.now in
    let bs = branch_rows_of c.args.bt.now in
    walk_on rs bs c.args.nr c.args.a (c.rows.i - 1) c.rows.i c.rows.t _ (held) c.recs.j c.args.nb _ (omega (arith, c.rows.invariant.0)) c.recs.invariant c.rows.invariant.2
    (latest_end rs c.args.nr c.args.a (room) (up) c.recs.j c.rows.t c.recs.invariant _ (omega (arith, c.recs-test)))

-- src/lib.rt:52:9
pub rows-preserved-then-r-a : goal.rows-preserved-then-r-a
rows-preserved-then-r-a c =
    let room : c.args.nr ≤ length (record_rows_of c.args.rt.now) = omega (arith, record_count c.args.rt.now, c.requires.branches_in) in
    let roomy : c.args.nb ≤ length (branch_rows_of c.args.bt.now) = omega (arith, branch_count c.args.bt.now, c.requires.branches_in) in
    let up : Ascend (record_rows_of c.args.rt.now) c.args.nr = asc_ascend (record_rows_of c.args.rt.now) c.args.nr (room) c.requires.asc in
    let held : Held (branch_rows_of c.args.bt.now) (c.rows.i - 1) c.rows.i c.rows.t c.branch_at-b.result = let q = c.branch_at-b.ensures in
    let n : c.rows.i ≡ 0 → ⊥ = c.if-i-eq0.false in
    record {
      count = omega arith;
      room = omega (arith, roomy, c.rows.invariant.0);
      same = q;
      from = omega (arith, c.if-t-b);
      to = omega (arith, c.if-b-t);
      back = omega (arith, c.if-t-b, ap (λ (b : Branch). b.start) q, ap (λ (b : Branch). b.cut) q, falls_at (branch_rows_of c.args.bt.now) c.args.nb (roomy) c.requires.falls (c.rows.i - 1) (omega (arith, c.rows.invariant.0)));
    } in
    let rs = record_rows_of c.args.rt.now in
    let bs = branch_rows_of c.args.bt.now in
    walk_on rs bs c.args.nr c.args.a (c.rows.i - 1) c.rows.i c.rows.t _ (held) c.recs.j c.args.nb _ (omega (arith, c.rows.invariant.0)) c.recs.invariant c.rows.invariant.2
    (latest_other rs c.args.nr c.args.a (room) (up) c.recs.j c.rows.t c.recs.invariant _ c.recs-test.true
    (λ z. c.if-r-a.true (ap (λ (r : Record). r.address) c.record_at-r.ensures ∙ z)))

-- src/lib.rt:52:9
pub rows-preserved : goal.rows-preserved
rows-preserved c =
    let room : c.args.nr ≤ length (record_rows_of c.args.rt.now) = omega (arith, record_count c.args.rt.now, c.requires.branches_in) in
    let roomy : c.args.nb ≤ length (branch_rows_of c.args.bt.now) = omega (arith, branch_count c.args.bt.now, c.requires.branches_in) in
    let up : Ascend (record_rows_of c.args.rt.now) c.args.nr = asc_ascend (record_rows_of c.args.rt.now) c.args.nr (room) c.requires.asc in
    let held : Held (branch_rows_of c.args.bt.now) (c.rows.i - 1) c.rows.i c.rows.t c.branch_at-b.result = let q = c.branch_at-b.ensures in
    let n : c.rows.i ≡ 0 → ⊥ = c.if-i-eq0.false in
    record {
      count = omega arith;
      room = omega (arith, roomy, c.rows.invariant.0);
      same = q;
      from = omega (arith, c.if-t-b);
      to = omega (arith, c.if-b-t);
      back = omega (arith, c.if-t-b, ap (λ (b : Branch). b.start) q, ap (λ (b : Branch). b.cut) q, falls_at (branch_rows_of c.args.bt.now) c.args.nb (roomy) c.requires.falls (c.rows.i - 1) (omega (arith, c.rows.invariant.0)));
    } in
    let rs = record_rows_of c.args.rt.now in
    let bs = branch_rows_of c.args.bt.now in
    let e = c.record_at-r.ensures in
    walk_on rs bs c.args.nr c.args.a (c.rows.i - 1) c.rows.i c.rows.t _ (held) c.recs.j c.args.nb _ (omega (arith, c.rows.invariant.0)) c.recs.invariant c.rows.invariant.2
    (latest_low rs c.args.nr c.args.a (room) (up) c.recs.j c.rows.t c.recs.invariant _ c.recs-test.true
    (sym (ap (λ (r : Record). r.address) e) ∙ c.if-r-a.false)
    (omega (arith, ap (λ (r : Record). r.moment) e, c.if-b-r)))

-- src/lib.rt:43:1
pub returns-then-i-eq0 : goal.returns-then-i-eq0
returns-then-i-eq0 c =
    sym (c.rows.invariant.2 ∙ find_end (take c.args.nr (record_rows_of c.args.rt.now)) (branch_rows_of c.args.bt.now) c.args.a c.rows.t c.rows.i c.if-i-eq0.true)

-- src/lib.rt:43:1
pub returns-then-b-r : goal.returns-then-b-r
returns-then-b-r c =
    let room : c.args.nr ≤ length (record_rows_of c.args.rt.now) = omega (arith, record_count c.args.rt.now, c.requires.branches_in) in
    let roomy : c.args.nb ≤ length (branch_rows_of c.args.bt.now) = omega (arith, branch_count c.args.bt.now, c.requires.branches_in) in
    let up : Ascend (record_rows_of c.args.rt.now) c.args.nr = asc_ascend (record_rows_of c.args.rt.now) c.args.nr (room) c.requires.asc in
    let held : Held (branch_rows_of c.args.bt.now) (c.rows.i - 1) c.rows.i c.rows.t c.branch_at-b.result = let q = c.branch_at-b.ensures in
    let n : c.rows.i ≡ 0 → ⊥ = c.if-i-eq0.false in
    record {
      count = omega arith;
      room = omega (arith, roomy, c.rows.invariant.0);
      same = q;
      from = omega (arith, c.if-t-b);
      to = omega (arith, c.if-b-t);
      back = omega (arith, c.if-t-b, ap (λ (b : Branch). b.start) q, ap (λ (b : Branch). b.cut) q, falls_at (branch_rows_of c.args.bt.now) c.args.nb (roomy) c.requires.falls (c.rows.i - 1) (omega (arith, c.rows.invariant.0)));
    } in
    let rs = record_rows_of c.args.rt.now in
    let bs = branch_rows_of c.args.bt.now in
    let e = c.record_at-r.ensures in
    walk_found rs bs c.args.nr c.args.a (c.rows.i - 1) c.rows.i c.rows.t _ (held) c.record_at-r.result _ c.rows.invariant.2
    (latest_here rs c.args.nr c.args.a (room) (up) c.recs.j c.rows.t c.recs.invariant _ c.recs-test.true
    (sym (ap (λ (r : Record). r.address) e) ∙ c.if-r-a.false)
    (omega (arith, ap (λ (r : Record). r.moment) e, c.if-b-r)) (omega (arith, ap (λ (r : Record). r.moment) e, c.if-r-t))
    ∙ ap some (sym e))
