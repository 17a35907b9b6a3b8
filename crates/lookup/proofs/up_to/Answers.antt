use mathlib.Core.Path.{ap}
use Prim.Native.Nat.{◌-◌, ◌+◌, ◌/◌}
use native.Mathlib.Omega.{arith}
use Rattle.model.specs.declared.Record.{Record}
use Rattle.rows.specs.Rows.{record_rows_of}
use Rattle.rows.proofs.Laws.{record_count}
use Rattle.model.proofs.ByNumber.{asc_ascend}
use Rattle.lookup.proofs.Laws.{bracket_up, bracket_down, bracket_end}
use Rattle.lookup.proofs.up_to.Goals as goal

-- src/lib.rt:26:5
pub loop-lo-preserved-then-a-r : goal.loop-lo-preserved-then-a-r
loop-lo-preserved-then-a-r c =
    let rt = c.args.rt.now in
    let q = ap (λ (r : Record). r.address) c.record_at-r.ensures in
    bracket_down (record_rows_of rt) c.args.n c.args.a c.args.t (asc_ascend (record_rows_of rt) c.args.n (omega (arith, record_count rt, c.requires.records_in)) c.requires.asc) c.loop-lo.lo c.loop-lo.hi (c.loop-lo.lo + (c.loop-lo.hi - c.loop-lo.lo) / 2) c.loop-lo.invariant (omega arith) (omega arith)
    (omega (arith, q), λ z. absurd (omega (arith, q, z)))

-- src/lib.rt:26:5
pub loop-lo-preserved-then-r-a : goal.loop-lo-preserved-then-r-a
loop-lo-preserved-then-r-a c =
    let rt = c.args.rt.now in
    let q = ap (λ (r : Record). r.address) c.record_at-r.ensures in
    bracket_up (record_rows_of rt) c.args.n c.args.a c.args.t (asc_ascend (record_rows_of rt) c.args.n (omega (arith, record_count rt, c.requires.records_in)) c.requires.asc) c.loop-lo.lo c.loop-lo.hi (c.loop-lo.lo + (c.loop-lo.hi - c.loop-lo.lo) / 2) c.loop-lo.invariant (omega (arith, c)) (omega (arith, c, c))
    (omega (arith, q, c.if-r-a), λ z. absurd (omega (arith, q, z, c.if-r-a)))

-- src/lib.rt:26:5
pub loop-lo-preserved-then-t-r : goal.loop-lo-preserved-then-t-r
loop-lo-preserved-then-t-r c =
    let rt = c.args.rt.now in
    let q = ap (λ (r : Record). r.address) c.record_at-r.ensures in
    let p = ap (λ (r : Record). r.moment) c.record_at-r.ensures in
    bracket_down (record_rows_of rt) c.args.n c.args.a c.args.t (asc_ascend (record_rows_of rt) c.args.n (omega (arith, record_count rt, c.requires.records_in)) c.requires.asc) c.loop-lo.lo c.loop-lo.hi (c.loop-lo.lo + (c.loop-lo.hi - c.loop-lo.lo) / 2) c.loop-lo.invariant (omega (arith, c)) (omega (arith, c, c))
    (omega (arith, q, c.if-r-a), λ z. omega (arith, p, c.if-t-r))

-- src/lib.rt:26:5
pub loop-lo-preserved : goal.loop-lo-preserved
loop-lo-preserved c =
    let rt = c.args.rt.now in
    let q = ap (λ (r : Record). r.address) c.record_at-r.ensures in
    let p = ap (λ (r : Record). r.moment) c.record_at-r.ensures in
    bracket_up (record_rows_of rt) c.args.n c.args.a c.args.t (asc_ascend (record_rows_of rt) c.args.n (omega (arith, record_count rt, c.requires.records_in)) c.requires.asc) c.loop-lo.lo c.loop-lo.hi (c.loop-lo.lo + (c.loop-lo.hi - c.loop-lo.lo) / 2) c.loop-lo.invariant (omega (arith, c)) (omega (arith, c, c))
    (omega (arith, q, c.if-a-r), λ z. omega (arith, p, c.if-t-r))

-- src/lib.rt:19:1
pub returns : goal.returns
returns c =
    let rt = c.args.rt.now in
    bracket_end (record_rows_of rt) c.args.n c.args.a c.args.t (omega (arith, record_count rt, c.requires.records_in)) c.loop-lo.lo c.loop-lo.hi c.loop-lo.invariant (omega arith)
