use Rattle.rows.proofs.Relaid.{laid_own, own_then, set_length, set_rows, set_own}
use mathlib.Core.Path.{◌≡◌, refl, ◌∙◌}
use native.Mathlib.Omega.{arith}
use Rattle.rows.specs.Rows.{record_rows_of}
use Rattle.rows.proofs.Laws.{record_kind, record_count}
use Rattle.writing.proofs.Shift.{moved_start, moved_step, moved_all}
use Rattle.writing.proofs.insert_row.Goals as goal

pub loop-k-init : goal.loop-k-init
loop-k-init c =
    (moved_start (record_rows_of c.args.rt.now) c.args.n c.args.at c.requires.0, refl, laid_own record_kind c.args.rt.now)

pub loop-k-preserved : goal.loop-k-preserved
loop-k-preserved c =
    let rt = c.args.rt.now in (
      moved_step (record_rows_of rt) (record_rows_of c.loop-k.rt) _ c.args.n c.args.at c.loop-k.k c.loop-k.invariant.0 (omega (arith, record_count rt, c.requires)) c.loop-k-test.true
          (rw (← c.record_at-x.ensures) (set_rows record_kind c.set_record.ensures)),
      set_length record_kind c.set_record.ensures ∙ c.loop-k.invariant.1,
      own_then record_kind c.loop-k.invariant.2 c.loop-k.invariant.1 (set_own record_kind c.set_record.ensures),
    )

pub returns : goal.returns
returns c =
    let rt = c.args.rt.now in
    let z : c.args.at ≡ c.loop-k.k = omega (arith, c.loop-k.invariant.0.from, c.loop-k-test.false) in
    rw (← moved_all (record_rows_of rt) (record_rows_of c.loop-k.rt) _ c.args.n c.args.at c.loop-k.k c.loop-k.invariant.0 (omega (arith, record_count rt, c.requires)) c.args.r z (set_rows record_kind c.set_record-2.ensures))
    (own_then record_kind c.loop-k.invariant.2 c.loop-k.invariant.1 (set_own record_kind c.set_record-2.ensures))
