use mathlib.Core.Path.{◌≡◌, ap, sym, ◌∙◌}
use Prim.Native.Nat.{◌≤◌}
use native.Mathlib.Omega.{arith}
use lib.ListN.{length}
use Rattle.model.specs.Store.{open_end}
use Rattle.rows.specs.View.{Tables, tables}
use Rattle.live.specs.Live.{LiveDisk, disk_of}
use Rattle.soundness.specs.Check.{read_of}
use Rattle.record_check.specs.declared.Finding.{Finding}
use Rattle.disk_check.specs.Check.{live_check_of}
use Rattle.disk_check.proofs.Checked.{passed_fit}
use Rattle.batch.proofs.Lent.{refused_leaves, batch_checked, batch_unchecked}
use Rattle.batch.proofs.batch.Goals as goal

pub returns-then-found-ne0 : goal.returns-then-found-ne0
returns-then-found-ne0 c =
    let lent : Tables = tables c.args.bt.now c.args.rt.now c.args.pt.now c.args.nt.now c.args.slab.now in
    let behind : LiveDisk = disk_of c.args.disk.now c.args.marks.now in
    let found : (c.check-found.result.refusal ≡ live_check_of c.args.head (lent) (behind)) × (c.check-found.result.rows ≡ read_of c.args.head (lent)) = (ap (λ (f : Finding). f.refusal) c.check-found.ensures, ap (λ (f : Finding). f.rows) c.check-found.ensures) in
    let e = batch_unchecked c.args.head (lent) (behind) c.args.input.now (length c.args.answers.now) c.check-found.result.refusal (found).0 c.if-found-ne0.true in record { batch_leaves = rw (c.report-done.ensures, e) (refused_leaves c.args.head (lent) c.args.answers.now c.check-found.result.refusal); marks_after = rw e; rows_value = (found).1 }

pub run-done-requires : goal.run-done-requires
run-done-requires c =
    let lent : Tables = tables c.args.bt.now c.args.rt.now c.args.pt.now c.args.nt.now c.args.slab.now in
    let behind : LiveDisk = disk_of c.args.disk.now c.args.marks.now in
    let found : (c.check-found.result.refusal ≡ live_check_of c.args.head (lent) (behind)) × (c.check-found.result.rows ≡ read_of c.args.head (lent)) = (ap (λ (f : Finding). f.refusal) c.check-found.ensures, ap (λ (f : Finding). f.rows) c.check-found.ensures) in
    let checked : live_check_of c.args.head (lent) (behind) ≡ 0 = sym (found).0 ∙ c.if-found-ne0.false in
    let h : c.args.head.now ≤ open_end = omega (arith) in
    passed_fit c.args.head (lent) (behind) h (checked)

pub returns : goal.returns
returns c =
    let lent : Tables = tables c.args.bt.now c.args.rt.now c.args.pt.now c.args.nt.now c.args.slab.now in
    let behind : LiveDisk = disk_of c.args.disk.now c.args.marks.now in
    let found : (c.check-found.result.refusal ≡ live_check_of c.args.head (lent) (behind)) × (c.check-found.result.rows ≡ read_of c.args.head (lent)) = (ap (λ (f : Finding). f.refusal) c.check-found.ensures, ap (λ (f : Finding). f.rows) c.check-found.ensures) in
    let checked : live_check_of c.args.head (lent) (behind) ≡ 0 = sym (found).0 ∙ c.if-found-ne0.false in
    let b = batch_checked c.args.head (lent) (behind) c.args.input.now (length c.args.answers.now) (checked) in record { batch_leaves = rw b c.run-done.ensures.batch_leaves; marks_after = rw b c.run-done.ensures.marks_after; rows_value = (found).1 }
