use mathlib.Core.Path.{◌≡◌, sym, ap, ◌∙◌}
use Prim.Native.Nat.{◌≤◌}
use native.Mathlib.Omega.{arith}
use Rattle.model.specs.Store.{open_end}
use Rattle.live.specs.Live.{LiveDisk, disk_of}
use Rattle.live.specs.Fit.{Fit}
use Rattle.rows.specs.View.{Tables, tables, store_of}
use Rattle.record_check.specs.declared.Finding.{Finding}
use Rattle.disk_check.specs.Check.{live_check_of}
use Rattle.disk_check.proofs.Checked.{passed_fit}
use Rattle.live_pages.proofs.Spots.{read_refused, read_outside, read_inside, sound_searchable}
use Rattle.live_pages.proofs.locate.Goals as goal

pub returns-then-refusal-ne0 : goal.returns-then-refusal-ne0
returns-then-refusal-ne0 c =
    let lent : Tables = tables c.args.bt.now c.args.rt.now c.args.pt.now c.args.nt.now c.args.slab.now in
    let behind : LiveDisk = disk_of c.args.disk.now c.args.marks.now in
    let found : c.check-found.result.refusal ≡ live_check_of c.args.head (lent) (behind) = ap (λ (f : Finding). f.refusal) c.check-found.ensures in
    read_refused c.args.head (lent) (behind) c.args.a c.check-found.result.refusal (found) c.if-refusal-ne0.true

pub returns-then-head-a : goal.returns-then-head-a
returns-then-head-a c =
    let lent : Tables = tables c.args.bt.now c.args.rt.now c.args.pt.now c.args.nt.now c.args.slab.now in
    let behind : LiveDisk = disk_of c.args.disk.now c.args.marks.now in
    let found : c.check-found.result.refusal ≡ live_check_of c.args.head (lent) (behind) = ap (λ (f : Finding). f.refusal) c.check-found.ensures in
    let passed : live_check_of c.args.head (lent) (behind) ≡ 0 = sym (found) ∙ c.if-refusal-ne0.false in
    read_outside c.args.head (lent) (behind) c.args.a (passed) c.if-head-a.true

pub spot_of-spot-requires : goal.spot_of-spot-requires
spot_of-spot-requires c =
    let lent : Tables = tables c.args.bt.now c.args.rt.now c.args.pt.now c.args.nt.now c.args.slab.now in
    let behind : LiveDisk = disk_of c.args.disk.now c.args.marks.now in
    let found : c.check-found.result.refusal ≡ live_check_of c.args.head (lent) (behind) = ap (λ (f : Finding). f.refusal) c.check-found.ensures in
    let passed : live_check_of c.args.head (lent) (behind) ≡ 0 = sym (found) ∙ c.if-refusal-ne0.false in
    let fit : Fit (store_of c.args.head (lent)) (behind) = let n : c.args.head.now ≤ open_end = omega arith in
    passed_fit c.args.head (lent) (behind) n (passed) in
    (sound_searchable c.args.head (lent) (fit).sound, omega (arith, (fit).sized.marks, c.if-head-a.false))

pub returns : goal.returns
returns c =
    let lent : Tables = tables c.args.bt.now c.args.rt.now c.args.pt.now c.args.nt.now c.args.slab.now in
    let behind : LiveDisk = disk_of c.args.disk.now c.args.marks.now in
    let found : c.check-found.result.refusal ≡ live_check_of c.args.head (lent) (behind) = ap (λ (f : Finding). f.refusal) c.check-found.ensures in
    let passed : live_check_of c.args.head (lent) (behind) ≡ 0 = sym (found) ∙ c.if-refusal-ne0.false in
    rw (c.spot_of-spot.ensures (lent) c.args.disk.now) (read_inside c.args.head (lent) (behind) c.args.a (passed) c.if-head-a.false)
