use mathlib.Core.Path.{◌≡◌, sym, ap, ◌∙◌}
use Prim.Native.Nat.{◌≤◌}
use native.Mathlib.Omega.{arith}
use Rattle.model.specs.Store.{open_end}
use Rattle.rows.specs.View.{Tables, tables, number_tables, with_slab}
use Rattle.live.specs.Live.{LiveDisk, disk_of}
use Rattle.disk_check.specs.Check.{live_check_of}
use Rattle.record_check.specs.declared.Finding.{Finding}
use Rattle.disk_check.proofs.Checked.{passed_fit}
use Rattle.tables.specs.Tables.{numbers_in, Room}
use Rattle.areas.proofs.Areas.{room_kept}
use Rattle.batch_tables.proofs.batch_tables.Goals as goal

pub run_saved-done-requires : goal.run_saved-done-requires
run_saved-done-requires c =
    let bytes : Tables = tables c.args.branches.now c.args.records.now c.args.places.now c.args.names.now c.args.slab.now in
    let behind : LiveDisk = disk_of c.args.disk.now c.args.marks.now in
    let loaded : Room (number_tables c.args.branches.now c.args.records.now c.args.places.now c.args.names.now) (number_tables c.load_checked-found.new.bt c.load_checked-found.new.rt c.load_checked-found.new.pt c.load_checked-found.new.nt) = let k = c.load_checked-found.auto in
    room_kept c.requires k.bt k.rt k.pt k.nt in
    let checked : live_check_of c.args.head (numbers_in (bytes)) (behind) ≡ 0 = sym (ap (λ (f : Finding). f.refusal) c.load_checked-found.ensures.value) ∙ c.if-found-ne0.false in
    let e = c.load_checked-found.ensures.nt_after in
    let h : c.args.head.now ≤ open_end = omega (arith) in record { room = loaded; nt_value = e; fit = passed_fit c.args.head _ (behind) h (ap (λ (t : Tables). live_check_of c.args.head (with_slab c.args.slab.now t) (behind)) e ∙ checked) }
