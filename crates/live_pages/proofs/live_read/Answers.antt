use Prim.Native.Nat.{◌+◌, ◌≤◌}
use native.Mathlib.Omega.{arith}
use lib.ListN.{length}
use Rattle.live.specs.Live.{LiveDisk, disk_of}
use Rattle.rows.specs.View.{Tables, tables}
use Rattle.live_pages.proofs.Parts.{at_disk, at_slab, given_disk, given_slab}
use Rattle.live_pages.proofs.live_read.Goals as goal

pub overflow_add-end : goal.overflow_add-end
overflow_add-end c =
    let lent : Tables = tables c.args.bt.now c.args.rt.now c.args.pt.now c.args.nt.now c.args.slab.now in
    let behind : LiveDisk = disk_of c.args.disk.now c.args.marks.now in
    let disk-room : c.in-OnDisk.at + 256 ≤ length c.args.disk.now = at_disk c.args.head (lent) (behind) c.args.a c.args.disk.ref_ptr c.args.slab.ref_ptr c.locate-located.ensures (omega arith) _ c.in-OnDisk.is in
    omega (arith, disk-room)

pub slice_bounds-result-end-in-OnDisk : goal.slice_bounds-result-end-in-OnDisk
slice_bounds-result-end-in-OnDisk c =
    let lent : Tables = tables c.args.bt.now c.args.rt.now c.args.pt.now c.args.nt.now c.args.slab.now in
    let behind : LiveDisk = disk_of c.args.disk.now c.args.marks.now in
    let disk-room : c.in-OnDisk.at + 256 ≤ length c.args.disk.now = at_disk c.args.head (lent) (behind) c.args.a c.args.disk.ref_ptr c.args.slab.ref_ptr c.locate-located.ensures (omega arith) _ c.in-OnDisk.is in
    omega (arith, disk-room)

pub overflow_add-end-in-InSlab : goal.overflow_add-end-in-InSlab
overflow_add-end-in-InSlab c =
    let lent : Tables = tables c.args.bt.now c.args.rt.now c.args.pt.now c.args.nt.now c.args.slab.now in
    let behind : LiveDisk = disk_of c.args.disk.now c.args.marks.now in
    let slab-room : c.in-InSlab.from + 256 ≤ length c.args.slab.now = at_slab c.args.head (lent) (behind) c.args.a c.args.disk.ref_ptr c.args.slab.ref_ptr c.locate-located.ensures (omega arith) _ c.in-InSlab.is in
    omega (arith, slab-room)

pub slice_bounds-result-end-in-InSlab : goal.slice_bounds-result-end-in-InSlab
slice_bounds-result-end-in-InSlab c =
    let lent : Tables = tables c.args.bt.now c.args.rt.now c.args.pt.now c.args.nt.now c.args.slab.now in
    let behind : LiveDisk = disk_of c.args.disk.now c.args.marks.now in
    let slab-room : c.in-InSlab.from + 256 ≤ length c.args.slab.now = at_slab c.args.head (lent) (behind) c.args.a c.args.disk.ref_ptr c.args.slab.ref_ptr c.locate-located.ensures (omega arith) _ c.in-InSlab.is in
    omega (arith, slab-room)

pub returns-in-OnDisk : goal.returns-in-OnDisk
returns-in-OnDisk c =
    let lent : Tables = tables c.args.bt.now c.args.rt.now c.args.pt.now c.args.nt.now c.args.slab.now in
    let behind : LiveDisk = disk_of c.args.disk.now c.args.marks.now in
    let given = given_disk c.args.head (lent) (behind) c.args.a c.args.disk.ref_ptr c.args.slab.ref_ptr c.locate-located.ensures _ c.in-OnDisk.is in
    record { hands = given.0; lies_at = given.1 }

pub returns-in-InSlab : goal.returns-in-InSlab
returns-in-InSlab c =
    let lent : Tables = tables c.args.bt.now c.args.rt.now c.args.pt.now c.args.nt.now c.args.slab.now in
    let behind : LiveDisk = disk_of c.args.disk.now c.args.marks.now in
    let given = given_slab c.args.head (lent) (behind) c.args.a c.args.disk.ref_ptr c.args.slab.ref_ptr c.locate-located.ensures _ c.in-InSlab.is in
    record { hands = given.0; lies_at = given.1 }
