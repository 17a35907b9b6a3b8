use mathlib.Core.Path.{sym}
use Prim.Native.Nat.{◌/◌, ◌≤◌}
use lib.ListN.{length}
use lib.Seq.{length-take-le}
use Rattle.tables.proofs.Laws.{Lengths, lengths→}
use Rattle.areas.specs.Lent.{Lent, lent}
use Rattle.areas.proofs.Areas.{branches_fit, records_fit, places_fit, room_of}
use Rattle.listing_areas.proofs.Laws.{list_is, lists_as}
use Rattle.listing_areas.proofs.list_areas.Goals as goal

pub get_head-first-requires : goal.get_head-first-requires
get_head-first-requires c =
    let sizes : Lengths (length c.args.head.now) (length c.args.branches.now) (length c.args.records.now) (length c.args.places.now) (length c.args.names.now) = lengths→ c.requires in
    (sizes).head

pub slice_bounds-bt-end : goal.slice_bounds-bt-end
slice_bounds-bt-end c =
    let sizes : Lengths (length c.args.head.now) (length c.args.branches.now) (length c.args.records.now) (length c.args.places.now) (length c.args.names.now) = lengths→ c.requires in
    let branches-have : length c.args.branches.now / 4 ≤ length c.room-bt.result = branches_fit (sizes) _ c.room-bt.ensures in
    branches-have

pub slice_bounds-list_tables-end : goal.slice_bounds-list_tables-end
slice_bounds-list_tables-end c =
    let sizes : Lengths (length c.args.head.now) (length c.args.branches.now) (length c.args.records.now) (length c.args.places.now) (length c.args.names.now) = lengths→ c.requires in
    let branches-have : length c.args.branches.now / 4 ≤ length c.room-bt.result = branches_fit (sizes) _ c.room-bt.ensures in
    sym (length-take-le _ c.room-bt.result (branches-have))

pub slice_bounds-rt-end : goal.slice_bounds-rt-end
slice_bounds-rt-end c =
    let sizes : Lengths (length c.args.head.now) (length c.args.branches.now) (length c.args.records.now) (length c.args.places.now) (length c.args.names.now) = lengths→ c.requires in
    let records-have : length c.args.records.now / 4 ≤ length c.room-rt.result = records_fit (sizes) _ c.room-rt.ensures in
    records-have

pub slice_bounds-list_tables-end-2 : goal.slice_bounds-list_tables-end-2
slice_bounds-list_tables-end-2 c =
    let sizes : Lengths (length c.args.head.now) (length c.args.branches.now) (length c.args.records.now) (length c.args.places.now) (length c.args.names.now) = lengths→ c.requires in
    let records-have : length c.args.records.now / 4 ≤ length c.room-rt.result = records_fit (sizes) _ c.room-rt.ensures in
    sym (length-take-le _ c.room-rt.result (records-have))

pub slice_bounds-pt-end : goal.slice_bounds-pt-end
slice_bounds-pt-end c =
    let sizes : Lengths (length c.args.head.now) (length c.args.branches.now) (length c.args.records.now) (length c.args.places.now) (length c.args.names.now) = lengths→ c.requires in
    let places-have : length c.args.places.now / 4 ≤ length c.room-pt.result = places_fit (sizes) _ c.room-pt.ensures in
    places-have

pub slice_bounds-list_tables-end-3 : goal.slice_bounds-list_tables-end-3
slice_bounds-list_tables-end-3 c =
    let sizes : Lengths (length c.args.head.now) (length c.args.branches.now) (length c.args.records.now) (length c.args.places.now) (length c.args.names.now) = lengths→ c.requires in
    let places-have : length c.args.places.now / 4 ≤ length c.room-pt.result = places_fit (sizes) _ c.room-pt.ensures in
    sym (length-take-le _ c.room-pt.result (places-have))

pub list_tables-requires : goal.list_tables-requires
list_tables-requires c =
    let sizes : Lengths (length c.args.head.now) (length c.args.branches.now) (length c.args.records.now) (length c.args.places.now) (length c.args.names.now) = lengths→ c.requires in
    room_of c.args.branches.now c.args.records.now c.args.places.now c.args.names.now _ _ _ _ (sizes) c.room-bt.ensures c.room-rt.ensures c.room-pt.ensures c.room-nt.ensures

pub returns : goal.returns
returns c =
    let areas : Lent = lent c.args.head.now c.args.branches.now c.args.records.now c.args.places.now c.args.names.now c.args.slab.now in
    lists_as (list_is (areas) c.requires c.get_head-first.ensures c.args.moment c.args.list.now) c.list_tables.ensures
