use mathlib.Core.Path.{refl, sym}
use Prim.Native.Nat.{◌/◌, ◌≤◌}
use lib.ListN.{length}
use lib.Seq.{length-take-le}
use Rattle.tables.proofs.Laws.{Lengths, lengths→}
use Rattle.areas.proofs.Areas.{branches_fit, records_fit, places_fit, room_of}
use Rattle.fresh_areas.proofs.Fresh.{fresh_refused, fresh_made}
use Rattle.fresh_areas.proofs.fresh_areas.Goals as goal

pub slice_bounds-bt-end : goal.slice_bounds-bt-end
slice_bounds-bt-end c =
    let sizes : Lengths (length c.args.head.now) (length c.args.branches.now) (length c.args.records.now) (length c.args.places.now) (length c.args.names.now) = lengths→ c.requires in
    let branches-have : length c.args.branches.now / 4 ≤ length c.room-bt.result = branches_fit (sizes) _ c.room-bt.ensures in
    branches-have

pub slice_bounds-fresh_tables-end : goal.slice_bounds-fresh_tables-end
slice_bounds-fresh_tables-end c =
    let sizes : Lengths (length c.args.head.now) (length c.args.branches.now) (length c.args.records.now) (length c.args.places.now) (length c.args.names.now) = lengths→ c.requires in
    let branches-have : length c.args.branches.now / 4 ≤ length c.room-bt.result = branches_fit (sizes) _ c.room-bt.ensures in
    sym (length-take-le _ c.room-bt.result (branches-have))

pub slice_bounds-rt-end : goal.slice_bounds-rt-end
slice_bounds-rt-end c =
    let sizes : Lengths (length c.args.head.now) (length c.args.branches.now) (length c.args.records.now) (length c.args.places.now) (length c.args.names.now) = lengths→ c.requires in
    let records-have : length c.args.records.now / 4 ≤ length c.room-rt.result = records_fit (sizes) _ c.room-rt.ensures in
    records-have

pub slice_bounds-fresh_tables-end-2 : goal.slice_bounds-fresh_tables-end-2
slice_bounds-fresh_tables-end-2 c =
    let sizes : Lengths (length c.args.head.now) (length c.args.branches.now) (length c.args.records.now) (length c.args.places.now) (length c.args.names.now) = lengths→ c.requires in
    let records-have : length c.args.records.now / 4 ≤ length c.room-rt.result = records_fit (sizes) _ c.room-rt.ensures in
    sym (length-take-le _ c.room-rt.result (records-have))

pub slice_bounds-pt-end : goal.slice_bounds-pt-end
slice_bounds-pt-end c =
    let sizes : Lengths (length c.args.head.now) (length c.args.branches.now) (length c.args.records.now) (length c.args.places.now) (length c.args.names.now) = lengths→ c.requires in
    let places-have : length c.args.places.now / 4 ≤ length c.room-pt.result = places_fit (sizes) _ c.room-pt.ensures in
    places-have

pub slice_bounds-fresh_tables-end-3 : goal.slice_bounds-fresh_tables-end-3
slice_bounds-fresh_tables-end-3 c =
    let sizes : Lengths (length c.args.head.now) (length c.args.branches.now) (length c.args.records.now) (length c.args.places.now) (length c.args.names.now) = lengths→ c.requires in
    let places-have : length c.args.places.now / 4 ≤ length c.room-pt.result = places_fit (sizes) _ c.room-pt.ensures in
    sym (length-take-le _ c.room-pt.result (places-have))

pub fresh_tables-made-requires : goal.fresh_tables-made-requires
fresh_tables-made-requires c =
    let sizes : Lengths (length c.args.head.now) (length c.args.branches.now) (length c.args.records.now) (length c.args.places.now) (length c.args.names.now) = lengths→ c.requires in
    room_of c.args.branches.now c.args.records.now c.args.places.now c.args.names.now _ _ _ _ (sizes) c.room-bt.ensures c.room-rt.ensures c.room-pt.ensures c.room-nt.ensures

pub returns-then-refusal-ne0 : goal.returns-then-refusal-ne0
returns-then-refusal-ne0 c = fresh_refused c.args.size _ c.requires c.fresh_tables-made.ensures c.if-refusal-ne0.true

pub put_head-requires : goal.put_head-requires
put_head-requires c =
    let sizes : Lengths (length c.args.head.now) (length c.args.branches.now) (length c.args.records.now) (length c.args.places.now) (length c.args.names.now) = lengths→ c.requires in
    (sizes).head

pub returns : goal.returns
returns c =
    fresh_made c.args.size _ c.requires c.fresh_tables-made.ensures c.if-refusal-ne0.false refl c.put_head.ensures c.fresh_tables-made.auto.branches c.fresh_tables-made.auto.records c.fresh_tables-made.auto.names
