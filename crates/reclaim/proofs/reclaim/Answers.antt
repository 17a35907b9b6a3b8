-- `reclaim::reclaim` meets its contract: the records that are kept decide which branches stay, then both tables close up.
use native.Mathlib.Omega.{arith}
use Rattle.closing.proofs.Closing.{count_records}
use Rattle.reclaim.proofs.Settles.{count_settled}
use Rattle.reclaim.proofs.Reclaims.{Ready, ready_of, lent, reclaims, refuses_8, refuses_9}
use Rattle.reclaim.proofs.reclaim.Goals as goal

pub returns-then-floor-head : goal.returns-then-floor-head
returns-then-floor-head c =
    λ t. rw c.refused.ensures (refuses_8 c.args.head (lent c.args.bt.now c.args.rt.now c.args.pt.now c.args.nt.now t) c.args.floor (omega (arith, c.if-floor-head.true)))

pub returns-then-head-floor : goal.returns-then-head-floor
returns-then-head-floor c =
    λ t. rw c.refused-then-head-floor.ensures
    (refuses_9 c.args.head (lent c.args.bt.now c.args.rt.now c.args.pt.now c.args.nt.now t) c.args.floor (omega (arith, c.if-floor-head.false)) (omega (arith, c.if-head-floor.true)))

pub mark_kept-requires : goal.mark_kept-requires
mark_kept-requires c =
    let ready : Ready c.args.head c.args.floor c.args.bt.now c.args.rt.now c.args.pt.now c.args.nt.now = ready_of c.args.head (lent c.args.bt.now c.args.rt.now c.args.pt.now c.args.nt.now c.requires.others) c.args.floor c.requires.sound (omega (arith, c.if-floor-head.false)) (omega (arith, c.if-head-floor.false)) in
    let r = ready in record { branches_in = (r.branch_room, r.branch_count, r.branch_some, r.record_room, r.name_room, r.name_count, omega (arith, r.record_count, c.record_bytes-rm.ensures.long)); line = r.line; floor_value = r.readable; held = r.named_held; ascend = r.ascend; placed = r.placed }

pub settle-wb-requires : goal.settle-wb-requires
settle-wb-requires c =
    let ready : Ready c.args.head c.args.floor c.args.bt.now c.args.rt.now c.args.pt.now c.args.nt.now = ready_of c.args.head (lent c.args.bt.now c.args.rt.now c.args.pt.now c.args.nt.now c.requires.others) c.args.floor c.requires.sound (omega (arith, c.if-floor-head.false)) (omega (arith, c.if-head-floor.false)) in
    let r = ready in record { branches_in = (r.branch_room, r.branch_count, r.branch_some, r.name_room, r.record_room, omega (arith, r.record_count, c.mark_kept.ensures.long, c.record_bytes-rm.ensures.long)); line = r.line; first = r.first; held = r.named_held; placed = r.placed }

pub close_records-wr-requires : goal.close_records-wr-requires
close_records-wr-requires c =
    let ready : Ready c.args.head c.args.floor c.args.bt.now c.args.rt.now c.args.pt.now c.args.nt.now = ready_of c.args.head (lent c.args.bt.now c.args.rt.now c.args.pt.now c.args.nt.now c.requires.others) c.args.floor c.requires.sound (omega (arith, c.if-floor-head.false)) (omega (arith, c.if-head-floor.false)) in
    let r = ready in record { n_bound = (omega (arith, r.record_count), r.record_room, omega (arith, r.record_count, c.mark_kept.ensures.long, c.record_bytes-rm.ensures.long)); names = r.names }

pub overflow_cast-next : goal.overflow_cast-next
overflow_cast-next c =
    let ready : Ready c.args.head c.args.floor c.args.bt.now c.args.rt.now c.args.pt.now c.args.nt.now = ready_of c.args.head (lent c.args.bt.now c.args.rt.now c.args.pt.now c.args.nt.now c.requires.others) c.args.floor c.requires.sound (omega (arith, c.if-floor-head.false)) (omega (arith, c.if-head-floor.false)) in
    let r = ready in
    omega (arith, count_settled c.settle-wb.ensures r.branch_room, r.branch_count)

pub overflow_cast-next-2 : goal.overflow_cast-next-2
overflow_cast-next-2 c =
    let ready : Ready c.args.head c.args.floor c.args.bt.now c.args.rt.now c.args.pt.now c.args.nt.now = ready_of c.args.head (lent c.args.bt.now c.args.rt.now c.args.pt.now c.args.nt.now c.requires.others) c.args.floor c.requires.sound (omega (arith, c.if-floor-head.false)) (omega (arith, c.if-head-floor.false)) in
    let r = ready in
    omega (arith, count_records c.close_records-wr.ensures r.record_room, r.record_count)

pub overflow_sub-result : goal.overflow_sub-result
overflow_sub-result c =
    let ready : Ready c.args.head c.args.floor c.args.bt.now c.args.rt.now c.args.pt.now c.args.nt.now = ready_of c.args.head (lent c.args.bt.now c.args.rt.now c.args.pt.now c.args.nt.now c.requires.others) c.args.floor c.requires.sound (omega (arith, c.if-floor-head.false)) (omega (arith, c.if-head-floor.false)) in
    let r = ready in
    omega (arith, count_records c.close_records-wr.ensures r.record_room, r.record_count)

pub returns : goal.returns
returns c =
    reclaims c.args.head c.args.bt.now c.args.rt.now c.args.pt.now c.args.nt.now _ _ _ c.args.floor _ _ c.requires (omega (arith, c.if-floor-head.false)) (omega (arith, c.if-head-floor.false)) c.mark_kept.ensures c.close_records-wr.ensures c.close_records-wr.auto.rt c.settle-wb.ensures c.settle-wb.auto.bt
