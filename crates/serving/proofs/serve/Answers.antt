use mathlib.Core.Path.{◌≡◌}
use Prim.Native.Nat.{◌≤◌}
use native.Mathlib.Nat.{not-suc-le-zero}
use lib.ListN.{length, take, drop}
use Rattle.rows.specs.Rows.{NamesIn}
use Rattle.rows.specs.View.{Tables, tables}
use Rattle.store.proofs.Laws.{sound_revertible, sound_readable}
use Rattle.writing.proofs.Sound.{sound_writable}
use Rattle.naming.proofs.Laws.{sound_nameable}
use Rattle.wire.proofs.Requests.{page_room, whole_page}
use borrow.Author.Rules.{rules}
use Rattle.serving.proofs.serve.Goals as goal

pub slice_bounds-write-end : goal.slice_bounds-write-end
slice_bounds-write-end c =
    let paged : length (take 256 (drop 7 c.args.part.now)) ≡ 256 = whole_page c.args.part.now _ _ c.in-Write.is c.requires.sound.1 in
    let room : 263 ≤ length c.args.part.now = page_room c.args.part.now (paged) in
    search rules

pub write-requires : goal.write-requires
write-requires c =
    let lent : Tables = tables c.args.bt.now c.args.rt.now c.args.pt.now c.args.nt.now c.args.slab.now in
    let paged : length (take 256 (drop 7 c.args.part.now)) ≡ 256 = whole_page c.args.part.now _ _ c.in-Write.is c.requires.sound.1 in
    record { writable = sound_writable c.args.head (lent) c.requires.sound.0; page_len = paged; none_below = c.requires.none_below }

pub revert-requires : goal.revert-requires
revert-requires c =
    let lent : Tables = tables c.args.bt.now c.args.rt.now c.args.pt.now c.args.nt.now c.args.slab.now in
    sound_revertible c.args.head (lent) c.requires.sound.0

pub read-requires : goal.read-requires
read-requires c =
    let lent : Tables = tables c.args.bt.now c.args.rt.now c.args.pt.now c.args.nt.now c.args.slab.now in
    sound_readable c.args.head (lent) c.requires.sound.0

pub reclaim-requires : goal.reclaim-requires
reclaim-requires c =
    let lent : Tables = tables c.args.bt.now c.args.rt.now c.args.pt.now c.args.nt.now c.args.slab.now in
    record { others = lent; sound = c.requires.sound.0 }

pub give-requires : goal.give-requires
give-requires c =
    let lent : Tables = tables c.args.bt.now c.args.rt.now c.args.pt.now c.args.nt.now c.args.slab.now in
    let nameable : (c.args.head.names ≤ 32) × NamesIn 32 c.args.nt.now = sound_nameable c.args.head (lent) c.requires.sound.0 in
    nameable

pub withdraw-requires : goal.withdraw-requires
withdraw-requires c =
    let lent : Tables = tables c.args.bt.now c.args.rt.now c.args.pt.now c.args.nt.now c.args.slab.now in
    let nameable : (c.args.head.names ≤ 32) × NamesIn 32 c.args.nt.now = sound_nameable c.args.head (lent) c.requires.sound.0 in
    nameable

pub returns-in-Write : goal.returns-in-Write
returns-in-Write c =
    let lent : Tables = tables c.args.bt.now c.args.rt.now c.args.pt.now c.args.nt.now c.args.slab.now in
    record { carried = rw c.in-Write.is (c.write.ensures.carried (lent)); none_below_2 = c.write.ensures.none_below_2 }

pub returns-in-Mark : goal.returns-in-Mark
returns-in-Mark c =
    let lent : Tables = tables c.args.bt.now c.args.rt.now c.args.pt.now c.args.nt.now c.args.slab.now in
    record { carried = rw c.in-Mark.is (c.mark.ensures (lent)); none_below_2 = c.requires.none_below }

pub returns-in-Revert : goal.returns-in-Revert
returns-in-Revert c =
    let lent : Tables = tables c.args.bt.now c.args.rt.now c.args.pt.now c.args.nt.now c.args.slab.now in
    record { carried = rw c.in-Revert.is (c.revert.ensures (lent)); none_below_2 = c.requires.none_below }

pub returns-in-ReadAt : goal.returns-in-ReadAt
returns-in-ReadAt c =
    let lent : Tables = tables c.args.bt.now c.args.rt.now c.args.pt.now c.args.nt.now c.args.slab.now in
    record { carried = rw c.in-ReadAt.is (c.read.ensures (lent)); none_below_2 = c.requires.none_below }

pub returns-in-Reclaim : goal.returns-in-Reclaim
returns-in-Reclaim c =
    let lent : Tables = tables c.args.bt.now c.args.rt.now c.args.pt.now c.args.nt.now c.args.slab.now in
    record { carried = rw c.in-Reclaim.is (c.reclaim.ensures (lent)); none_below_2 = λ k l e. absurd (not-suc-le-zero l) }

pub returns-in-Give : goal.returns-in-Give
returns-in-Give c =
    let lent : Tables = tables c.args.bt.now c.args.rt.now c.args.pt.now c.args.nt.now c.args.slab.now in
    record { carried = rw c.in-Give.is (c.give.ensures (lent)); none_below_2 = c.requires.none_below }

pub returns-in-Withdraw : goal.returns-in-Withdraw
returns-in-Withdraw c =
    let lent : Tables = tables c.args.bt.now c.args.rt.now c.args.pt.now c.args.nt.now c.args.slab.now in
    record { carried = rw c.in-Withdraw.is (c.withdraw.ensures (lent)); none_below_2 = c.requires.none_below }
