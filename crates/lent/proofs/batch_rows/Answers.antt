-- What the core's batch leaves of the rows' numbers, said of the rows.
use Rattle.std.proofs.Common.{rules, ◌≡◌, ◌*◌, ◌++◌, length, drop}
use Rattle.live.specs.Live.{disk_of}
use Rattle.lent.proofs.Lending.{rest_stays, batch_back}
use Rattle.lent.proofs.batch_rows.Goals as goal

pub returns-clause-table_unchanged : goal.returns-clause-table_unchanged
returns-clause-table_unchanged c =
    let s = c.args in
    let u = c.batch-batched.new.bt in
    let same : length (u ++ drop (s.count * 4) s.table.now) ≡ length s.table.now = search rules in (
      rest_stays s.count s.table.now c.requires s.rt.now s.pt.now s.nt.now s.slab.now u same,
      batch_back s.count s.table.now c.requires s.rt.now s.pt.now s.nt.now s.slab.now u same s.head (disk_of s.disk.now s.marks.now) s.input.now s.answers.now c.batch-batched.ensures.batch_leaves,
    )
