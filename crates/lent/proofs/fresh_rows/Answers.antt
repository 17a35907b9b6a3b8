-- What making a fresh store leaves of the rows' numbers, said of the rows.
use Rattle.std.proofs.Common.{rules, ◌≡◌, ◌*◌, ◌++◌, length, drop}
use Rattle.lent.proofs.Lending.{rest_stays, fresh_back}
use Rattle.lent.proofs.fresh_rows.Goals as goal

pub returns : goal.returns
returns c =
    let s = c.args in
    let u = c.make.new.bt in
    let same : length (u ++ drop (s.count * 4) s.table.now) ≡ length s.table.now = search rules in (
      rest_stays s.count s.table.now c.requires s.rt.now s.pt.now s.nt.now s.slab.now u same,
      fresh_back s.count s.table.now c.requires s.rt.now s.pt.now s.nt.now s.slab.now u same s.head s.size c.make.ensures,
    )
