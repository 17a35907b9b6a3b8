use Rattle.lent.specs.Lent.{lent}
use Rattle.lent.proofs.Lending.{many_fresh_leaves}
use Rattle.lent.proofs.make_fresh.Goals as goal

-- more rows than a branch table may have
pub returns-then-branches-gt-MOST_ROWS : goal.returns-then-branches-gt-MOST_ROWS
returns-then-branches-gt-MOST_ROWS c =
    let s = c.args in
    many_fresh_leaves s.head.now (lent s.branches.now s.rt.now s.pt.now s.nt.now s.slab.now) c.if-branches-gt-MOST_ROWS.true s.size
