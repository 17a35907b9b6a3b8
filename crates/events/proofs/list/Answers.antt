-- Every key is laid, so the sort has the events in order.
use Rattle.std.proofs.Common.{arith}
use Rattle.rows.proofs.Laws.{branch_count}
use Rattle.events.proofs.Keying.{keys_of, keyed}
use Rattle.events.proofs.list.Goals as goal

pub returns-clause-keyed : goal.returns-clause-keyed
returns-clause-keyed c =
    let p = c.requires.branches_in in
    keyed c.requires.line (omega (arith, branch_count c.args.bt.now)) c.requires.held p.2 (keys_of p.2 p.1 c.put_wanted.ensures c.put_cuts.ensures) c.sort.ensures.sorted
