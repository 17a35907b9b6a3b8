-- `reclaim::settle` meets its contract: marks, cuts and rows are those of the branches that stay.
use lib.ListN.{take}
use Rattle.model.specs.Store.{moments}
use Rattle.rows.specs.Rows.{record_rows_of, name_rows_of}
use Rattle.closing.specs.Closed.{marked, keep_by}
use Rattle.reclaim.proofs.Settles.{settles}
use Rattle.reclaim.proofs.settle.Goals as goal

pub returns : goal.returns
returns c =
    settles c.args.floor (moments (take c.args.k (name_rows_of c.args.nt.now))) (keep_by (marked c.args.kept.now) (take c.args.nr (record_rows_of c.args.rt.now))) c.args.bt.now c.args.n c.requires.branches_in.0 c.requires.line c.requires.first
    c.mark_branches.ensures c.take_over.ensures c.take_over.auto.bt c.close_branches.ensures
