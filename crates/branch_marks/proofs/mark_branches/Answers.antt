use lib.ListN.{take}
use Rattle.model.specs.Store.{moments}
use Rattle.rows.specs.Rows.{branch_rows_of, record_rows_of, name_rows_of}
use Rattle.closing.specs.Closed.{marked, keep_by}
use Rattle.branch_marks.proofs.Staying.{stays_filled}
use Rattle.branch_marks.proofs.mark_branches.Goals as goal

pub returns : goal.returns
returns c =
    let a = c.args in
    stays_filled (branch_rows_of a.bt.now) a.floor (moments (take a.k (name_rows_of a.nt.now))) (keep_by (marked a.kept.now) (take a.nr (record_rows_of a.rt.now)))
    c.mark_ends.ensures c.mark_named.ensures c.mark_kept.ensures
