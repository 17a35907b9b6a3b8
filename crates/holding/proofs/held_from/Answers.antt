use mathlib.Core.Path.{sym}
use Rattle.rows.specs.Rows.{branch_rows_of}
use Rattle.holding.proofs.Chain.{table_room, table_stairs, passes_cover}
use Rattle.holding.proofs.Search.{held_above, held_first}
use Rattle.holding.proofs.held_from.Goals as goal

pub returns-then-last-t : goal.returns-then-last-t
returns-then-last-t c =
    let a = c.args in
    let r = c.requires in
    (held_above (branch_rows_of a.bt.now) a.n a.t (table_stairs a.floor a.n a.bt.now r.branches_in.0 r.n_value) (table_room a.n a.bt.now r.branches_in.0) (rw c.branch_at-last.ensures at c.if-last-t.true), r.branches_in.1)

pub returns-then-floor-t : goal.returns-then-floor-t
returns-then-floor-t c =
    let a = c.args in
    let r = c.requires in
    (sym (passes_cover a.floor (branch_rows_of a.bt.now) a.n a.t (table_room a.n a.bt.now r.branches_in.0) r.n_value c.if-floor-t.true (rw c.branch_at-last.ensures at c.if-last-t.false)), r.branches_in.1)

pub row_from-row-requires : goal.row_from-row-requires
row_from-row-requires c =
    let a = c.args in
    let r = c.requires in
    record { from_lt_n = (r.branches_in.1, r.branches_in.0, rw c.branch_at-last.ensures at c.if-last-t.false); stairs = table_stairs a.floor a.n a.bt.now r.branches_in.0 r.n_value }

pub returns : goal.returns
returns c =
    let a = c.args in
    let r = c.requires in
    let row = c.row_from-row in (
      rw c.branch_at-b.ensures (held_first (branch_rows_of a.bt.now) a.n a.t (table_stairs a.floor a.n a.bt.now r.branches_in.0 r.n_value) (table_room a.n a.bt.now r.branches_in.0) row.result row.ensures),
      row.ensures.inside,
    )
