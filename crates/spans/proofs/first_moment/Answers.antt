use Rattle.rows.specs.Rows.{branch_rows_of}
use Rattle.spans.proofs.Tabling.{first_of_lem, first_none}
use Rattle.spans.proofs.first_moment.Goals as goal

pub returns-then-c-ne : goal.returns-then-c-ne
returns-then-c-ne c = first_of_lem (branch_rows_of c.args.bt.now) c.args.i c.args.keys.now c.args.ne c.args.c c.branch_at-b.ensures c.if-c-ne.true c.max.ensures

pub returns : goal.returns
returns c = first_none (branch_rows_of c.args.bt.now) c.args.i c.args.keys.now c.args.ne c.args.c c.branch_at-b.ensures c.if-c-ne.false
