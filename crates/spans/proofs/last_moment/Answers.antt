use Rattle.rows.specs.Rows.{branch_rows_of}
use Rattle.spans.proofs.Tabling.{last_of, last_none}
use Rattle.spans.proofs.last_moment.Goals as goal

pub returns-then-c-gt0 : goal.returns-then-c-gt0
returns-then-c-gt0 c = last_of (branch_rows_of c.args.bt.now) c.args.i c.args.keys.now c.args.c c.branch_at-b.ensures c.if-c-gt0.true c.min.ensures

pub returns : goal.returns
returns c = last_none (branch_rows_of c.args.bt.now) c.args.i c.args.keys.now c.args.c c.branch_at-b.ensures c.if-c-gt0.false
