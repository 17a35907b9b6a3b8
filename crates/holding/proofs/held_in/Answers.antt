use native.Mathlib.Omega.{arith}
use Rattle.rows.specs.Rows.{branch_rows_of}
use Rattle.holding.proofs.Chain.{passes_some}
use Rattle.holding.proofs.held_in.Goals as goal

pub overflow_sub-n : goal.overflow_sub-n
overflow_sub-n c = passes_some c.args.floor (branch_rows_of c.args.bt.now) c.args.n c.requires.n_value

pub held_from-seen-requires-clause-branches_in : goal.held_from-seen-requires-clause-branches_in
held_from-seen-requires-clause-branches_in c =
    (c.requires.branches_in, omega (arith, passes_some c.args.floor (branch_rows_of c.args.bt.now) c.args.n c.requires.n_value))
