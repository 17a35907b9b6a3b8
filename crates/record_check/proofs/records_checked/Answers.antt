use native.Mathlib.Omega.{arith}
use borrow.Author.Tests.{not-true}
use Rattle.rows.specs.Rows.{branch_rows_of}
use Rattle.model.specs.ByNumber.{newest_of}
use Rattle.holding.proofs.Chain.{passes_some, chained_unbroken}
use Rattle.record_check.proofs.Records.{none_kept, found_broken, found_count, found_none}
use Rattle.record_check.proofs.records_checked.Goals as goal

pub loop-i-init : goal.loop-i-init
loop-i-init c =
    (passes_some c.args.head.floor (branch_rows_of c.args.bt.now) c.args.head.branches c.requires.branches_value, none_kept _ _ _ _)

pub returns-then-not-seen : goal.returns-then-not-seen
returns-then-not-seen c =
    found_broken _ _ _ _ c.requires.branches_in.1 c.loop-i.i c.loop-i-test.true c.loop-i.invariant.1 c.row_kept-seen.ensures.1 (not-true _ c.if-not-seen.true)

pub returns-then-u-n : goal.returns-then-u-n
returns-then-u-n c =
    found_count _ _ _ _ c.requires.branches_in.1 (λ t j m. c.loop-i.invariant.1 t j (omega arith)) (λ e. omega (arith, c.if-u-n.true, c.in_use-u.ensures))

pub returns : goal.returns
returns c =
    found_none _ _ _ _ c.requires.branches_in.1 (λ t j m. c.loop-i.invariant.1 t j (omega arith)) (omega (arith, c.if-u-n.false, c.in_use-u.ensures))

pub row_kept-seen-requires-clause-branches_value :
    goal.row_kept-seen-requires-clause-branches_value
row_kept-seen-requires-clause-branches_value c =
    rw c.unbroken_from-low.ensures (chained_unbroken c.args.head.floor (newest_of (branch_rows_of c.args.bt.now) c.args.head.branches) c.requires.branches_value)
