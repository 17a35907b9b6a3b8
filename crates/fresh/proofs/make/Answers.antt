-- `fresh::make` meets its contract: the sizes are tested before any table is touched.
use mathlib.Core.Path.{sym, ap, ◌∙◌}
use native.Mathlib.Omega.{arith}
use lib.ListN.{length}
use Rattle.soundness.proofs.Sizes.{lengths→}
use Rattle.rows.proofs.Laws.{length_zeros}
use Rattle.fresh.proofs.Fresh.{refused, made_by}
use Rattle.fresh.proofs.make.Goals as goal

pub returns-then-not-allowed : goal.returns-then-not-allowed
returns-then-not-allowed c = refused (sym c.sizes_allowed-allowed.ensures ∙ c.if-not-allowed.true)

pub set_branch-requires : goal.set_branch-requires
set_branch-requires c =
    omega (
      arith,
      ap length c.clear.ensures,
      length_zeros (length c.args.bt.now),
      (lengths→ (sym c.sizes_allowed-allowed.ensures ∙ c.if-not-allowed.false)).allowed.branches_low,
    )

pub returns : goal.returns
returns c =
    made_by (sym c.sizes_allowed-allowed.ensures ∙ c.if-not-allowed.false) c.clear.ensures c.set_branch.ensures
    c.clear-2.ensures c.clear-3.ensures c.clear-4.ensures
