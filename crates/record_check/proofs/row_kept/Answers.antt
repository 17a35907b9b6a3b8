use mathlib.Core.Path.{sym, ◌∙◌}
use native.Mathlib.Omega.{arith}
use Rattle.record_check.proofs.Records.{row_late, row_broken, row_held}
use Rattle.record_check.proofs.row_kept.Goals as goal
use Rattle.record_check.proofs.row_kept.Goals.{else-i-gt0-via-then-i-gt0+else-not-after, else-i-gt0-via-else-i-gt0, then-pt-p-via-then-pt-p, then-pt-p-via-else-pt-p+then-pt-p-2}

pub returns-then-not-after : goal.returns-then-not-after
returns-then-not-after c =
    (c.requires.branches_in.3, row_late _ _ _ _ c.args.i c.requires.branches_in.2 (omega (arith, c.if-i-gt0.true)) (sym c.after.ensures ∙ c.if-not-after.true))

-- a record that breaks a rule by itself
pub returns-then-head-r : goal.returns-then-head-r
returns-then-head-r c =
    (c.requires.branches_in.3, row_broken _ _ _ _ c.args.i c.requires.branches_in.2 c.record_at-r.ensures (λ t z. omega (arith, z)))

pub returns-then-pt-p : goal.returns-then-pt-p
returns-then-pt-p c = (
  c.requires.branches_in.3,
  row_broken _ _ _ _ c.args.i c.requires.branches_in.2 c.record_at-r.ensures
      (λ t z. elim c.then-pt-p.branch [ then-pt-p-via-then-pt-p w ↦ omega (arith, z) | then-pt-p-via-else-pt-p+then-pt-p-2 w ↦ omega (arith, z) ]),
)

-- a record that has one before it comes after it
pub returns : goal.returns
returns c = (
  c.held_from.ensures.1,
  row_held _ _ _ _ c.args.i c.requires.branches_in.2 c.record_at-r.ensures c.held_from.ensures.0 (omega arith) (omega arith) (omega arith) (omega arith)
      (λ pos. elim c.else-i-gt0.branch [ else-i-gt0-via-then-i-gt0+else-not-after w ↦ sym w.after.ensures ∙ w.if-not-after.false | else-i-gt0-via-else-i-gt0 w ↦ absurd (omega arith) ]),
)
