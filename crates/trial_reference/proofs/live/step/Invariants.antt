use Rattle.std.proofs.Common.{◌≤◌}
use Rattle.trial_reference.proofs.live.step.Given as goal

-- `live::step` counts no more than the budget.
abbrev pub invariant-loop-a : goal.invariant-loop-a
invariant-loop-a l = l.count ≤ l.budget
