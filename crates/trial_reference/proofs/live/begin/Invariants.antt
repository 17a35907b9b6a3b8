use Rattle.std.proofs.Common.{◌≡◌, length}
use Rattle.trial_reference.proofs.live.begin.Given as goal

-- `live::begin` keeps the length of the table.
abbrev pub invariant-loop-a : goal.invariant-loop-a
invariant-loop-a l = length l.w ≡ length l.initial.w
