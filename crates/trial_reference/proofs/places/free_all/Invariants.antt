use Rattle.std.proofs.Common.{◌≡◌, length}
use Rattle.trial_reference.proofs.places.free_all.Given as goal

-- `places::free_all` keeps the length of the table.
abbrev pub invariant-loop-p : goal.invariant-loop-p
invariant-loop-p l = length l.w ≡ length l.initial.w
