use Rattle.std.proofs.Common.{◌≡◌, length}
use Rattle.trial_lists.proofs.lists.spell.Given as goal

-- `lists::spell` keeps the length of the table.
abbrev pub invariant-loop-k : goal.invariant-loop-k
invariant-loop-k l = length l.w ≡ length l.initial.w
