use Rattle.std.proofs.Common.{◌≡◌, length}
use Rattle.trial_lists.proofs.encoding.lay_disk.Given as goal

-- `encoding::lay_disk` keeps the lengths of both tables.
abbrev pub invariant-loop-a : goal.invariant-loop-a
invariant-loop-a l = (length l.w ≡ length l.initial.w) × (length l.b ≡ length l.initial.b)
