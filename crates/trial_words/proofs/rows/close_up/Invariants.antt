use Rattle.std.proofs.Common.{◌≡◌, length}
use Rattle.trial_words.proofs.rows.close_up.Given as goal

-- `rows::close_up` keeps the length of the table.
abbrev pub invariant-loop-k : goal.invariant-loop-k
invariant-loop-k l = length l.w ≡ length l.initial.w
