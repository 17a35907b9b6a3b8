use Rattle.std.proofs.Common.{◌≡◌, ◌≤◌, length}
use Rattle.trial_words.proofs.rows.hand_down_all.Given as goal

-- `rows::hand_down_all` keeps the length of the table, and counts at most one child for each row.
abbrev pub invariant-loop-j : goal.invariant-loop-j
invariant-loop-j l = (length l.w ≡ length l.initial.w) × (l.children ≤ l.j)
