use Rattle.std.specs.Prelude.{ℕ}
use Rattle.trial_faults.specs.declared.turns.Turn.{Turn}
use Rattle.trial_faults.specs.declared.turns.Turn.TheVariants.{Fresh, Play, ReadBack, Changed, Ended, Live, LiveRefused, Orders, OrdersChanged}

-- the number of a turn
abbrev pub turn_number : Turn → ℕ
turn_number Fresh = 0
turn_number Play = 1
turn_number ReadBack = 2
turn_number Changed = 3
turn_number Ended = 4
turn_number Live = 5
turn_number LiveRefused = 6
turn_number Orders = 7
turn_number OrdersChanged = 8
