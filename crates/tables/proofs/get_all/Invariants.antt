use Prim.Native.Nat.{◌≤◌}
use mathlib.Core.Path.{◌≡◌}
use lib.ListN.{length, take}
use Rattle.tables.specs.Numbers.{numbers_of}
use Rattle.tables.proofs.get_all.Given as goal

abbrev pub invariant-loop-i : goal.invariant-loop-i
invariant-loop-i l = (l.i ≤ length l.initial.dst) × (length l.dst ≡ length l.initial.dst) × (take l.i l.dst ≡ take l.i (numbers_of l.src))
