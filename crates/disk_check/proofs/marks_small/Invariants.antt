use mathlib.Core.Path.{◌≡◌}
use mathlib.Core.Bool.{◌&&◌}
use lib.Dec.{leb}
use lib.ListN.{drop}
use Rattle.live.specs.Live.{marks_small}
use Rattle.disk_check.proofs.marks_small.Given as goal

abbrev pub invariant-loop-m : goal.invariant-loop-m
invariant-loop-m l = marks_small l.marks ≡ (leb l.most 3 && marks_small (drop l.m-index l.marks))
