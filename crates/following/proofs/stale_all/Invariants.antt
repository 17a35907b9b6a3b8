use Rattle.live.specs.Live.{staled}
use Rattle.writing.proofs.Laws.{Mapped}
use Rattle.following.proofs.stale_all.Given as goal

abbrev pub invariant-loop-m : goal.invariant-loop-m
invariant-loop-m l = Mapped staled l.initial.marks l.marks l.m-index
