use Rattle.model.specs.Step.{shifted}
use Rattle.writing.proofs.Laws.{Mapped}
use Rattle.writing.proofs.shift_places.Given as goal

abbrev pub invariant-loop-k : goal.invariant-loop-k
invariant-loop-k l = Mapped (shifted l.at) l.initial.pt l.pt l.k-index
