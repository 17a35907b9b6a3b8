use Rattle.events.specs.Keys.{wanted_key, Laid}
use Rattle.events.proofs.put_wanted.Given as goal

abbrev pub invariant-loop-q : goal.invariant-loop-q
invariant-loop-q l = Laid (wanted_key l.wanted) 0 l.q l.initial.keys l.keys
