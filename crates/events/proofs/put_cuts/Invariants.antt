use Rattle.rows.specs.Rows.{branch_rows_of}
use Rattle.events.specs.Keys.{cut_key, Laid}
use Rattle.events.proofs.put_cuts.Given as goal

abbrev pub invariant-loop-i : goal.invariant-loop-i
invariant-loop-i l = Laid (cut_key (branch_rows_of l.bt)) l.at l.i l.initial.keys l.keys
