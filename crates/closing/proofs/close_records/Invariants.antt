use Rattle.closing.proofs.Closing.{ClosesRecords}
use Rattle.closing.proofs.close_records.Given as goal

abbrev pub invariant-loop-i : goal.invariant-loop-i
invariant-loop-i l = ClosesRecords l.marks l.initial.rt l.initial.pt l.n l.rt l.pt l.i l.w
