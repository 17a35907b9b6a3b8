use Prim.Native.Nat.{◌<◌}
use Rattle.record_check.proofs.Records.{RowsKept}
use Rattle.record_check.proofs.records_checked.Given as goal

abbrev pub invariant-loop-i : goal.invariant-loop-i
invariant-loop-i l = (l.from < l.head.branches) × RowsKept l.head l.bt l.rt l.pt l.i
