use mathlib.Core.Path.{◌≡◌}
use lib.ListN.{length}
use lib.Seq.{paste}
use Rattle.writing.proofs.put_page.Given as goal

abbrev pub invariant-loop-i : goal.invariant-loop-i
invariant-loop-i l = (l.slab ≡ paste l.initial.slab l.base l.page l.i) × (length l.slab ≡ length l.initial.slab)
