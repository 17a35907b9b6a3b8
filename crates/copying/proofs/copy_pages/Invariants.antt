use Rattle.live.specs.Live.{disk_of}
use Rattle.copying.proofs.Laws.{Going}
use Rattle.copying.proofs.copy_pages.Given as goal

abbrev pub invariant-loop-a : goal.invariant-loop-a
invariant-loop-a l = Going l.head l.bt l.rt l.slab (disk_of l.initial.disk l.initial.marks) l.budget (disk_of l.disk l.marks) l.count l.a
