use mathlib.Core.Path.{◌≡◌}
use Prim.Native.Nat.{◌-◌}
use lib.ListN.{length}
use Rattle.live.specs.Live.{disk_of}
use Rattle.rows.specs.View.{tables, store_of, laid}
use Rattle.writing.specs.Free.{NoneBelow}
use Rattle.batch.proofs.Following.{Under}
use Rattle.batch.proofs.run.Given as goal

abbrev pub invariant-loop-q : goal.invariant-loop-q
invariant-loop-q l =
    (length l.bt ≡ length l.initial.bt)
    × (length l.rt ≡ length l.initial.rt)
    × (length l.pt ≡ length l.initial.pt)
    × (length l.nt ≡ length l.initial.nt)
    × (length l.slab ≡ length l.initial.slab)
    × Under (store_of l.initial.head (tables l.initial.bt l.initial.rt l.initial.pt l.initial.nt l.initial.slab)) l.input l.initial.answers (disk_of l.initial.disk l.initial.marks) (store_of l.head (tables l.bt l.rt l.pt l.nt l.slab)) l.answers (disk_of l.disk l.marks) l.answered l.at l.out
    × (tables l.bt l.rt l.pt l.nt l.slab ≡ laid (store_of l.head (tables l.bt l.rt l.pt l.nt l.slab)) (tables l.initial.bt l.initial.rt l.initial.pt l.initial.nt l.initial.slab))
    × NoneBelow l.low l.pt
    × (length l.disk ≡ length l.initial.disk)
    × (length l.marks ≡ length l.initial.marks)

abbrev pub decreases-loop-q : goal.decreases-loop-q
decreases-loop-q l = length l.input - l.at
