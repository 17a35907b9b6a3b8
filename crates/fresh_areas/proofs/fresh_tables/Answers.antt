use mathlib.Core.Path.{refl}
use Rattle.areas.proofs.Areas.{saved_slab, room_slab}
use Rattle.fresh_areas.proofs.Fresh.{fresh_kept, fresh_saved}
use Rattle.fresh_areas.proofs.fresh_tables.Goals as goal

pub returns-then-made-ne0 : goal.returns-then-made-ne0
returns-then-made-ne0 c =
    fresh_kept refl (room_slab _ _ c.requires) c.make-made.ensures c.if-made-ne0.true refl

pub returns : goal.returns
returns c =
    fresh_saved refl (room_slab _ _ c.requires) c.make-made.ensures c.if-made-ne0.false (saved_slab _ _ c.save.ensures)
