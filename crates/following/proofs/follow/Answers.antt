use Rattle.live.specs.Live.{disk_of}
use Rattle.wire.specs.declared.Request.TheVariants.{Write}
use Rattle.wire.proofs.Requests.{page_room}
use Rattle.following.proofs.Laws.{lands_as}
use Rattle.following.proofs.follow.Goals as goal

pub slice_bounds-put_page-end : goal.slice_bounds-put_page-end
slice_bounds-put_page-end c =
    page_room c.args.part.now (lands_as (disk_of c.args.disk.now c.args.marks.now) c.args.part.now c.args.q {v = Write c.in-Write.a} c.in-Write.is (c.requires c.if-refusal-ne0.false)).2
