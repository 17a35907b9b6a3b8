use mathlib.Core.Path.{sym}
use native.Mathlib.Omega.{arith}
use Rattle.model.proofs.Steps.{found_inside}
use Rattle.rows.specs.View.{tables}
use Rattle.live_pages.proofs.Spots.{sound_searchable}
use Rattle.copying.proofs.Laws.{at, bring_none, bring_some}
use Rattle.copying.proofs.bring.Goals as goal

pub find_now-found-requires : goal.find_now-found-requires
find_now-found-requires c =
    let k = c.requires.0 in
    sound_searchable c.args.head (tables c.args.bt.now c.args.rt.now k.places k.names c.args.slab.now) k.fit.sound

pub slice_bounds-put_page-end : goal.slice_bounds-put_page-end
slice_bounds-put_page-end c =
    let k = c.requires.0 in
    omega (
      arith,
      found_inside (at c.args.head c.args.bt.now c.args.rt.now c.args.slab.now k.places k.names) k.fit.sound c.args.a c.args.head.now c.in-Row.r
          (sym (c.in-Row.ensures (tables c.args.bt.now c.args.rt.now k.places k.names c.args.slab.now))),
    )

pub returns-in-Nothing : goal.returns-in-Nothing
returns-in-Nothing c =
    λ pt nt.
    bring_none (at c.args.head c.args.bt.now c.args.rt.now c.args.slab.now pt nt) c.args.disk.now c.args.marks.now c.args.a
    (c.in-Nothing.ensures (tables c.args.bt.now c.args.rt.now pt nt c.args.slab.now))

pub returns-in-Row : goal.returns-in-Row
returns-in-Row c =
    λ pt nt.
    bring_some (at c.args.head c.args.bt.now c.args.rt.now c.args.slab.now pt nt) c.args.disk.now c.args.marks.now c.args.a c.in-Row.r _
    (c.in-Row.ensures (tables c.args.bt.now c.args.rt.now pt nt c.args.slab.now)) c.put_page.ensures
