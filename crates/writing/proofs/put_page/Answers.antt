use mathlib.Core.List.{List}
use lib.ListN.{set, get_or, length-set}
use mathlib.Core.Path.{ap, sym, ◌∙◌}
use Prim.Native.Nat.{ℕ, ◌+◌, ◌*◌}
use native.Mathlib.Omega.{arith}
use native.Mathlib.Numerals.{add-one}
use lib.Seq.{paste, paste-suc}
use Rattle.writing.proofs.Laws.{page_end}
use Rattle.writing.proofs.put_page.Goals as goal

pub loop-i-preserved : goal.loop-i-preserved
loop-i-preserved c =
    let at = 256 * c.args.p + c.loop-i.i in
    let x = get_or c.args.page.now c.loop-i.i 0 in (
      ap (λ (y : List ℕ). set y at x) c.loop-i.invariant.0 ∙ paste-suc c.args.slab.now (256 * c.args.p) c.args.page.now c.loop-i.i 0 (omega arith) (omega arith) ∙ ap (λ (k : ℕ). paste c.args.slab.now (256 * c.args.p) c.args.page.now k) (sym (add-one c.loop-i.i)),
      length-set {A = ℕ} c.loop-i.slab at x ∙ c.loop-i.invariant.1,
    )

pub returns : goal.returns
returns c = c.loop-i.invariant.0 ∙ page_end c.args.slab.now c.args.page.now c.args.p c.loop-i.i c.requires.0 (omega (arith, c.loop-i.auto.i-end, c.loop-i-test.false))
