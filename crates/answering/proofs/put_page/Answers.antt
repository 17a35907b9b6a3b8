use Prim.Native.Nat.{◌+◌, ◌*◌, ◌-◌}
use mathlib.Core.Path.{◌≡◌}
use native.Mathlib.Omega.{arith}
use Rattle.model.specs.Store.{page_at}
use Rattle.answering.proofs.put_page.Goals as goal

pub returns : goal.returns
unfolding page_at
returns c =
    let at : c.args.place * 256 ≡ 256 * c.args.place = omega arith in
    let n : 256 * c.args.place + 256 - 256 * c.args.place ≡ 256 = omega arith in
    rw (at, n) at c.copy.ensures
