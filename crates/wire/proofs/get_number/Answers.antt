use mathlib.Core.Path.{refl, sym, ◌∙◌}
use Prim.Native.Nat.{◌≤◌, ◌<◌, ◌^◌}
use native.Mathlib.Nat.{pow-le-pow_right, pow-suc}
use native.Mathlib.Numerals.{add-one}
use native.Mathlib.Omega.{arith}
use lib.ListN.{length, drop_of_length-le}
use lib.Seq.{drop-cons}
use Rattle.model.specs.Wire.{number}
use Rattle.wire.proofs.get_number.Goals as goal

pub overflow_mul-n : goal.overflow_mul-n
overflow_mul-n c =
    let small : c.loop-i.n < 2 ^ 56 = let h : 256 ^ c.loop-i.i ≤ 256 ^ 7 = pow-le-pow_right {n = 256} (omega arith) {i = c.loop-i.i} {j = 7} (omega arith) in omega arith in
    omega (arith, small)

pub loop-i-preserved : goal.loop-i-preserved
unfolding number
loop-i-preserved c =
    let s = c.args.s.now in
    let h : c.loop-i.i < length s = omega arith in
    let b = c.shared_slice_known-in-loop-i-1.given c.loop-i.i in
    (omega arith, refl, rw (add-one c.loop-i.i, pow-suc) (omega (arith, b)), c.loop-i.invariant.3 ∙ rw (drop-cons s c.loop-i.i 0 h, number, add-one c.loop-i.i, c.wide.ensures))

pub returns : goal.returns
unfolding number
returns c =
    let s = c.args.s.now in
    let h : length s ≤ c.loop-i.i = omega arith in
    sym (c.loop-i.invariant.3 ∙ rw (drop_of_length-le s h, number))
