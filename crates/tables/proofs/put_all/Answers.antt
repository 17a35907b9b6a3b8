use Prim.Native.Nat.{ℕ, suc, ◌<◌, ◌+◌, ◌*◌}
use mathlib.Core.Path.{◌≡◌, refl, ap, ◌∙◌}
use native.Mathlib.Omega.{arith}
use native.Mathlib.Numerals.{add-one}
use lib.ListN.{length, take}
use Rattle.wire.specs.Front.{in_front}
use Rattle.wire.proofs.Front.{front_then, length_front}
use mathlib.Core.List.{List}
use lib.Seq.{length-take-le}
use lib.ListN.{get_or}
use Rattle.model.specs.Wire.{bytes}
use Rattle.rows.specs.Rows.{flat}
use Rattle.tables.specs.Numbers.{numbers_of, bytes_of}
use Rattle.tables.proofs.Spelling.{length_flat}
use Rattle.tables.proofs.RoundTrip.{numbers_bytes}
use Rattle.tables.proofs.Laws.{bytes_next, bytes_all}
use borrow.Author.Rules.{rules}
use Rattle.tables.proofs.put_all.Goals as goal

pub loop-i-init : goal.loop-i-init
unfolding flat
loop-i-init c = (search rules, refl, refl)

pub loop-i-preserved : goal.loop-i-preserved
loop-i-preserved c =
    let i = c.loop-i.i in
    let src = c.args.src.now in
    let h : i < length src = omega arith in
    let xs = bytes_of (take i src) in
    let size : length xs ≡ i * 4 = length_flat 4 (omega arith) (take i src) ∙ omega (arith, length-take-le i src (omega arith)) in
    let e =
    front_then xs (bytes 4 (get_or src i 0)) c.args.dst.now c.loop-i.dst _ (i * 4) size c.loop-i.invariant.2 c.put_number.ensures
    ∙ ap (λ (ys : List ℕ). in_front ys c.args.dst.now) (bytes_next src i h) in
    let more : length (bytes_of (take (suc i) src)) ≡ i * 4 + 4 = length_flat 4 (omega arith) (take (suc i) src) ∙ omega (arith, length-take-le (suc i) src (omega arith)) in
    (omega arith, ap length e ∙ length_front (bytes_of (take (suc i) src)) c.args.dst.now (omega arith), rw (add-one i) e)

pub returns : goal.returns
returns c =
    let src = c.args.src.now in
    let e : c.loop-i.dst ≡ bytes_of src = c.loop-i.invariant.2 ∙ bytes_all src c.args.dst.now c.loop-i.i (omega arith) (omega arith) in
    record { bytes = e; again = ap numbers_of e ∙ numbers_bytes src (λ k. (c.type_inv.src k).fits) }
