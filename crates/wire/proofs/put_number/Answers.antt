use Prim.Native.Nat.{◌/◌, ◌%◌}
use mathlib.Core.List.{[], ◌∷◌}
use native.Mathlib.Omega.{arith}
use lib.Seq.{sets-eq}
use Rattle.wire.proofs.Numbers.{four_bytes}
use Rattle.wire.proofs.put_number.Goals as goal

pub returns : goal.returns
returns c =
    let x = c.args.x in
    rw (four_bytes x) (sets-eq (x / 16777216 % 256 ∷ x / 65536 % 256 ∷ x / 256 % 256 ∷ x % 256 ∷ []) c.args.out.now 0 (omega (arith, c.requires)))
