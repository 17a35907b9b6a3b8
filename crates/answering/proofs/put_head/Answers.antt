use Prim.Native.Nat.{ℕ, ◌+◌, ◌*◌}
use mathlib.Core.Path.{refl, sym, ap, ◌∙◌}
use mathlib.Core.List.{List, [], ◌∷◌}
use native.Mathlib.Omega.{arith}
use lib.ListN.{set}
use Rattle.model.specs.Wire.{bytes}
use Rattle.wire.specs.Front.{in_front}
use Rattle.answering.proofs.Packed.{head_bytes_lem}
use Rattle.wire.proofs.Front.{front_one, front_then}
use Rattle.answering.proofs.put_head.Goals as goal

pub returns : goal.returns
returns c =
    let out = c.args.out.now in
    let x : ℕ = c.args.refusal * 4 + c.args.present * 2 in
    front_then (x ∷ []) (bytes 4 c.args.value) out (set out 0 x) _ 1 refl (front_one x out (omega (arith, c.requires))) c.put_number.ensures
    ∙ ap (λ (l : List ℕ). in_front l out) (sym (head_bytes_lem c.args.refusal c.args.present c.args.value (omega arith) (omega arith) (omega arith)))
