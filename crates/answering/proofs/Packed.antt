-- An answer's first five bytes, as they are stored.
use Prim.Native.Nat.{ℕ, ◌+◌, ◌*◌, ◌/◌, ◌%◌, ◌<◌}
use mathlib.Core.Path.{◌≡◌, refl, ◌∙◌}
use mathlib.Core.List.{[], ◌∷◌}
use native.Mathlib.Omega.{arith}
use Rattle.model.specs.Wire.{bytes, packed}
use Rattle.model.proofs.Bytes.{packed_join}
use Rattle.answering.specs.Answers.{head_bytes}

-- an answer's first byte has the refusal and the page's presence, and the four bytes of the number follow
pub head_bytes_lem : (refusal present value : ℕ) → refusal < 64 → present < 2 → value < 4294967296
    → head_bytes refusal present value ≡ (refusal * 4 + present * 2) ∷ bytes 4 value
unfolding head_bytes bytes packed
head_bytes_lem refusal present value hr hp hv =
    let first : (((0 + refusal) * 2 + present) * 2 + 0) / 1 % 256 ≡ refusal * 4 + present * 2 = omega arith in
    let last : 0 + value ≡ value = omega arith in
    packed_join 1 4 (record { width = 6; value = refusal } ∷ record { width = 1; value = present } ∷ record { width = 1; value = 0 } ∷ []) (record { width = 32; value = value } ∷ [])
    (hv, tt) refl
    ∙ (λ j. first j ∷ bytes 4 (last j))
