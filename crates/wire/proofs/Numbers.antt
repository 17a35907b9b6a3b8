-- A number as four bytes.
use Prim.Native.Nat.{ℕ, ◌/◌, ◌%◌}
use mathlib.Core.Path.{◌≡◌}
use mathlib.Core.List.{[], ◌∷◌}
use native.Mathlib.Nat.{div-one}
use Rattle.model.specs.Wire.{bytes}

-- four bytes, as they are stored
pub four_bytes : (n : ℕ) → bytes 4 n ≡ n / 16777216 % 256 ∷ n / 65536 % 256 ∷ n / 256 % 256 ∷ n % 256 ∷ []
unfolding bytes
four_bytes n = rw (div-one n)
