-- What the search for a free place begins with, and gives.
use Rattle.std.specs.Prelude.{◌≡◌, List, ℕ, ◌<◌, get_or, Option, Some, None}
use Rattle.std.proofs.Math.Option.{some, none}
use Rattle.std.proofs.Math.Option as model

-- no place below this one is free
abbrev pub NoneBelow : ℕ → List ℕ → Type 0
NoneBelow low pt = (k : ℕ) → k < low → get_or pt k 0 ≡ 0 → ⊥

-- the place found, if one is free
abbrev pub free_of : Option ℕ → model.Option ℕ
free_of (Some p) = some p
free_of None = none
