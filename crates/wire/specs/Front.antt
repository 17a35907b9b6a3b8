-- Bytes at the front of an area.
use Rattle.std.specs.Prelude.{List, ◌++◌, ℕ, length, drop}

-- bytes put at the front of an area; what is past them is untouched
abbrev pub in_front : List ℕ → List ℕ → List ℕ
in_front xs area = xs ++ drop (length xs) area
