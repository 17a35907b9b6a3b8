-- Numbers as bytes: "each number is four bytes, most significant first".
use Rattle.std.specs.Prelude.{◌≡◌, List, [], ◌∷◌, ℕ, ◌*◌, ◌/◌, length, get_or, take, drop}
use Rattle.model.specs.declared.Head.{Head}
use Rattle.model.specs.Wire.{number, bytes}
use Rattle.rows.specs.Rows.{tab, flat}

-- the number i of those that bytes spell, w bytes each
abbrev pub spelled_at : ℕ → List ℕ → ℕ → ℕ
spelled_at w bs i = number 0 (take w (drop (i * w) bs))

-- the whole numbers that bytes spell, w bytes each
unfoldable pub spelled : ℕ → List ℕ → List ℕ
spelled w bs = tab (length bs / w) (spelled_at w bs)

-- the numbers that bytes spell, four bytes each
abbrev pub numbers_of : List ℕ → List ℕ
numbers_of = spelled 4

-- numbers as bytes, four bytes each
abbrev pub bytes_of : List ℕ → List ℕ
bytes_of = flat (bytes 4)

-- numbers written as bytes; read again, they are the same numbers
pub record Written (ns bs : List ℕ) : Type 0 where
  pub bytes : bs ≡ bytes_of ns
  pub again : numbers_of bs ≡ ns

-- the head's six numbers, in their order: size, branch count, record count, now, floor, name count
abbrev pub head_numbers : Head → List ℕ
head_numbers h = h.size ∷ h.branches ∷ h.records ∷ h.now ∷ h.floor ∷ h.names ∷ []

abbrev pub head_of : List ℕ → Head
head_of ns =
    record { size = get_or ns 0 0; branches = get_or ns 1 0; records = get_or ns 2 0; now = get_or ns 3 0; floor = get_or ns 4 0; names = get_or ns 5 0 }
