-- Head and tables to bytes and back.
use Prim.Native.Nat.{ℕ, ◌%◌, ◌<◌}
use mathlib.Core.Path.{◌≡◌, refl, ap, ◌∙◌}
use mathlib.Core.List.{List, [], ◌∷◌}
use native.Mathlib.Omega.{arith}
use lib.ListN.{length, get_or}
use Rattle.model.specs.declared.Head.{Head}
use Rattle.tables.specs.Numbers.{numbers_of, bytes_of, head_numbers, head_of}
use Rattle.tables.proofs.Spelling.{length_spelled, spelled_flat, flat_spelled}

-- numbers of 32 bits are those that their bytes spell
pub numbers_bytes : (xs : List ℕ) → ((k : ℕ) → get_or xs k 0 < 4294967296) → numbers_of (bytes_of xs) ≡ xs
numbers_bytes = spelled_flat 4 (omega arith)

-- bytes, a whole number of numbers long, are those of the numbers that they spell
pub bytes_numbers : (bs : List ℕ) → length bs % 4 ≡ 0 → ((k : ℕ) → get_or bs k 0 < 256) → bytes_of (numbers_of bs) ≡ bs
bytes_numbers = flat_spelled 4 (omega arith)

-- a head is its six numbers
pub head_numbers_lem : (h : Head) → head_of (head_numbers h) ≡ h
head_numbers_lem h = refl

pub numbers_head : (ns : List ℕ) → length ns ≡ 6 → head_numbers (head_of ns) ≡ ns
numbers_head [] l = absurd (omega arith)
numbers_head (a ∷ []) l = absurd (omega arith)
numbers_head (a ∷ b ∷ []) l = absurd (omega arith)
numbers_head (a ∷ b ∷ c ∷ []) l = absurd (omega arith)
numbers_head (a ∷ b ∷ c ∷ d ∷ []) l = absurd (omega arith)
numbers_head (a ∷ b ∷ c ∷ d ∷ e ∷ []) l = absurd (omega arith)
numbers_head (a ∷ b ∷ c ∷ d ∷ e ∷ f ∷ []) l = refl
numbers_head (a ∷ b ∷ c ∷ d ∷ e ∷ f ∷ g ∷ ns) l = absurd (omega arith)

-- twenty-four bytes are those of the head that they spell
pub bytes_head : (bs : List ℕ) → length bs ≡ 24 → ((k : ℕ) → get_or bs k 0 < 256) → bytes_of (head_numbers (head_of (numbers_of bs))) ≡ bs
bytes_head bs l h =
    let n : length (numbers_of bs) ≡ 6 = length_spelled 4 (omega arith) bs ∙ omega arith in
    let m : length bs % 4 ≡ 0 = omega arith in
    ap bytes_of (numbers_head (numbers_of bs) n) ∙ bytes_numbers bs m h
