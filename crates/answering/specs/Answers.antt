-- An answer's parts as bytes, and where its page lies.
use Rattle.std.specs.Prelude.{List, [], ◌∷◌, ℕ, ◌+◌, ◌*◌, ◌≤◌, length}
use Rattle.std.proofs.Math.Option.{Option, some, none}
use Rattle.model.specs.declared.Record.{Record}
use Rattle.model.specs.Wire.{bytes, packed, answer_bytes}
use Rattle.rows.specs.declared.Outcome.{Outcome}
use Rattle.rows.specs.View.{answer_of}

-- the five bytes of an answer without its page: refusal 6 bits, page present 1, spare 1, number 32
unfoldable pub head_bytes : ℕ → ℕ → ℕ → List ℕ
head_bytes refusal present value =
    bytes 5
    (packed 0
    (record { width = 6; value = refusal } ∷ record { width = 1; value = present } ∷ record { width = 1; value = 0 }
    ∷ record { width = 32; value = value } ∷ []))

-- the page of the record that was found, if one was, lies in the slab
abbrev pub Lies : Option Record → List ℕ → Type 0
Lies none slab = Unit {0}
Lies (some r) slab = 256 * r.place + 256 ≤ length slab

-- an outcome's answer as it is sent
abbrev pub sent : Outcome → List ℕ → List ℕ
sent r slab = answer_bytes (answer_of r slab)
