-- The worked session of document 01, P1 to P12, as one table through the bytes of requests and answers, and the fact that it holds.
use Rattle.std.specs.Prelude.{ℕ, ◌*◌, ◌≡◌, refl, List, [], ◌∷◌, map, Bool, true, false, ◌&&◌, eqb, replicate}
use Rattle.model.specs.Store.{Store, keep, any, branches, newest, records, names, page_at, with_page}
use Rattle.model.specs.Lookup.{is_readable, holds, ancestry, within, latest, first_found, lookup, any_up_to, is_given}
use Rattle.model.specs.Soundness.{sizes_allowed, in_range, chained, branches_sound, names_sound, rows_sound, precedes, ascending, by_itself, placed, used, records_sound, table_check}
use Rattle.model.specs.Wire.{number, bytes, packed, by_operation, parse, answer_bytes}
use Rattle.model.specs.Step.{first_free, before, inserted, do_write, do_mark, branched, do_revert, do_read, stays, landing, settled, reclaimed, do_reclaim, step}
use Rattle.model.specs.Fresh.{fresh, program_store}
use Rattle.model.specs.Batch.{Run, run, batch}

abbrev pub same_list : List ℕ → List ℕ → Bool
same_list [] [] = true
same_list [] (y ∷ ys) = false
same_list (x ∷ xs) [] = false
same_list (x ∷ xs) (y ∷ ys) = eqb x y && same_list xs ys

-- a page that repeats one letter
abbrev pub letter : ℕ → List ℕ
letter n = replicate 256 n

-- the bytes of requests at address 5
abbrev pub writes : ℕ → List ℕ
writes l = 0x20 ∷ 0x00 ∷ 0xA0 ∷ 0x00 ∷ 0x00 ∷ 0x00 ∷ 0x00 ∷ letter l

abbrev pub marks : List ℕ
marks = 0x40 ∷ 0x00 ∷ 0x00 ∷ 0x00 ∷ 0x00 ∷ 0x00 ∷ 0x00 ∷ []

abbrev pub reverts : ℕ → List ℕ
reverts m = 0x60 ∷ 0x00 ∷ 0x00 ∷ 0x00 ∷ 0x00 ∷ 0x00 ∷ m * 32 ∷ []

abbrev pub reads : ℕ → List ℕ
reads m = 0x80 ∷ 0x00 ∷ 0xA0 ∷ 0x00 ∷ 0x00 ∷ 0x00 ∷ m * 32 ∷ []

abbrev pub reclaims : ℕ → List ℕ
reclaims m = 0xA0 ∷ 0x00 ∷ 0x00 ∷ 0x00 ∷ 0x00 ∷ 0x00 ∷ m * 32 ∷ []

-- the bytes of answers: a number; a number with a page and, between them, its date; a refusal
abbrev pub says : ℕ → List ℕ
says n = 0x00 ∷ 0x00 ∷ 0x00 ∷ 0x00 ∷ n ∷ []

abbrev pub gives : ℕ → ℕ → ℕ → List ℕ
gives n date l = 0x02 ∷ 0x00 ∷ 0x00 ∷ 0x00 ∷ n ∷ 0x00 ∷ 0x00 ∷ 0x00 ∷ date ∷ letter l

abbrev pub refuses : ℕ → List ℕ
refuses r = r * 4 ∷ 0x00 ∷ 0x00 ∷ 0x00 ∷ 0x00 ∷ []

-- a request, its answer, and then the starts of the counted branches and the number of records
pub record Row : Type 0 where
  pub ask : List ℕ
  pub said : List ℕ
  pub starts : List ℕ
  pub count : ℕ

-- each request as a batch of its own, on the store that the last one left
unfoldable pub agrees : Store → List Row → Bool
agrees s [] = true
agrees s (e ∷ es) =
    let r : Run = batch s e.ask 265 in
    eqb r.stop 0 && (same_list r.out e.said && (same_list (map (λ b. b.start) (branches r.store)) e.starts
    && (eqb r.store.head.records e.count && agrees r.store es)))

-- P1 to P10
abbrev pub p1_to_10 : List Row
p1_to_10 =
    record { ask = reads 0; said = says 0; starts = 0 ∷ []; count = 0 }
    ∷ record { ask = writes 65; said = says 0; starts = 0 ∷ []; count = 1 }
    ∷ record { ask = marks; said = says 0; starts = 0 ∷ []; count = 1 }
    ∷ record { ask = writes 66; said = says 1; starts = 0 ∷ []; count = 2 }
    ∷ record { ask = marks; said = says 1; starts = 0 ∷ []; count = 2 }
    ∷ record { ask = writes 67; said = says 2; starts = 0 ∷ []; count = 3 }
    ∷ record { ask = reverts 0; said = says 2; starts = 0 ∷ 3 ∷ []; count = 3 }
    ∷ record { ask = reads 3; said = gives 3 0 65; starts = 0 ∷ 3 ∷ []; count = 3 }
    ∷ record { ask = writes 68; said = says 3; starts = 0 ∷ 3 ∷ []; count = 4 }
    ∷ record { ask = reverts 2; said = says 3; starts = 0 ∷ 3 ∷ 4 ∷ []; count = 4 }
    ∷ record { ask = reads 4; said = gives 4 2 67; starts = 0 ∷ 3 ∷ 4 ∷ []; count = 4 }
    ∷ record { ask = reads 3; said = gives 3 3 68; starts = 0 ∷ 3 ∷ 4 ∷ []; count = 4 }
    ∷ record { ask = reads 2; said = gives 2 2 67; starts = 0 ∷ 3 ∷ 4 ∷ []; count = 4 }
    ∷ record { ask = reads 1; said = gives 1 1 66; starts = 0 ∷ 3 ∷ 4 ∷ []; count = 4 }
    ∷ record { ask = reclaims 3; said = says 2; starts = 0 ∷ 3 ∷ 4 ∷ []; count = 2 }
    ∷ record { ask = reads 2; said = refuses 8; starts = 0 ∷ 3 ∷ 4 ∷ []; count = 2 }
    ∷ record { ask = reclaims 4; said = says 1; starts = 0 ∷ 4 ∷ []; count = 1 }
    ∷ record { ask = reads 4; said = gives 4 2 67; starts = 0 ∷ 4 ∷ []; count = 1 }
    ∷ []

-- P11: two writes to address 5 are one record. P12: after one mark a revert to 1 gets 9, then one to 0 gives number 1
abbrev pub p11 : List Row
p11 =
    record { ask = writes 65; said = says 0; starts = 0 ∷ []; count = 1 }
    ∷ record { ask = writes 66; said = says 0; starts = 0 ∷ []; count = 1 }
    ∷ record { ask = reads 0; said = gives 0 0 66; starts = 0 ∷ []; count = 1 }
    ∷ []

abbrev pub p12 : List Row
p12 =
    record { ask = marks; said = says 0; starts = 0 ∷ []; count = 0 }
    ∷ record { ask = reverts 1; said = refuses 9; starts = 0 ∷ []; count = 0 }
    ∷ record { ask = reverts 0; said = says 1; starts = 0 ∷ 2 ∷ []; count = 0 }
    ∷ []

unfoldable pub all_agree : Store → List (List Row) → Bool
all_agree s [] = true
all_agree s (t ∷ ts) = agrees s t && all_agree s ts

pub session : all_agree (program_store (replicate 32768 0)) (p1_to_10 ∷ p11 ∷ p12 ∷ []) ≡ true
unfolding agrees all_agree keep any branches newest records names page_at with_page holds ancestry within latest first_found lookup any_up_to is_given sizes_allowed in_range chained branches_sound names_sound rows_sound precedes ascending by_itself placed used records_sound table_check number bytes packed by_operation parse answer_bytes first_free before inserted do_write do_mark branched do_revert do_read stays landing settled reclaimed do_reclaim step fresh run batch is_readable
session = refl
