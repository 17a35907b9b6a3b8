-- The table check in one pass (change request Five): stores, the refusal of their table checks, how many record rows these read, and the fact that they hold.
use Rattle.std.specs.Prelude.{ℕ, ◌≡◌, refl, List, [], ◌∷◌, ◌++◌, Bool, true, ◌&&◌, eqb, set, replicate}
use Rattle.model.specs.declared.Branch.{Branch}
use Rattle.model.specs.declared.Record.{Record}
use Rattle.model.specs.Store.{Store, open_end, keep, any, branches, newest, records, names, is_called, page_at, with_page}
use Rattle.model.specs.Lookup.{is_readable, holds, ancestry, within, latest, first_found, lookup, any_up_to, is_given}
use Rattle.model.specs.Soundness.{sizes_allowed, in_range, chained, branches_sound, names_sound, rows_sound, precedes, ascending, by_itself, placed, used, records_sound, table_check, in_order, read_from, rows_read}
use Rattle.model.specs.Wire.{number, bytes, packed, by_operation, parse, answer_bytes}
use Rattle.model.specs.Step.{first_free, before, inserted, do_write, do_mark, branched, do_revert, do_read, stays, landing, settled, reclaimed, do_reclaim, step}
use Rattle.model.specs.Fresh.{fresh, program_store}
use Rattle.model.specs.Batch.{run, batch}
use Rattle.worked_examples.specs.Session.{Row, p1_to_10, p11, p12}
use Rattle.worked_examples.specs.Refusals.{row, rec, store_with, plain}
use Rattle.worked_examples.specs.Names.{row_of_name, holding}

-- a store, the refusal of its table checks, and how many record rows they read
pub record Reading : Type 0 where
  pub store : Store
  pub refusal : ℕ
  pub rows : ℕ

unfoldable pub reads_all : List Reading → Bool
reads_all [] = true
reads_all (c ∷ cs) = eqb (table_check c.store) c.refusal && (eqb (rows_read c.store) c.rows && reads_all cs)

-- two branches, and a gap from 4 to 5 below the floor
abbrev pub two : List Branch
two = row 0 3 0 ∷ row 6 open_end 3 ∷ []

-- four records and five places, of which the last is free
abbrev pub four : List Record
four = rec 1 0 2 ∷ rec 1 6 0 ∷ rec 3 3 3 ∷ rec 5 8 1 ∷ []

abbrev pub five : List ℕ
five = 2 ∷ 4 ∷ 1 ∷ 3 ∷ 0 ∷ []

-- a store of A 6 with these records and places; four are counted, now is 8, the floor 6
abbrev pub holding_four : List Record → List ℕ → Store
holding_four rs ps = store_with two rs ps 4 8 6

-- another record in row i, counted from 0
abbrev pub with_row : ℕ → Record → Store
with_row i r = holding_four (set four i r) five

-- other records in rows i and j
abbrev pub with_rows : ℕ → Record → ℕ → Record → Store
with_rows i r j q = holding_four (set (set four i r) j q) five

-- another number in place row p
abbrev pub with_place : ℕ → ℕ → Store
with_place p k = holding_four four (set five p k)

-- all rows where the tables pass; a moment at the last of a branch, at the floor, at now; no record; rows past the count are not read
abbrev pub passing : List Reading
passing =
    record { store = holding_four four five; refusal = 0; rows = 4 }
    ∷ record { store = with_row 0 (rec 0 3 2); refusal = 0; rows = 4 }
    ∷ record { store = with_row 3 (rec 5 6 1); refusal = 0; rows = 4 }
    ∷ record { store = with_row 3 (rec 3 8 1); refusal = 0; rows = 4 }
    ∷ record { store = plain 4 3; refusal = 0; rows = 0 }
    ∷ record { store = fresh 64 2 1 1 (replicate 256 0); refusal = 0; rows = 0 }
    ∷ record { store = store_with two (set four 3 (rec 0 9 9)) (set five 1 0) 3 8 6; refusal = 0; rows = 3 }
    ∷ []

-- a rule broken in the first row, in one between and in the last: address not below A; moment above now, and in the gap; no such place;
-- a place that another record has, or that is free; a place row that names another row
abbrev pub alone : List Reading
alone =
    record { store = with_row 0 (rec 6 0 2); refusal = 3; rows = 1 }
    ∷ record { store = with_row 1 (rec 6 6 0); refusal = 3; rows = 2 }
    ∷ record { store = with_row 3 (rec 6 8 1); refusal = 3; rows = 4 }
    ∷ record { store = with_row 0 (rec 0 9 2); refusal = 3; rows = 1 }
    ∷ record { store = with_row 1 (rec 1 9 0); refusal = 3; rows = 2 }
    ∷ record { store = with_row 3 (rec 5 9 1); refusal = 3; rows = 4 }
    ∷ record { store = with_row 0 (rec 1 4 2); refusal = 3; rows = 1 }
    ∷ record { store = with_row 1 (rec 1 5 0); refusal = 3; rows = 2 }
    ∷ record { store = with_row 3 (rec 5 4 1); refusal = 3; rows = 4 }
    ∷ record { store = with_row 0 (rec 1 0 5); refusal = 3; rows = 1 }
    ∷ record { store = with_row 1 (rec 1 6 5); refusal = 3; rows = 2 }
    ∷ record { store = with_row 3 (rec 5 8 5); refusal = 3; rows = 4 }
    ∷ record { store = with_row 0 (rec 1 0 0); refusal = 3; rows = 1 }
    ∷ record { store = with_row 1 (rec 1 6 4); refusal = 3; rows = 2 }
    ∷ record { store = with_row 3 (rec 5 8 2); refusal = 3; rows = 4 }
    ∷ record { store = with_place 2 0; refusal = 3; rows = 1 }
    ∷ record { store = with_place 0 3; refusal = 3; rows = 2 }
    ∷ record { store = with_place 1 5; refusal = 3; rows = 4 }
    ∷ []

-- order, against the row before: two rows alike, wholly and but for the place; the same address and an earlier moment; a smaller address.
-- The first row has none before it
abbrev pub against : List Reading
against =
    record { store = with_row 1 (rec 1 0 2); refusal = 3; rows = 2 }
    ∷ record { store = with_row 1 (rec 1 0 0); refusal = 3; rows = 2 }
    ∷ record { store = with_row 0 (rec 1 7 2); refusal = 3; rows = 2 }
    ∷ record { store = with_row 2 (rec 0 3 3); refusal = 3; rows = 3 }
    ∷ record { store = with_row 3 (rec 3 3 1); refusal = 3; rows = 4 }
    ∷ record { store = with_row 3 (rec 3 2 1); refusal = 3; rows = 4 }
    ∷ record { store = with_row 3 (rec 2 8 1); refusal = 3; rows = 4 }
    ∷ []

-- two rows break a rule: the earlier one is the last that is read, be it by its order or by its place; and one row that breaks both
abbrev pub earlier : List Reading
earlier =
    record { store = with_rows 2 (rec 0 3 3) 3 (rec 5 8 5); refusal = 3; rows = 3 }
    ∷ record { store = with_rows 2 (rec 0 3 3) 1 (rec 1 6 5); refusal = 3; rows = 2 }
    ∷ record { store = with_rows 2 (rec 3 3 5) 3 (rec 2 8 1); refusal = 3; rows = 3 }
    ∷ record { store = with_rows 2 (rec 3 3 5) 1 (rec 0 6 0); refusal = 3; rows = 2 }
    ∷ record { store = with_rows 0 (rec 1 0 5) 3 (rec 2 8 1); refusal = 3; rows = 1 }
    ∷ record { store = with_row 2 (rec 0 3 5); refusal = 3; rows = 3 }
    ∷ record { store = holding_four (replicate 4 (rec 9 9 9)) five; refusal = 3; rows = 1 }
    ∷ []

-- no row breaks a rule, and the number of places in use is not that of the records: all rows are read
abbrev pub miscounted : List Reading
miscounted =
    record { store = with_place 4 1; refusal = 3; rows = 4 }
    ∷ record { store = with_place 4 9; refusal = 3; rows = 4 }
    ∷ record { store = store_with two four five 3 8 6; refusal = 3; rows = 3 }
    ∷ record { store = store_with two four five 0 8 6; refusal = 3; rows = 0 }
    ∷ []

-- 2 and 1 read no record row, whatever the rows are: a cut in its own row; a name in the gap; more records than rows; a floor above now; both
abbrev pub unread : List Reading
unread =
    record { store = store_with (row 0 3 0 ∷ row 6 open_end 6 ∷ []) four five 4 8 6; refusal = 2; rows = 0 }
    ∷ record { store = store_with (row 0 3 0 ∷ row 6 open_end 6 ∷ []) (set four 1 (rec 6 6 0)) five 4 8 6; refusal = 2; rows = 0 }
    ∷ record { store = holding (row_of_name 1 3 ∷ []) (holding_four four five); refusal = 0; rows = 4 }
    ∷ record { store = holding (row_of_name 1 4 ∷ []) (holding_four four five); refusal = 2; rows = 0 }
    ∷ record { store = store_with two four five 5 8 6; refusal = 1; rows = 0 }
    ∷ record { store = store_with two (set four 1 (rec 6 6 0)) five 5 8 6; refusal = 1; rows = 0 }
    ∷ record { store = store_with two four five 4 8 9; refusal = 1; rows = 0 }
    ∷ record { store = store_with (row 0 3 0 ∷ row 6 open_end 6 ∷ []) four five 4 8 9; refusal = 1; rows = 0 }
    ∷ []

-- after each request, sent as a batch of its own, the next one reads all record rows
unfoldable pub reads_on : Store → List Row → Bool
reads_on s [] = true
reads_on s (e ∷ es) =
    let t : Store = (batch s e.ask 265).store in
    eqb (table_check t) 0 && (eqb (rows_read t) e.count && reads_on t es)

unfoldable pub all_read_on : Store → List (List Row) → Bool
all_read_on s [] = true
all_read_on s (t ∷ ts) = reads_on s t && all_read_on s ts

pub rows_told : reads_all (passing ++ (alone ++ (against ++ (earlier ++ (miscounted ++ unread))))) ≡ true
unfolding reads_all keep any is_called branches newest records names holds sizes_allowed in_range chained branches_sound names_sound rows_sound precedes ascending by_itself placed used records_sound table_check in_order read_from rows_read fresh
rows_told = refl

-- P1 to P12
pub session_read : all_read_on (program_store (replicate 32768 0)) (p1_to_10 ∷ p11 ∷ p12 ∷ []) ≡ true
unfolding reads_on all_read_on keep any branches newest records names page_at with_page holds ancestry within latest first_found lookup any_up_to is_given sizes_allowed in_range chained branches_sound names_sound rows_sound precedes ascending by_itself placed used records_sound table_check in_order read_from rows_read number bytes packed by_operation parse answer_bytes first_free before inserted do_write do_mark branched do_revert do_read stays landing settled reclaimed do_reclaim step fresh run batch is_readable
session_read = refl
