-- Commissioned states by name (change request Three): sessions and single batches through bytes, the name rows they leave, and the fact that they hold.
use Rattle.std.specs.Prelude.{ℕ, zero, suc, ◌-◌, ◌*◌, ◌≡◌, refl, List, [], ◌∷◌, ◌++◌, Bool, true, ◌&&◌, eqb, length, drop, replicate}
use Rattle.model.specs.declared.Name.{Name}
use Rattle.model.specs.Store.{Store, open_end, zero_record, keep, any, branches, newest, records, names, is_called, called, page_at, with_page}
use Rattle.model.specs.Lookup.{is_readable, holds, ancestry, within, latest, first_found, lookup, any_up_to, is_given}
use Rattle.model.specs.Soundness.{sizes_allowed, in_range, chained, branches_sound, names_sound, rows_sound, precedes, ascending, by_itself, placed, used, records_sound, table_check}
use Rattle.model.specs.Wire.{number, bytes, packed, high_of, low_of, by_operation, parse, answer_bytes}
use Rattle.model.specs.Step.{with_names, first_free, before, inserted, do_write, do_mark, branched, do_revert, do_read, stays, landing, settled, reclaimed, do_reclaim, do_give, do_withdraw, step}
use Rattle.model.specs.Fresh.{fresh, program_store}
use Rattle.model.specs.Batch.{Run, run, batch}
use Rattle.worked_examples.specs.Session.{same_list, writes, marks, reverts, reads, reclaims, says, gives, refuses, Row, agrees, all_agree}
use Rattle.worked_examples.specs.Refusals.{Case, holds_all, row, store_with, plain}

-- the bytes of naming moment m by a letter eight times, and of withdrawing that name
abbrev pub gives_name : ℕ → ℕ → List ℕ
gives_name l m = 0xC0 ∷ 0x00 ∷ 0x00 ∷ 0x00 ∷ 0x00 ∷ 0x00 ∷ m * 32 ∷ replicate 8 l

abbrev pub withdraws : ℕ → List ℕ
withdraws l = 0xE0 ∷ 0x00 ∷ 0x00 ∷ 0x00 ∷ 0x00 ∷ 0x00 ∷ 0x00 ∷ replicate 8 l

-- the row of that name: each of its two numbers is four times the letter
abbrev pub row_of_name : ℕ → ℕ → Name
row_of_name l m = record { high = 16843009 * l; low = 16843009 * l; moment = m }

-- the rows of n names, of moment m
abbrev pub rows_of : ℕ → ℕ → List Name
rows_of zero m = []
rows_of (suc n) m = row_of_name n m ∷ rows_of n m

-- a store that holds these names, in the first of its 32 rows
abbrev pub holding : List Name → Store → Store
holding ns s = with_names s (length ns) (ns ++ drop (length ns) s.name_rows)

-- moment 0 is named, and the floor lifted past it: it is read and reverted to, and named again, but no reclaim goes to it; moment 1, unnamed, is 8.
-- One of two names withdrawn, it is readable still
abbrev pub commissioned : List Row
commissioned =
    record { ask = writes 65; said = says 0; starts = 0 ∷ []; count = 1 }
    ∷ record { ask = marks; said = says 0; starts = 0 ∷ []; count = 1 }
    ∷ record { ask = writes 66; said = says 1; starts = 0 ∷ []; count = 2 }
    ∷ record { ask = marks; said = says 1; starts = 0 ∷ []; count = 2 }
    ∷ record { ask = writes 67; said = says 2; starts = 0 ∷ []; count = 3 }
    ∷ record { ask = gives_name 65 0; said = says 0; starts = 0 ∷ []; count = 3 }
    ∷ record { ask = reclaims 2; said = says 1; starts = 0 ∷ []; count = 2 }
    ∷ record { ask = reads 0; said = gives 0 0 65; starts = 0 ∷ []; count = 2 }
    ∷ record { ask = reads 1; said = refuses 8; starts = 0 ∷ []; count = 2 }
    ∷ record { ask = reclaims 0; said = refuses 8; starts = 0 ∷ []; count = 2 }
    ∷ record { ask = gives_name 66 1; said = refuses 8; starts = 0 ∷ []; count = 2 }
    ∷ record { ask = gives_name 66 0; said = says 0; starts = 0 ∷ []; count = 2 }
    ∷ record { ask = reverts 1; said = refuses 8; starts = 0 ∷ []; count = 2 }
    ∷ record { ask = reverts 0; said = says 2; starts = 0 ∷ 3 ∷ []; count = 2 }
    ∷ record { ask = reads 3; said = gives 3 0 65; starts = 0 ∷ 3 ∷ []; count = 2 }
    ∷ record { ask = withdraws 65; said = says 0; starts = 0 ∷ 3 ∷ []; count = 2 }
    ∷ record { ask = reads 0; said = gives 0 0 65; starts = 0 ∷ 3 ∷ []; count = 2 }
    ∷ []

-- a name withdrawn: its moment is 8 at once, and its page goes with the next reclaim, be it to the same floor
abbrev pub freed_later : List Row
freed_later =
    record { ask = writes 65; said = says 0; starts = 0 ∷ []; count = 1 }
    ∷ record { ask = marks; said = says 0; starts = 0 ∷ []; count = 1 }
    ∷ record { ask = writes 66; said = says 1; starts = 0 ∷ []; count = 2 }
    ∷ record { ask = gives_name 65 0; said = says 0; starts = 0 ∷ []; count = 2 }
    ∷ record { ask = reclaims 1; said = says 0; starts = 0 ∷ []; count = 2 }
    ∷ record { ask = withdraws 65; said = says 0; starts = 0 ∷ []; count = 2 }
    ∷ record { ask = reads 0; said = refuses 8; starts = 0 ∷ []; count = 2 }
    ∷ record { ask = gives_name 65 0; said = refuses 8; starts = 0 ∷ []; count = 2 }
    ∷ record { ask = reclaims 1; said = says 1; starts = 0 ∷ []; count = 1 }
    ∷ []

-- so its branch: the row that starts at 2 holds the named moment, and stays until the reclaim after the withdrawal
abbrev pub branch_kept : List Row
branch_kept =
    record { ask = writes 65; said = says 0; starts = 0 ∷ []; count = 1 }
    ∷ record { ask = marks; said = says 0; starts = 0 ∷ []; count = 1 }
    ∷ record { ask = reverts 0; said = says 1; starts = 0 ∷ 2 ∷ []; count = 1 }
    ∷ record { ask = writes 66; said = says 2; starts = 0 ∷ 2 ∷ []; count = 2 }
    ∷ record { ask = reverts 0; said = says 2; starts = 0 ∷ 2 ∷ 3 ∷ []; count = 2 }
    ∷ record { ask = gives_name 65 2; said = says 2; starts = 0 ∷ 2 ∷ 3 ∷ []; count = 2 }
    ∷ record { ask = reclaims 3; said = says 0; starts = 0 ∷ 2 ∷ 3 ∷ []; count = 2 }
    ∷ record { ask = reads 2; said = gives 2 2 66; starts = 0 ∷ 2 ∷ 3 ∷ []; count = 2 }
    ∷ record { ask = withdraws 65; said = says 2; starts = 0 ∷ 2 ∷ 3 ∷ []; count = 2 }
    ∷ record { ask = reclaims 3; said = says 1; starts = 0 ∷ 3 ∷ []; count = 1 }
    ∷ []

-- naming tests 8, 9, 15, 16, and withdrawing 17: now is 4, the floor 3
abbrev pub tests : List Case
tests =
    record { store = plain 4 3; input = gives_name 7 2; space = 5; stop = 0; answered = 1; out = refuses 8 }
    ∷ record { store = plain 4 3; input = gives_name 7 4 ++ gives_name 7 5; space = 10; stop = 0; answered = 2; out = refuses 9 ++ refuses 9 }
    ∷ record { store = plain 4 3; input = gives_name 7 3 ++ (gives_name 7 3 ++ gives_name 8 3); space = 15; stop = 0; answered = 3; out = says 3 ++ (refuses 15 ++ says 3) }
    ∷ record { store = holding (row_of_name 7 3 ∷ []) (plain 4 3); input = gives_name 7 2 ++ gives_name 7 4; space = 10; stop = 0; answered = 2; out = refuses 8 ++ refuses 9 }
    ∷ record { store = plain 4 3; input = withdraws 7 ++ (gives_name 7 3 ++ (withdraws 7 ++ withdraws 7)); space = 20; stop = 0; answered = 4; out = refuses 17 ++ (says 3 ++ (says 3 ++ refuses 17)) }
    ∷ record {
      store = holding (rows_of 32 3) (plain 4 3);
      input = gives_name 5 3 ++ (gives_name 32 3 ++ (gives_name 32 4 ++ (gives_name 32 2 ++ (withdraws 31 ++ gives_name 32 3))));
      space = 30;
      stop = 0;
      answered = 6;
      out = refuses 15 ++ (refuses 16 ++ (refuses 9 ++ (refuses 8 ++ (says 3 ++ says 3))));
    }
    ∷ record { store = holding (rows_of 31 3) (plain 4 3); input = gives_name 31 3 ++ gives_name 32 3; space = 10; stop = 0; answered = 2; out = says 3 ++ refuses 16 }
    ∷ []

-- 11 where the name is cut short, 12 for operation 0 alone, 13 before both: naming has no address, withdrawing neither address nor moment; then 14
abbrev pub shapes : List Case
shapes =
    record { store = plain 4 3; input = 0xC0 ∷ replicate 6 0; space = 0; stop = 11; answered = 0; out = [] }
    ∷ record { store = plain 4 3; input = 0xC0 ∷ replicate 13 0; space = 0; stop = 11; answered = 0; out = [] }
    ∷ record { store = plain 4 3; input = 0xE0 ∷ replicate 6 0; space = 0; stop = 11; answered = 0; out = [] }
    ∷ record { store = plain 4 3; input = marks ++ (0xE0 ∷ replicate 13 0); space = 5; stop = 11; answered = 1; out = says 4 }
    ∷ record { store = plain 4 3; input = 0xC0 ∷ 0x00 ∷ 0x20 ∷ replicate 12 0; space = 99; stop = 13; answered = 0; out = [] }
    ∷ record { store = plain 4 3; input = 0xC0 ∷ 0x00 ∷ 0x20 ∷ replicate 4 0; space = 99; stop = 13; answered = 0; out = [] }
    ∷ record { store = plain 4 3; input = 0xE0 ∷ 0x00 ∷ 0x00 ∷ 0x00 ∷ 0x00 ∷ 0x00 ∷ 0x20 ∷ replicate 8 0; space = 99; stop = 13; answered = 0; out = [] }
    ∷ record { store = plain 4 3; input = 0xE0 ∷ 0x00 ∷ 0x00 ∷ 0x00 ∷ 0x00 ∷ 0x00 ∷ 0x01 ∷ []; space = 99; stop = 13; answered = 0; out = [] }
    ∷ record { store = plain 4 3; input = gives_name 7 3; space = 4; stop = 14; answered = 0; out = [] }
    ∷ record { store = holding (row_of_name 7 3 ∷ []) (plain 4 3); input = withdraws 7; space = 4; stop = 14; answered = 0; out = [] }
    ∷ []

-- check 1: 33 names held, or a name table of 33 rows. Check 2: two equal names, though of two moments; a name at now; a name in the gap from 4 to 5.
-- Names alike in one of their two numbers, two of one moment, and one at the last moment of a row are sound
abbrev pub checks : List Case
checks =
    record { store = holding (rows_of 32 3) (plain 4 3); input = marks; space = 5; stop = 0; answered = 1; out = says 4 }
    ∷ record { store = with_names (plain 4 3) 33 (rows_of 32 3); input = marks; space = 5; stop = 1; answered = 0; out = [] }
    ∷ record { store = with_names (plain 4 3) 33 (rows_of 33 3); input = marks; space = 5; stop = 1; answered = 0; out = [] }
    ∷ record { store = with_names (plain 4 3) 0 (rows_of 33 3); input = marks; space = 5; stop = 1; answered = 0; out = [] }
    ∷ record { store = holding (row_of_name 1 1 ∷ row_of_name 2 1 ∷ row_of_name 1 3 ∷ []) (plain 4 3); input = marks; space = 5; stop = 2; answered = 0; out = [] }
    ∷ record {
      store =
          holding (record { high = 1; low = 2; moment = 1 } ∷ record { high = 2; low = 2; moment = 1 } ∷ record { high = 1; low = 1; moment = 3 } ∷ []) (plain 4 3);
      input = marks;
      space = 5;
      stop = 0;
      answered = 1;
      out = says 4;
    }
    ∷ record { store = holding (row_of_name 1 4 ∷ []) (plain 4 3); input = marks; space = 5; stop = 2; answered = 0; out = [] }
    ∷ record { store = with_names (plain 4 3) 0 (row_of_name 1 4 ∷ rows_of 31 9); input = marks; space = 5; stop = 0; answered = 1; out = says 4 }
    ∷ record {
      store = holding (row_of_name 1 5 ∷ []) (store_with (row 0 3 0 ∷ row 6 open_end 3 ∷ []) (zero_record ∷ []) (0 ∷ []) 0 7 7);
      input = marks;
      space = 5;
      stop = 2;
      answered = 0;
      out = [];
    }
    ∷ record {
      store = holding (row_of_name 1 3 ∷ row_of_name 2 6 ∷ []) (store_with (row 0 3 0 ∷ row 6 open_end 3 ∷ []) (zero_record ∷ []) (0 ∷ []) 0 7 7);
      input = marks;
      space = 5;
      stop = 0;
      answered = 1;
      out = says 7;
    }
    ∷ []

-- a batch on a store, and then the count of names and the name rows, the zero ones at the end left out
pub record Rows : Type 0 where
  pub store : Store
  pub input : List ℕ
  pub count : ℕ
  pub rows : List ℕ

-- name rows, laid one behind the other
abbrev pub flat : List Name → List ℕ
flat [] = []
flat (n ∷ ns) = n.high ∷ n.low ∷ n.moment ∷ flat ns

unfoldable pub rows_all : List Rows → Bool
rows_all [] = true
rows_all (c ∷ cs) =
    let r : Run = batch c.store c.input 99 in
    eqb r.store.head.names c.count && (same_list (flat r.store.name_rows) (c.rows ++ replicate (96 - length c.rows) 0) && rows_all cs)

-- names stand in the order given; a withdrawal closes the gap, and the vacated row becomes zero; the same name can then be given again, behind the others.
-- A name is any 8 bytes, most significant first: eight zero bytes too
abbrev pub tables : List Rows
tables =
    record { store = plain 4 0; input = gives_name 2 3 ++ gives_name 1 0; count = 2; rows = flat (row_of_name 2 3 ∷ row_of_name 1 0 ∷ []) }
    ∷ record {
      store = plain 4 0;
      input = gives_name 2 3 ++ (gives_name 1 0 ++ (gives_name 3 2 ++ withdraws 2));
      count = 2;
      rows = flat (row_of_name 1 0 ∷ row_of_name 3 2 ∷ []);
    }
    ∷ record {
      store = holding (row_of_name 2 3 ∷ row_of_name 1 0 ∷ []) (plain 4 0);
      input = withdraws 2 ++ (gives_name 2 1 ++ withdraws 9);
      count = 2;
      rows = flat (row_of_name 1 0 ∷ row_of_name 2 1 ∷ []);
    }
    ∷ record { store = holding (row_of_name 2 3 ∷ []) (plain 4 0); input = withdraws 2; count = 0; rows = [] }
    ∷ record { store = plain 4 0; input = gives_name 0 3; count = 1; rows = 0 ∷ 0 ∷ 3 ∷ [] }
    ∷ record {
      store = plain 4 0;
      input = 0xC0 ∷ 0x00 ∷ 0x00 ∷ 0x00 ∷ 0x00 ∷ 0x00 ∷ 0x60 ∷ 0x01 ∷ 0x02 ∷ 0x03 ∷ 0x04 ∷ 0x05 ∷ 0x06 ∷ 0x07 ∷ 0x08 ∷ [];
      count = 1;
      rows = 16909060 ∷ 84281096 ∷ 3 ∷ [];
    }
    ∷ []

pub named_sessions : all_agree (program_store (replicate 32768 0)) (commissioned ∷ freed_later ∷ branch_kept ∷ []) ≡ true
unfolding agrees all_agree keep any is_called called branches newest records names page_at with_page holds ancestry within latest first_found lookup any_up_to is_given sizes_allowed in_range chained branches_sound names_sound rows_sound precedes ascending by_itself placed used records_sound table_check number bytes packed high_of low_of by_operation parse answer_bytes first_free before inserted do_write do_mark branched do_revert do_read stays landing settled reclaimed do_reclaim do_give do_withdraw step fresh run batch is_readable
named_sessions = refl

pub named_batches : holds_all (tests ++ (shapes ++ checks)) ≡ true
unfolding holds_all keep any is_called called branches newest records names page_at with_page holds ancestry within latest first_found lookup any_up_to is_given sizes_allowed in_range chained branches_sound names_sound rows_sound precedes ascending by_itself placed used records_sound table_check number bytes packed high_of low_of by_operation parse answer_bytes first_free before inserted do_write do_mark branched do_revert do_read stays landing settled reclaimed do_reclaim do_give do_withdraw step run batch is_readable
named_batches = refl

pub named_rows : rows_all tables ≡ true
unfolding rows_all keep any is_called called branches newest records names page_at with_page holds ancestry within latest first_found lookup any_up_to is_given sizes_allowed in_range chained branches_sound names_sound rows_sound precedes ascending by_itself placed used records_sound table_check number bytes packed high_of low_of by_operation parse answer_bytes first_free before inserted do_write do_mark branched do_revert do_read stays landing settled reclaimed do_reclaim do_give do_withdraw step run batch is_readable
named_rows = refl
