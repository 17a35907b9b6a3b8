-- A page comes with its date (change request One): examples through the bytes of a batch, and the fact that they hold.
use Rattle.std.specs.Prelude.{ℕ, ◌≡◌, refl, List, [], ◌∷◌, ◌++◌, true}
use Rattle.model.specs.Store.{Store, open_end, keep, any, branches, newest, records, names, page_at, with_page}
use Rattle.model.specs.Lookup.{is_readable, holds, ancestry, within, latest, first_found, lookup, any_up_to, is_given}
use Rattle.model.specs.Soundness.{sizes_allowed, in_range, chained, branches_sound, names_sound, rows_sound, precedes, ascending, by_itself, placed, used, records_sound, table_check}
use Rattle.model.specs.Wire.{read_at, number, bytes, packed, by_operation, parse, request_bytes, answer_bytes}
use Rattle.model.specs.Step.{first_free, before, inserted, do_write, do_mark, branched, do_revert, do_read, stays, landing, settled, reclaimed, do_reclaim, step}
use Rattle.model.specs.Batch.{run, batch}
use Rattle.worked_examples.specs.Session.{letter, writes, marks, reads, reclaims, says, gives}
use Rattle.worked_examples.specs.Refusals.{Case, holds_all, row, rec, store_with, plain, three}

-- the four bytes of a moment that has none twice, and the moment
abbrev pub late : List ℕ
late = 0x01 ∷ 0x02 ∷ 0x03 ∷ 0x04 ∷ []

abbrev pub late_moment : ℕ
late_moment = 16909060

-- in order: the date is that of the write and not the moment asked, most significant byte first; so up to the last moment; an absent
-- page has no date; a write over a page at one moment keeps its date, a later write has its own, and each moment its page's;
-- after a revert a page has the date that it has at the moment reverted to; a page that a reclaim keeps has its date still, below the floor
abbrev pub dates : List Case
dates =
    record {
      store = plain late_moment 0;
      input = writes 9 ++ (marks ++ request_bytes (read_at 5 16909061));
      space = 275;
      stop = 0;
      answered = 3;
      out = (0x00 ∷ late) ++ ((0x00 ∷ late) ++ (0x02 ∷ 0x01 ∷ 0x02 ∷ 0x03 ∷ 0x05 ∷ (late ++ letter 9)));
    }
    ∷ record {
      store = store_with (row 0 open_end 0 ∷ []) (rec 5 4294967294 0 ∷ []) (1 ∷ []) 1 open_end 0;
      input = request_bytes (read_at 5 open_end);
      space = 265;
      stop = 0;
      answered = 1;
      out = 0x02 ∷ 0xFF ∷ 0xFF ∷ 0xFF ∷ 0xFF ∷ 0xFF ∷ 0xFF ∷ 0xFF ∷ 0xFE ∷ letter 7;
    }
    ∷ record { store = plain 3 0; input = reads 3 ++ marks; space = 10; stop = 0; answered = 2; out = says 3 ++ says 3 }
    ∷ record {
      store = three;
      input = marks ++ (writes 1 ++ (writes 2 ++ (marks ++ (writes 3 ++ (reads 2 ++ (reads 1 ++ reads 0))))));
      space = 999;
      stop = 0;
      answered = 8;
      out = says 0 ++ (says 1 ++ (says 1 ++ (says 1 ++ (says 2 ++ (gives 2 2 3 ++ (gives 1 1 2 ++ says 0))))));
    }
    ∷ record {
      store = store_with (row 0 3 0 ∷ row 4 open_end 1 ∷ []) (rec 5 1 0 ∷ rec 5 3 1 ∷ []) (1 ∷ 2 ∷ []) 2 6 0;
      input = reads 6 ++ (reads 3 ++ reads 1);
      space = 795;
      stop = 0;
      answered = 3;
      out = gives 6 1 7 ++ (gives 3 3 7 ++ gives 1 1 7);
    }
    ∷ record {
      store = three;
      input = writes 1 ++ (marks ++ (marks ++ (reclaims 2 ++ reads 2)));
      space = 285;
      stop = 0;
      answered = 5;
      out = says 0 ++ (says 0 ++ (says 1 ++ (says 0 ++ gives 2 0 1)));
    }
    ∷ []

-- one record, of address 5 at moment 1; now is 4
abbrev pub one : Store
one = store_with (row 0 open_end 0 ∷ []) (rec 5 1 0 ∷ []) (1 ∷ []) 1 4 0

-- 14 measures 265 bytes where a page is found: one byte fewer, or room for a page without its date, is too little
abbrev pub spaces : List Case
spaces =
    record { store = one; input = reads 2; space = 265; stop = 0; answered = 1; out = gives 2 1 7 }
    ∷ record { store = one; input = reads 2; space = 264; stop = 14; answered = 0; out = [] }
    ∷ record { store = one; input = reads 2; space = 261; stop = 14; answered = 0; out = [] }
    ∷ record { store = one; input = reads 0; space = 5; stop = 0; answered = 1; out = says 0 }
    ∷ []

pub dated : holds_all (dates ++ spaces) ≡ true
unfolding holds_all keep any branches newest records names page_at with_page holds ancestry within latest first_found lookup any_up_to is_given sizes_allowed in_range chained branches_sound names_sound rows_sound precedes ascending by_itself placed used records_sound table_check number bytes packed by_operation parse request_bytes answer_bytes first_free before inserted do_write do_mark branched do_revert do_read stays landing settled reclaimed do_reclaim step run batch is_readable
dated = refl
