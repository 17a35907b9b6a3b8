-- Work orders (change request Seven): sessions through bytes, the counted branch rows and the lists that they leave; refusals; and the facts that they hold.
use Rattle.std.specs.Prelude.{ℕ, ◌+◌, ◌*◌, ◌/◌, ◌%◌, ◌≡◌, refl, List, [], ◌∷◌, ◌++◌, Bool, true, ◌&&◌, eqb, replicate}
use Rattle.model.specs.declared.Branch.{Branch}
use Rattle.model.specs.Store.{Store, open_end, zero_name, keep, any, branches, newest, records, names, is_called, called, page_at, with_page}
use Rattle.model.specs.Lookup.{is_readable, holds, ancestry, within, latest, first_found, lookup, any_up_to, is_given}
use Rattle.model.specs.Soundness.{sizes_allowed, in_range, chained, branches_sound, names_sound, rows_sound, precedes, ascending, by_itself, placed, used, records_sound, table_check}
use Rattle.model.specs.Wire.{number, bytes, packed, high_of, low_of, by_operation, parse, answer_bytes}
use Rattle.model.specs.Step.{first_free, before, inserted, do_write, do_mark, branched, do_revert, do_read, stays, landing, settled, reclaimed, do_reclaim, do_give, do_withdraw, step}
use Rattle.model.specs.Fresh.{fresh, program_store}
use Rattle.model.specs.Batch.{Run, run, batch}
use Rattle.work_orders.specs.Orders.{way_in, orders_in, order_bytes, list_refusal, Listing, listing}
use Rattle.worked_examples.specs.Session.{same_list, writes, marks, reclaims, says, refuses}
use Rattle.worked_examples.specs.Refusals.{Case, holds_all, rec}
use Rattle.worked_examples.specs.Names.{gives_name}
use Rattle.worked_examples.specs.Weekly.{same_rows}

-- the bytes of a revert to a moment below 8, with a work order
abbrev pub reverts_on : ℕ → ℕ → List ℕ
reverts_on m w = (0x60 + w / 2048) ∷ (w / 8 % 256) ∷ (w % 8 * 32) ∷ 0x00 ∷ 0x00 ∷ 0x00 ∷ m * 32 ∷ []

-- a branch row with its work order
abbrev pub row_on : ℕ → ℕ → ℕ → ℕ → Branch
row_on s e c w = record { start = s; end = e; cut = c; order = w }

-- a list asked for at a moment, of an area; its refusal and count, and what the area then holds
pub record Asked : Type 0 where
  pub moment : ℕ
  pub area : List ℕ
  pub refusal : ℕ
  pub count : ℕ
  pub left : List ℕ

unfoldable pub lists_as : Store → List Asked → Bool
lists_as s [] = true
lists_as s (a ∷ more) =
    let x : Listing = listing s a.moment a.area in
    eqb x.report.refusal a.refusal && (eqb x.report.count a.count && (same_list x.area a.left && lists_as s more))

-- a batch, its answers, and then the counted branches and lists
pub record Turn : Type 0 where
  pub ask : List ℕ
  pub said : List ℕ
  pub rows : List Branch
  pub lists : List Asked

-- each batch on the store that the last one left
unfoldable pub ordered_as : Store → List Turn → Bool
ordered_as s [] = true
ordered_as s (e ∷ es) =
    let r : Run = batch s e.ask 999 in
    eqb r.stop 0 && (same_list r.out e.said && (same_rows (branches r.store) e.rows && (lists_as r.store e.lists && ordered_as r.store es)))

-- an area of nines that is just filled by these bytes, and one that has three bytes more
abbrev pub exactly : ℕ → ℕ → List ℕ → Asked
exactly m n out = record { moment = m; area = replicate (2 * n) 9; refusal = 0; count = n; left = out }

abbrev pub with_rest : ℕ → ℕ → List ℕ → Asked
with_rest m n out = record { moment = m; area = replicate (2 * n + 3) 9; refusal = 0; count = n; left = out ++ (9 ∷ 9 ∷ 9 ∷ []) }

-- nothing listed: the area stays
abbrev pub not_listed : ℕ → ℕ → ℕ → Asked
not_listed m space n = record { moment = m; area = replicate space 9; refusal = n; count = 0; left = replicate space 9 }

-- P4 with work order 4711 (12 67), P5 with 258 (01 02), and lists at 3, 4 and 2; P7 leaves all rows; P9 drops the row of 4711
abbrev pub p4_p5 : List Turn
p4_p5 =
    record {
      ask = writes 65 ++ (marks ++ (writes 66 ++ (marks ++ writes 67)));
      said = says 0 ++ (says 0 ++ (says 1 ++ (says 1 ++ says 2)));
      rows = row_on 0 open_end 0 0 ∷ [];
      lists = exactly 2 1 (0x00 ∷ 0x00 ∷ []) ∷ not_listed 3 9 9 ∷ [];
    }
    ∷ record {
      ask = 0x62 ∷ 0x4C ∷ 0xE0 ∷ 0x00 ∷ 0x00 ∷ 0x00 ∷ 0x00 ∷ writes 68;
      said = says 2 ++ says 3;
      rows = row_on 0 2 0 0 ∷ row_on 3 open_end 0 4711 ∷ [];
      lists = exactly 3 2 (0x12 ∷ 0x67 ∷ 0x00 ∷ 0x00 ∷ []) ∷ exactly 2 1 (0x00 ∷ 0x00 ∷ []) ∷ [];
    }
    ∷ record {
      ask = reverts_on 2 258;
      said = says 3;
      rows = row_on 0 2 0 0 ∷ row_on 3 3 0 4711 ∷ row_on 4 open_end 2 258 ∷ [];
      lists =
          exactly 3 2 (0x12 ∷ 0x67 ∷ 0x00 ∷ 0x00 ∷ [])
          ∷ with_rest 4 2 (0x01 ∷ 0x02 ∷ 0x00 ∷ 0x00 ∷ [])
          ∷ exactly 2 1 (0x00 ∷ 0x00 ∷ [])
          ∷ not_listed 4 3 14
          ∷ not_listed 5 9 9
          ∷ [];
    }
    -- a mark: the next moment lists as now did; a write changes no list
    ∷ record {
      ask = marks ++ writes 69;
      said = says 4 ++ says 5;
      rows = row_on 0 2 0 0 ∷ row_on 3 3 0 4711 ∷ row_on 4 open_end 2 258 ∷ [];
      lists = exactly 5 2 (0x01 ∷ 0x02 ∷ 0x00 ∷ 0x00 ∷ []) ∷ exactly 4 2 (0x01 ∷ 0x02 ∷ 0x00 ∷ 0x00 ∷ []) ∷ [];
    }
    ∷ record {
      ask = reclaims 3;
      said = says 2;
      rows = row_on 0 2 0 0 ∷ row_on 3 3 0 4711 ∷ row_on 4 open_end 2 258 ∷ [];
      lists = exactly 3 2 (0x12 ∷ 0x67 ∷ 0x00 ∷ 0x00 ∷ []) ∷ not_listed 2 9 8 ∷ not_listed 2 0 8 ∷ not_listed 3 0 14 ∷ [];
    }
    ∷ record {
      ask = reclaims 4;
      said = says 1;
      rows = row_on 0 2 0 0 ∷ row_on 4 open_end 2 258 ∷ [];
      lists = exactly 4 2 (0x01 ∷ 0x02 ∷ 0x00 ∷ 0x00 ∷ []) ∷ not_listed 3 9 8 ∷ [];
    }
    ∷ []

-- weeks, each reverted into the one before: a reclaim that drops a row of the way leaves the others, each with its own work order
abbrev pub weeks : List Turn
weeks =
    record {
      ask = marks ++ (reverts_on 0 4711 ++ (marks ++ (reverts_on 2 258 ++ (writes 65 ++ (marks ++ reverts_on 4 65535)))));
      said = says 0 ++ (says 1 ++ (says 2 ++ (says 3 ++ (says 4 ++ (says 4 ++ says 5)))));
      rows = row_on 0 1 0 0 ∷ row_on 2 3 0 4711 ∷ row_on 4 5 2 258 ∷ row_on 6 open_end 4 65535 ∷ [];
      lists =
          exactly 6 4 (0xFF ∷ 0xFF ∷ 0x01 ∷ 0x02 ∷ 0x12 ∷ 0x67 ∷ 0x00 ∷ 0x00 ∷ [])
          ∷ exactly 5 3 (0x01 ∷ 0x02 ∷ 0x12 ∷ 0x67 ∷ 0x00 ∷ 0x00 ∷ [])
          ∷ not_listed 6 7 14
          ∷ [];
    }
    ∷ record {
      ask = reclaims 6;
      said = says 0;
      rows = row_on 0 1 0 0 ∷ row_on 4 5 0 258 ∷ row_on 6 open_end 4 65535 ∷ [];
      lists = exactly 6 3 (0xFF ∷ 0xFF ∷ 0x01 ∷ 0x02 ∷ 0x00 ∷ 0x00 ∷ []) ∷ not_listed 5 9 8 ∷ [];
    }
    ∷ []

-- a named moment below the floor is listed; where its row goes with the way of no other, only the first row is left beside it
abbrev pub named : List Turn
named =
    record {
      ask = marks ++ (reverts_on 0 7 ++ (marks ++ (gives_name 65 2 ++ reverts_on 1 9)));
      said = says 0 ++ (says 1 ++ (says 2 ++ (says 2 ++ says 3)));
      rows = row_on 0 1 0 0 ∷ row_on 2 3 0 7 ∷ row_on 4 open_end 1 9 ∷ [];
      lists = exactly 2 2 (0x00 ∷ 0x07 ∷ 0x00 ∷ 0x00 ∷ []) ∷ exactly 4 2 (0x00 ∷ 0x09 ∷ 0x00 ∷ 0x00 ∷ []) ∷ [];
    }
    ∷ record {
      ask = reclaims 4;
      said = says 0;
      rows = row_on 0 1 0 0 ∷ row_on 2 3 0 7 ∷ row_on 4 open_end 1 9 ∷ [];
      lists = exactly 2 2 (0x00 ∷ 0x07 ∷ 0x00 ∷ 0x00 ∷ []) ∷ not_listed 3 9 8 ∷ exactly 4 2 (0x00 ∷ 0x09 ∷ 0x00 ∷ 0x00 ∷ []) ∷ [];
    }
    ∷ []

unfoldable pub all_ordered : Store → List (List Turn) → Bool
all_ordered s [] = true
all_ordered s (t ∷ ts) = ordered_as s t && all_ordered s ts

pub orders : all_ordered (program_store (replicate 32768 0)) (p4_p5 ∷ weeks ∷ named ∷ []) ≡ true
unfolding all_ordered ordered_as lists_as way_in orders_in order_bytes list_refusal listing keep any branches newest records names is_called called page_at with_page holds ancestry within latest first_found lookup any_up_to is_given sizes_allowed in_range chained branches_sound names_sound rows_sound precedes ascending by_itself placed used records_sound table_check number bytes packed high_of low_of by_operation parse answer_bytes first_free before inserted do_write do_mark branched do_revert do_read stays landing settled reclaimed do_reclaim do_give do_withdraw step fresh run batch is_readable
orders = refl

-- two counted branches of three, with these work orders in the first, the second and the third row; A is 6, now 4
abbrev pub two_rows : ℕ → ℕ → ℕ → Store
two_rows u v w =
    record {
      head = record { size = 6; branches = 2; records = 0; now = 4; floor = 0; names = 0 };
      branch_rows = row_on 0 1 0 u ∷ row_on 2 open_end 1 v ∷ row_on 0 0 0 w ∷ [];
      record_rows = rec 0 0 0 ∷ [];
      place_rows = 0 ∷ [];
      name_rows = replicate 32 zero_name;
      slab = replicate 256 7;
    }

-- a revert has any work order, with a volume of 6 pages too; its spare bits are 13 still, and a reclaim's address is
abbrev pub any_order : List Case
any_order =
    record { store = two_rows 0 0 0; input = reverts_on 0 65535; space = 99; stop = 0; answered = 1; out = says 4 }
    ∷ record { store = two_rows 0 0 0; input = reverts_on 0 6; space = 99; stop = 0; answered = 1; out = says 4 }
    ∷ record { store = two_rows 0 0 0; input = reverts_on 4 6; space = 99; stop = 0; answered = 1; out = refuses 9 }
    ∷ record { store = two_rows 0 0 0; input = 0x60 ∷ 0x00 ∷ 0x20 ∷ 0x00 ∷ 0x00 ∷ 0x00 ∷ 0x01 ∷ []; space = 99; stop = 13; answered = 0; out = [] }
    ∷ record { store = two_rows 0 0 0; input = 0xA0 ∷ 0x00 ∷ 0x20 ∷ 0x00 ∷ 0x00 ∷ 0x00 ∷ 0x00 ∷ []; space = 99; stop = 13; answered = 0; out = [] }
    -- check 2: the first row's work order is 0, and no counted row's is above 65,535; rows past the count hold anything
    ∷ record { store = two_rows 0 65535 0; input = marks; space = 99; stop = 0; answered = 1; out = says 4 }
    ∷ record { store = two_rows 0 65536 0; input = marks; space = 99; stop = 2; answered = 0; out = [] }
    ∷ record { store = two_rows 1 0 0; input = marks; space = 99; stop = 2; answered = 0; out = [] }
    ∷ record { store = two_rows 0 5 65536; input = marks; space = 99; stop = 0; answered = 1; out = says 4 }
    ∷ []

pub order_cases : holds_all any_order ≡ true
unfolding holds_all keep any branches newest records names is_called called page_at with_page holds ancestry within latest first_found lookup any_up_to is_given sizes_allowed in_range chained branches_sound names_sound rows_sound precedes ascending by_itself placed used records_sound table_check number bytes packed high_of low_of by_operation parse answer_bytes first_free before inserted do_write do_mark branched do_revert do_read stays landing settled reclaimed do_reclaim do_give do_withdraw step fresh run batch is_readable
order_cases = refl
