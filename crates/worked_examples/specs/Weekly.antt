-- Weekly setting-back (change request Four): weeks through bytes, the counted branch rows that they leave, and the fact that they hold.
use Rattle.std.specs.Prelude.{ℕ, ◌≡◌, refl, List, [], ◌∷◌, ◌++◌, Bool, true, ◌&&◌, eqb, replicate}
use Rattle.model.specs.declared.Branch.{Branch}
use Rattle.model.specs.Store.{Store, open_end, keep, any, branches, newest, records, names, is_called, called, page_at, with_page}
use Rattle.model.specs.Lookup.{is_readable, holds, ancestry, within, latest, first_found, lookup, any_up_to, is_given}
use Rattle.model.specs.Soundness.{sizes_allowed, in_range, chained, branches_sound, names_sound, rows_sound, precedes, ascending, by_itself, placed, used, records_sound, table_check}
use Rattle.model.specs.Wire.{read_at, reclaim, number, bytes, packed, high_of, low_of, by_operation, parse, request_bytes, answer_bytes}
use Rattle.model.specs.Step.{first_free, before, inserted, do_write, do_mark, branched, do_revert, do_read, stays, landing, settled, reclaimed, do_reclaim, do_give, do_withdraw, step}
use Rattle.model.specs.Fresh.{fresh, program_store}
use Rattle.model.specs.Batch.{Run, run, batch}
use Rattle.model.specs.Removal.{starting_at, removed, removed_all}
use Rattle.worked_examples.specs.Session.{same_list, writes, marks, reverts, reads, reclaims, says, gives, refuses}
use Rattle.worked_examples.specs.Refusals.{row}
use Rattle.worked_examples.specs.Names.{gives_name, withdraws}

-- the bytes of a reclaim, and of a read at address 5, whatever the moment
abbrev pub reclaims_to : ℕ → List ℕ
reclaims_to m = request_bytes (reclaim m)

abbrev pub reads_at : ℕ → List ℕ
reads_at m = request_bytes (read_at 5 m)

-- a batch, its answers, and then the counted branches
pub record Week : Type 0 where
  pub ask : List ℕ
  pub said : List ℕ
  pub rows : List Branch

-- branch rows, laid one behind the other
abbrev pub laid : List Branch → List ℕ
laid [] = []
laid (b ∷ bs) = b.start ∷ b.end ∷ b.cut ∷ b.order ∷ laid bs

abbrev pub same_rows : List Branch → List Branch → Bool
same_rows bs cs = same_list (laid bs) (laid cs)

-- each batch on the store that the last one left
unfoldable pub follows : Store → List Week → Bool
follows s [] = true
follows s (e ∷ es) =
    let r : Run = batch s e.ask 999 in
    eqb r.stop 0 && (same_list r.out e.said && (same_rows (branches r.store) e.rows && follows r.store es))

unfoldable pub all_follow : Store → List (List Week) → Bool
all_follow s [] = true
all_follow s (t ∷ ts) = follows s t && all_follow s ts

-- A at 0; four weeks, each of two moments and a revert into the week before; what is asked at 4 and at 5, and its answers, are given
abbrev pub four_weeks : List ℕ → List ℕ → List ℕ → List ℕ → Week
four_weeks ask4 said4 ask5 said5 =
    record {
      ask = writes 65 ++ (marks ++ (reverts 0 ++ (marks ++ (reverts 2 ++ (ask4 ++ (marks ++ (ask5 ++ (reverts 4 ++ (marks ++ reverts 6)))))))));
      said = says 0 ++ (says 0 ++ (says 1 ++ (says 2 ++ (says 3 ++ (said4 ++ (says 4 ++ (said5 ++ (says 5 ++ (says 6 ++ says 7)))))))));
      rows = row 0 1 0 ∷ row 2 3 0 ∷ row 4 5 2 ∷ row 6 7 4 ∷ row 8 open_end 6 ∷ [];
    }

abbrev pub idle : Week
idle = four_weeks [] [] [] []

-- B written at the cut of the next week, or behind it
abbrev pub kept_at_4 : Week
kept_at_4 = four_weeks (writes 66) (says 4) [] []

abbrev pub seen_at_5 : Week
seen_at_5 = four_weeks [] [] (writes 66) (says 5)

-- without records: the three weeks between go at once, and the cut falls through all of them to the first row
abbrev pub idle_weeks : List Week
idle_weeks =
    idle
    ∷ record { ask = reclaims_to 8 ++ reads_at 8; said = says 0 ++ gives 8 0 65; rows = row 0 1 0 ∷ row 8 open_end 0 ∷ [] }
    ∷ []

-- B at 4 is what 8 reads: its row stays and takes over 2's cut, 8's row takes over 6's. Once more to the same floor changes nothing
abbrev pub a_kept_record : List Week
a_kept_record =
    kept_at_4
    ∷ record { ask = reclaims_to 8 ++ reads_at 8; said = says 1 ++ gives 8 4 66; rows = row 0 1 0 ∷ row 4 5 0 ∷ row 8 open_end 4 ∷ [] }
    ∷ record { ask = reclaims_to 8 ++ (reads_at 8 ++ reads 7); said = says 0 ++ (gives 8 4 66 ++ refuses 8); rows = row 0 1 0 ∷ row 4 5 0 ∷ row 8 open_end 4 ∷ [] }
    ∷ []

-- B at 5 is read at 5 alone, which is named: its row stays; withdrawn, it is counted until the next reclaim, and the cut then falls to the first row
abbrev pub a_named_moment : List Week
a_named_moment =
    seen_at_5
    ∷ record {
      ask = gives_name 65 5 ++ (reclaims_to 8 ++ (reads 5 ++ (reads_at 8 ++ reads 4)));
      said = says 5 ++ (says 0 ++ (gives 5 5 66 ++ (gives 8 0 65 ++ refuses 8)));
      rows = row 0 1 0 ∷ row 4 5 0 ∷ row 8 open_end 4 ∷ [];
    }
    ∷ record { ask = withdraws 65 ++ (reads 5 ++ reads_at 8); said = says 5 ++ (refuses 8 ++ gives 8 0 65); rows = row 0 1 0 ∷ row 4 5 0 ∷ row 8 open_end 4 ∷ [] }
    ∷ record { ask = reclaims_to 8 ++ reads_at 8; said = says 1 ++ gives 8 0 65; rows = row 0 1 0 ∷ row 8 open_end 0 ∷ [] }
    ∷ []

-- a revert to the named 5 below the floor: the new row's cut lies in 5's row, which stays without the name too, since 9 reads its B
abbrev pub back_to_a_name : List Week
back_to_a_name =
    seen_at_5
    ∷ record {
      ask = gives_name 65 5 ++ (reclaims_to 8 ++ (reverts 5 ++ (reads_at 9 ++ (reads_at 8 ++ reads 5))));
      said = says 5 ++ (says 0 ++ (says 8 ++ (gives 9 5 66 ++ (gives 8 0 65 ++ gives 5 5 66))));
      rows = row 0 1 0 ∷ row 4 5 0 ∷ row 8 8 4 ∷ row 9 open_end 5 ∷ [];
    }
    ∷ record { ask = reclaims_to 9 ++ (reads_at 9 ++ reads 5); said = says 1 ++ (gives 9 5 66 ++ gives 5 5 66); rows = row 0 1 0 ∷ row 4 5 0 ∷ row 9 open_end 5 ∷ [] }
    ∷ record { ask = withdraws 65 ++ (reclaims_to 9 ++ (reads_at 9 ++ reads 5)); said = says 5 ++ (says 0 ++ (gives 9 5 66 ++ refuses 8)); rows = row 0 1 0 ∷ row 4 5 0 ∷ row 9 open_end 5 ∷ [] }
    ∷ []

-- the row of 4 and 5 ends at floor 5 and stays, and goes with floor 6; a cut in a row that stays is as it was
abbrev pub the_end : List Week
the_end =
    idle
    ∷ record { ask = reclaims 5 ++ reads 5; said = says 0 ++ gives 5 0 65; rows = row 0 1 0 ∷ row 4 5 0 ∷ row 6 7 4 ∷ row 8 open_end 6 ∷ [] }
    ∷ record { ask = reclaims 6 ++ reads 6; said = says 0 ++ gives 6 0 65; rows = row 0 1 0 ∷ row 6 7 0 ∷ row 8 open_end 6 ∷ [] }
    ∷ []

-- a batch, a reclaim to 8 behind it, and in which order the rows that it drops are removed one by one
pub record Removing : Type 0 where
  pub ask : List ℕ
  pub order : List ℕ

unfoldable pub removes_all : Store → List Removing → Bool
removes_all s [] = true
removes_all s (e ∷ es) =
    let t : Store = (batch s e.ask 999).store in
    same_rows (removed_all (branches t) e.order) (branches (batch t (reclaims_to 8) 5).store) && removes_all s es

-- "Where a row goes, each child takes over its cut": in whatever order, removals leave the rows that the reclaim leaves
abbrev pub one_by_one : List Removing
one_by_one =
    record { ask = idle.ask; order = 2 ∷ 4 ∷ 6 ∷ [] }
    ∷ record { ask = idle.ask; order = 6 ∷ 2 ∷ 4 ∷ [] }
    ∷ record { ask = kept_at_4.ask; order = 2 ∷ 6 ∷ [] }
    ∷ record { ask = kept_at_4.ask; order = 6 ∷ 2 ∷ [] }
    ∷ []

pub weekly : all_follow (program_store (replicate 32768 0)) (idle_weeks ∷ a_kept_record ∷ a_named_moment ∷ back_to_a_name ∷ the_end ∷ []) ≡ true
unfolding follows all_follow keep any is_called called branches newest records names page_at with_page holds ancestry within latest first_found lookup any_up_to is_given sizes_allowed in_range chained branches_sound names_sound rows_sound precedes ascending by_itself placed used records_sound table_check number bytes packed high_of low_of by_operation parse request_bytes answer_bytes first_free before inserted do_write do_mark branched do_revert do_read stays landing settled reclaimed do_reclaim do_give do_withdraw step fresh run batch is_readable
weekly = refl

pub removals : removes_all (program_store (replicate 32768 0)) one_by_one ≡ true
unfolding removes_all starting_at removed removed_all keep any branches newest records names page_at with_page holds ancestry within latest first_found lookup any_up_to is_given sizes_allowed in_range chained branches_sound names_sound rows_sound precedes ascending by_itself placed used records_sound table_check number bytes packed by_operation parse request_bytes answer_bytes first_free before inserted do_write do_mark branched do_revert do_read stays landing settled reclaimed do_reclaim step fresh run batch is_readable
removals = refl
