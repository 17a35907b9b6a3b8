-- Pages packed towards the front (change request Two): the place rows after a batch, up to which byte the slab is in use, and the fact that they hold.
use Rattle.std.specs.Prelude.{ℕ, ◌≡◌, refl, List, [], ◌∷◌, ◌++◌, Bool, true, ◌&&◌, eqb}
use Rattle.model.specs.declared.Record.{Record}
use Rattle.model.specs.Store.{Store, open_end, zero_record, keep, any, branches, newest, records, names, page_at, with_page}
use Rattle.model.specs.Lookup.{is_readable, holds, ancestry, within, latest, first_found, lookup, any_up_to, is_given}
use Rattle.model.specs.Soundness.{sizes_allowed, in_range, chained, branches_sound, names_sound, rows_sound, precedes, ascending, by_itself, placed, used, records_sound, table_check}
use Rattle.model.specs.Wire.{write, number, bytes, packed, by_operation, parse, request_bytes, answer_bytes}
use Rattle.model.specs.Step.{first_free, before, inserted, do_write, do_mark, branched, do_revert, do_read, stays, landing, settled, reclaimed, do_reclaim, step}
use Rattle.model.specs.Batch.{Run, run, batch}
use Rattle.model.specs.Packed.{reach, slab_in_use}
use Rattle.worked_examples.specs.Session.{same_list, letter, marks, reclaims}
use Rattle.worked_examples.specs.Refusals.{row, rec, store_with}

-- a batch on a store, the place rows after it, and up to which byte the slab is then in use
pub record Placing : Type 0 where
  pub store : Store
  pub input : List ℕ
  pub places : List ℕ
  pub slab : ℕ

unfoldable pub places_all : List Placing → Bool
places_all [] = true
places_all (c ∷ cs) =
    let r : Run = batch c.store c.input 99 in
    same_list r.store.place_rows c.places && (eqb (slab_in_use r.store) c.slab && places_all cs)

-- the bytes of a write at an address
abbrev pub writes_at : ℕ → List ℕ
writes_at a = request_bytes (write a (letter 9))

-- one open branch, by its records, places, their count and now
abbrev pub single : List Record → List ℕ → ℕ → ℕ → Store
single rs ps recs now = store_with (row 0 open_end 0 ∷ []) rs ps recs now 0

-- no record
abbrev pub none_yet : Store
none_yet = single (zero_record ∷ zero_record ∷ zero_record ∷ zero_record ∷ []) (0 ∷ 0 ∷ 0 ∷ 0 ∷ 0 ∷ []) 0 0

-- address 5 written at moments 0, 1 and 2, in the first three places; now is 2
abbrev pub thrice : Store
thrice = single (rec 5 0 0 ∷ rec 5 1 1 ∷ rec 5 2 2 ∷ zero_record ∷ []) (1 ∷ 2 ∷ 3 ∷ 0 ∷ 0 ∷ []) 3 2

-- in order: a fresh store fills from the front, whatever the addresses; an overwrite stays in its place; a gap is filled, and then the
-- place behind the last one in use
abbrev pub writing : List Placing
writing =
    record { store = none_yet; input = []; places = 0 ∷ 0 ∷ 0 ∷ 0 ∷ 0 ∷ []; slab = 0 }
    ∷ record { store = none_yet; input = writes_at 5 ++ (writes_at 3 ++ writes_at 4); places = 3 ∷ 1 ∷ 2 ∷ 0 ∷ 0 ∷ []; slab = 768 }
    ∷ record { store = none_yet; input = writes_at 5 ++ (writes_at 3 ++ writes_at 5); places = 2 ∷ 1 ∷ 0 ∷ 0 ∷ 0 ∷ []; slab = 512 }
    ∷ record {
      store = single (rec 3 0 0 ∷ rec 4 0 2 ∷ zero_record ∷ zero_record ∷ []) (1 ∷ 0 ∷ 2 ∷ 0 ∷ 0 ∷ []) 2 0;
      input = writes_at 5;
      places = 1 ∷ 3 ∷ 2 ∷ 0 ∷ 0 ∷ [];
      slab = 768;
    }
    ∷ record {
      store = single (rec 3 0 0 ∷ rec 4 0 2 ∷ zero_record ∷ zero_record ∷ []) (1 ∷ 0 ∷ 2 ∷ 0 ∷ 0 ∷ []) 2 0;
      input = writes_at 5 ++ writes_at 2;
      places = 2 ∷ 4 ∷ 3 ∷ 1 ∷ 0 ∷ [];
      slab = 1024;
    }
    ∷ []

-- places that a reclaim frees are free for the rest of the same batch: neither the largest free place is taken, nor the one behind the
-- last in use, nor the first of those that were free at the start; so again after each reclaim. A reclaim that is refused frees none
abbrev pub reclaiming : List Placing
reclaiming =
    record { store = thrice; input = reclaims 2 ++ writes_at 4; places = 1 ∷ 0 ∷ 2 ∷ 0 ∷ 0 ∷ []; slab = 768 }
    ∷ record { store = thrice; input = reclaims 2 ++ (writes_at 4 ++ (writes_at 3 ++ writes_at 1)); places = 3 ∷ 2 ∷ 4 ∷ 1 ∷ 0 ∷ []; slab = 1024 }
    ∷ record { store = thrice; input = reclaims 1 ++ (writes_at 3 ++ (reclaims 2 ++ writes_at 4)); places = 1 ∷ 2 ∷ 3 ∷ 0 ∷ 0 ∷ []; slab = 768 }
    ∷ record { store = thrice; input = writes_at 4 ++ (reclaims 1 ++ writes_at 3); places = 1 ∷ 3 ∷ 4 ∷ 2 ∷ 0 ∷ []; slab = 1024 }
    ∷ record { store = thrice; input = reclaims 3 ++ writes_at 4; places = 2 ∷ 3 ∷ 4 ∷ 1 ∷ 0 ∷ []; slab = 1024 }
    ∷ record { store = thrice; input = reclaims 2; places = 0 ∷ 0 ∷ 1 ∷ 0 ∷ 0 ∷ []; slab = 768 }
    ∷ record {
      store = single (rec 5 0 2 ∷ rec 5 1 0 ∷ zero_record ∷ zero_record ∷ []) (2 ∷ 0 ∷ 1 ∷ 0 ∷ 0 ∷ []) 2 1;
      input = reclaims 1;
      places = 1 ∷ 0 ∷ 0 ∷ 0 ∷ 0 ∷ [];
      slab = 256;
    }
    ∷ []

-- a refused write takes no place: 5 where the record table is full, 6 where no place is free; a mark takes none
abbrev pub taking_none : List Placing
taking_none =
    record { store = single (rec 5 0 0 ∷ []) (1 ∷ 0 ∷ []) 1 0; input = writes_at 4; places = 1 ∷ 0 ∷ []; slab = 256 }
    ∷ record { store = single (rec 5 0 0 ∷ zero_record ∷ []) (1 ∷ []) 1 0; input = writes_at 4; places = 1 ∷ []; slab = 256 }
    ∷ record { store = single (rec 5 0 1 ∷ zero_record ∷ []) (0 ∷ 1 ∷ 0 ∷ []) 1 0; input = marks; places = 0 ∷ 1 ∷ 0 ∷ []; slab = 512 }
    ∷ []

pub packed_pages : places_all (writing ++ (reclaiming ++ taking_none)) ≡ true
unfolding places_all reach keep any branches newest records names page_at with_page holds ancestry within latest first_found lookup any_up_to is_given sizes_allowed in_range chained branches_sound names_sound rows_sound precedes ascending by_itself placed used records_sound table_check number bytes packed by_operation parse request_bytes answer_bytes first_free before inserted do_write do_mark branched do_revert do_read stays landing settled reclaimed do_reclaim step run batch is_readable
packed_pages = refl
