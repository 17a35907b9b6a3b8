-- Refusals 1 to 14 by their small examples, and the order in which they are tested, as one table through the bytes of a batch; and the fact that it holds.
use Rattle.std.specs.Prelude.{ℕ, ◌*◌, ◌≡◌, refl, List, [], ◌∷◌, ◌++◌, Bool, true, false, ◌&&◌, not, eqb, length, replicate}
use Rattle.model.specs.declared.Branch.{Branch}
use Rattle.model.specs.declared.Record.{Record}
use Rattle.model.specs.Store.{Store, open_end, keep, any, branches, newest, records, names, page_at, with_page, zero_record, zero_name}
use Rattle.model.specs.Lookup.{is_readable, holds, ancestry, within, latest, first_found, lookup, any_up_to, is_given}
use Rattle.model.specs.Soundness.{sizes_allowed, in_range, chained, branches_sound, names_sound, rows_sound, precedes, ascending, by_itself, placed, used, records_sound, table_check}
use Rattle.model.specs.Wire.{write, revert, read_at, number, bytes, packed, by_operation, parse, request_bytes, answer_bytes}
use Rattle.model.specs.Step.{first_free, before, inserted, do_write, do_mark, branched, do_revert, do_read, stays, landing, settled, reclaimed, do_reclaim, step}
use Rattle.model.specs.Fresh.{fresh}
use Rattle.model.specs.Batch.{Run, run, batch}
use Rattle.worked_examples.specs.Session.{same_list, letter, writes, marks, reverts, reads, reclaims, says, gives, refuses}

-- a batch on a store, with this much space: its stop number, the number of requests answered, and the answers
pub record Case : Type 0 where
  pub store : Store
  pub input : List ℕ
  pub space : ℕ
  pub stop : ℕ
  pub answered : ℕ
  pub out : List ℕ

unfoldable pub holds_all : List Case → Bool
holds_all [] = true
holds_all (c ∷ cs) =
    let r : Run = batch c.store c.input c.space in
    eqb r.stop c.stop && (eqb (length r.log) c.answered && (same_list r.out c.out && holds_all cs))

-- a store of A 6 without names, by its branch rows, records, places, now and floor
abbrev pub store_with : List Branch → List Record → List ℕ → ℕ → ℕ → ℕ → Store
store_with bs rs ps recs now floor =
    record {
      head = record { size = 6; branches = length bs; records = recs; now = now; floor = floor; names = 0 };
      branch_rows = bs;
      record_rows = rs;
      place_rows = ps;
      name_rows = replicate 32 zero_name;
      slab = replicate (256 * length ps) 7;
    }

abbrev pub row : ℕ → ℕ → ℕ → Branch
row s e c = record { start = s; end = e; cut = c; order = 0 }

abbrev pub rec : ℕ → ℕ → ℕ → Record
rec a m p = record { address = a; moment = m; place = p }

-- one open branch, now and floor as given, one free record row and place
abbrev pub plain : ℕ → ℕ → Store
plain now floor = store_with (row 0 open_end 0 ∷ []) (zero_record ∷ []) (0 ∷ []) 0 now floor

-- full record table and no free place: one record, of address 5 at moment 4
abbrev pub full : Store
full = store_with (row 0 open_end 0 ∷ []) (rec 5 4 0 ∷ []) (1 ∷ []) 1 4 0

-- three free record rows and places
abbrev pub three : Store
three = store_with (row 0 open_end 0 ∷ []) (zero_record ∷ zero_record ∷ zero_record ∷ []) (0 ∷ 0 ∷ 0 ∷ []) 0 0 0

-- check 1, 2, 3, and their order
abbrev pub checks : List Case
checks =
    record { store = plain 1 2; input = marks; space = 99; stop = 1; answered = 0; out = [] }
    ∷ record { store = store_with (row 0 3 0 ∷ row 4 open_end 4 ∷ []) (zero_record ∷ []) (0 ∷ []) 0 4 0; input = marks; space = 99; stop = 2; answered = 0; out = [] }
    ∷ record { store = store_with (row 0 3 0 ∷ row 4 open_end 3 ∷ []) (zero_record ∷ []) (0 ∷ []) 0 4 0; input = marks; space = 99; stop = 0; answered = 1; out = says 4 }
    ∷ record { store = store_with (row 0 3 0 ∷ row 6 open_end 3 ∷ []) (zero_record ∷ []) (0 ∷ []) 0 6 5; input = marks; space = 99; stop = 2; answered = 0; out = [] }
    ∷ record { store = store_with (row 0 3 0 ∷ row 6 open_end 3 ∷ []) (zero_record ∷ []) (0 ∷ []) 0 6 6; input = marks; space = 99; stop = 0; answered = 1; out = says 6 }
    ∷ record { store = store_with (row 0 open_end 0 ∷ []) (rec 5 0 0 ∷ []) (0 ∷ []) 1 0 0; input = marks; space = 99; stop = 3; answered = 0; out = [] }
    ∷ record { store = store_with (row 0 open_end 0 ∷ []) (rec 6 0 0 ∷ []) (1 ∷ []) 1 0 0; input = marks; space = 99; stop = 3; answered = 0; out = [] }
    ∷ record { store = store_with (row 0 open_end 0 ∷ []) (rec 5 0 0 ∷ []) (1 ∷ []) 0 0 0; input = marks; space = 99; stop = 3; answered = 0; out = [] }
    ∷ record { store = store_with (row 0 3 0 ∷ row 4 open_end 4 ∷ []) (rec 5 0 0 ∷ []) (0 ∷ []) 1 4 5; input = marks; space = 99; stop = 1; answered = 0; out = [] }
    ∷ record { store = store_with (row 0 3 0 ∷ row 4 open_end 4 ∷ []) (rec 5 0 0 ∷ []) (0 ∷ []) 1 4 0; input = marks; space = 99; stop = 2; answered = 0; out = [] }
    ∷ []

-- 4 to 10, and their order: write 4, 5, 6; read 4, 8, 9; revert 8, 9, 10, 7; reclaim 8, 9; mark 10; last, a reclaim that frees two records and keeps one
abbrev pub requests : List Case
requests =
    record { store = plain 4 3; input = request_bytes (read_at 6 2); space = 99; stop = 0; answered = 1; out = refuses 4 }
    ∷ record { store = plain 4 3; input = request_bytes (read_at 5 2); space = 99; stop = 0; answered = 1; out = refuses 8 }
    ∷ record { store = plain 4 3; input = request_bytes (read_at 5 5); space = 99; stop = 0; answered = 1; out = refuses 9 }
    ∷ record { store = full; input = request_bytes (write 6 (letter 1)); space = 99; stop = 0; answered = 1; out = refuses 4 }
    ∷ record { store = full; input = request_bytes (write 0 (letter 1)); space = 99; stop = 0; answered = 1; out = refuses 5 }
    ∷ record { store = full; input = request_bytes (write 5 (letter 1)) ++ request_bytes (read_at 5 4); space = 999; stop = 0; answered = 2; out = says 4 ++ gives 4 4 1 }
    ∷ record { store = store_with (row 0 open_end 0 ∷ []) (zero_record ∷ []) (0 ∷ []) 0 0 0; input = request_bytes (write 0 (letter 1)) ++ request_bytes (write 1 (letter 2)); space = 99; stop = 0; answered = 2; out = says 0 ++ refuses 5 }
    ∷ record { store = store_with (row 0 open_end 0 ∷ []) (zero_record ∷ zero_record ∷ []) (0 ∷ []) 0 0 0; input = request_bytes (write 0 (letter 1)) ++ request_bytes (write 1 (letter 2)); space = 99; stop = 0; answered = 2; out = says 0 ++ refuses 6 }
    ∷ record { store = plain 0 0; input = marks ++ reverts 0; space = 99; stop = 0; answered = 2; out = says 0 ++ refuses 7 }
    ∷ record { store = plain 4 4; input = reverts 3; space = 99; stop = 0; answered = 1; out = refuses 8 }
    ∷ record { store = plain 4 3; input = reverts 4; space = 99; stop = 0; answered = 1; out = refuses 9 }
    ∷ record { store = plain open_end 3; input = request_bytes (revert open_end 0); space = 99; stop = 0; answered = 1; out = refuses 9 }
    ∷ record { store = plain open_end 3; input = reverts 3; space = 99; stop = 0; answered = 1; out = refuses 10 }
    ∷ record { store = plain open_end 3; input = marks; space = 99; stop = 0; answered = 1; out = refuses 10 }
    ∷ record { store = plain open_end 3; input = request_bytes (write 5 (letter 1)); space = 99; stop = 0; answered = 1; out = 0 ∷ 255 ∷ 255 ∷ 255 ∷ 255 ∷ [] }
    ∷ record { store = plain 4 3; input = reclaims 2; space = 99; stop = 0; answered = 1; out = refuses 8 }
    ∷ record { store = plain 4 3; input = reclaims 5; space = 99; stop = 0; answered = 1; out = refuses 9 }
    ∷ record { store = plain 4 3; input = reclaims 3 ++ reclaims 4; space = 99; stop = 0; answered = 2; out = says 0 ++ says 0 }
    ∷ record {
      store = three;
      input = writes 1 ++ (marks ++ (writes 2 ++ (marks ++ (writes 3 ++ (reclaims 2 ++ (reads 2 ++ reads 1))))));
      space = 999;
      stop = 0;
      answered = 8;
      out = says 0 ++ (says 0 ++ (says 1 ++ (says 1 ++ (says 2 ++ (says 2 ++ (gives 2 2 3 ++ refuses 8))))));
    }
    ∷ []

-- 11 to 14 and their order, what was answered before them, and a space that is just filled
abbrev pub stops : List Case
stops =
    record { store = plain 0 0; input = []; space = 0; stop = 0; answered = 0; out = [] }
    ∷ record { store = plain 0 0; input = 0x40 ∷ 0x00 ∷ 0x00 ∷ []; space = 99; stop = 11; answered = 0; out = [] }
    ∷ record { store = plain 0 0; input = 0x00 ∷ 0x00 ∷ 0x00 ∷ []; space = 0; stop = 11; answered = 0; out = [] }
    ∷ record { store = plain 0 0; input = replicate 7 0; space = 0; stop = 12; answered = 0; out = [] }
    ∷ record { store = plain 0 0; input = 0x1F ∷ replicate 6 255; space = 99; stop = 12; answered = 0; out = [] }
    ∷ record { store = plain 0 0; input = replicate 7 255; space = 99; stop = 13; answered = 0; out = [] }
    ∷ record { store = plain 0 0; input = 0x40 ∷ 0x00 ∷ 0x00 ∷ 0x00 ∷ 0x00 ∷ 0x00 ∷ 0x01 ∷ []; space = 0; stop = 13; answered = 0; out = [] }
    ∷ record { store = plain 0 0; input = 0x40 ∷ 0x00 ∷ 0x20 ∷ 0x00 ∷ 0x00 ∷ 0x00 ∷ 0x00 ∷ []; space = 99; stop = 13; answered = 0; out = [] }
    ∷ record { store = plain 0 0; input = 0x20 ∷ 0x00 ∷ 0x00 ∷ 0x00 ∷ 0x00 ∷ 0x00 ∷ 0x20 ∷ []; space = 99; stop = 13; answered = 0; out = [] }
    ∷ record { store = plain 0 0; input = 0x20 ∷ 0x00 ∷ 0xA0 ∷ 0x00 ∷ 0x00 ∷ 0x00 ∷ 0x00 ∷ replicate 255 1; space = 0; stop = 11; answered = 0; out = [] }
    ∷ record { store = plain 0 0; input = marks; space = 4; stop = 14; answered = 0; out = [] }
    ∷ record { store = plain 0 0; input = marks; space = 5; stop = 0; answered = 1; out = says 0 }
    ∷ record { store = plain 0 0; input = marks ++ marks; space = 9; stop = 14; answered = 1; out = says 0 }
    ∷ record { store = plain 0 0; input = reverts 0; space = 4; stop = 14; answered = 0; out = [] }
    ∷ record { store = plain 0 0; input = writes 9 ++ reads 0; space = 269; stop = 14; answered = 1; out = says 0 }
    ∷ record { store = plain 0 0; input = writes 9 ++ reads 0; space = 270; stop = 0; answered = 2; out = says 0 ++ gives 0 0 9 }
    ∷ record { store = plain 0 0; input = marks ++ (0x00 ∷ []); space = 5; stop = 11; answered = 1; out = says 0 }
    ∷ record { store = fresh 64 2 1 1 (replicate 256 0); input = marks ++ (reverts 0 ++ reads 2); space = 99; stop = 0; answered = 3; out = says 0 ++ (says 1 ++ says 2) }
    ∷ []

-- a fresh store: volume size, rows of branches, records, places and names, bytes of the slab, and its refusal
pub record Sizes : Type 0 where
  pub size : ℕ
  pub branch_rows : ℕ
  pub record_rows : ℕ
  pub place_rows : ℕ
  pub name_rows : ℕ
  pub slab_bytes : ℕ
  pub allowed : Bool

abbrev pub sizes : List Sizes
sizes =
    record { size = 1; branch_rows = 1; record_rows = 1; place_rows = 1; name_rows = 32; slab_bytes = 256; allowed = true }
    ∷ record { size = 65536; branch_rows = 4096; record_rows = 65536; place_rows = 65536; name_rows = 32; slab_bytes = 16777216; allowed = true }
    ∷ record { size = 0; branch_rows = 1; record_rows = 1; place_rows = 1; name_rows = 32; slab_bytes = 256; allowed = false }
    ∷ record { size = 65537; branch_rows = 1; record_rows = 1; place_rows = 1; name_rows = 32; slab_bytes = 256; allowed = false }
    ∷ record { size = 1; branch_rows = 0; record_rows = 1; place_rows = 1; name_rows = 32; slab_bytes = 256; allowed = false }
    ∷ record { size = 1; branch_rows = 4097; record_rows = 1; place_rows = 1; name_rows = 32; slab_bytes = 256; allowed = false }
    ∷ record { size = 1; branch_rows = 1; record_rows = 65537; place_rows = 1; name_rows = 32; slab_bytes = 256; allowed = false }
    ∷ record { size = 1; branch_rows = 1; record_rows = 1; place_rows = 0; name_rows = 32; slab_bytes = 0; allowed = false }
    ∷ record { size = 1; branch_rows = 1; record_rows = 1; place_rows = 65537; name_rows = 32; slab_bytes = 16777472; allowed = false }
    ∷ record { size = 1; branch_rows = 1; record_rows = 1; place_rows = 2; name_rows = 32; slab_bytes = 511; allowed = false }
    ∷ record { size = 1; branch_rows = 1; record_rows = 1; place_rows = 2; name_rows = 32; slab_bytes = 513; allowed = false }
    ∷ record { size = 1; branch_rows = 1; record_rows = 1; place_rows = 1; name_rows = 31; slab_bytes = 256; allowed = false }
    ∷ record { size = 1; branch_rows = 1; record_rows = 1; place_rows = 1; name_rows = 33; slab_bytes = 256; allowed = false }
    ∷ []

pub holds_sizes : List Sizes → Bool
holds_sizes [] = true
holds_sizes (z ∷ zs) =
    same_test (sizes_allowed z.size z.branch_rows z.record_rows z.place_rows z.name_rows z.slab_bytes) z.allowed && holds_sizes zs
  where
    same_test : Bool → Bool → Bool
    same_test true b = b
    same_test false b = not b

pub fresh_sizes : holds_sizes sizes ≡ true
unfolding holds_sizes sizes_allowed
fresh_sizes = refl

pub refusals : holds_all (checks ++ (requests ++ stops)) ≡ true
unfolding holds_all keep any branches newest records names page_at with_page holds ancestry within latest first_found lookup any_up_to is_given sizes_allowed in_range chained branches_sound names_sound rows_sound precedes ascending by_itself placed used records_sound table_check number bytes packed by_operation parse request_bytes answer_bytes first_free before inserted do_write do_mark branched do_revert do_read stays landing settled reclaimed do_reclaim step fresh run batch is_readable
refusals = refl
