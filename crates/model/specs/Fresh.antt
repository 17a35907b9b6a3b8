-- Making a fresh store over what is lent.
use Rattle.std.specs.Prelude.{ℕ, List, cond, length, set, replicate}
use Rattle.model.specs.Store.{Store, open_end, zero_branch, zero_record, zero_name}
use Rattle.model.specs.Soundness.{lent_allowed}

-- the refusal of a fresh store of `size` pages over what is lent: 1, or 0 where there is none
unfoldable pub fresh_check : Store → ℕ → ℕ
fresh_check s size = cond (lent_allowed s size) 0 1

-- a fresh store over tables of these lengths, and 32 name rows: one branch, no record, no name, now and floor 0, all other rows zero, the
-- slab untouched
unfoldable pub fresh : ℕ → ℕ → ℕ → ℕ → List ℕ → Store
fresh size branch_rows record_rows place_rows slab =
    record {
      head = record { size = size; branches = 1; records = 0; now = 0; floor = 0; names = 0 };
      branch_rows = set (replicate branch_rows zero_branch) 0 (record { start = 0; end = open_end; cut = 0; order = 0 });
      record_rows = replicate record_rows zero_record;
      place_rows = replicate place_rows 0;
      name_rows = replicate 32 zero_name;
      slab = slab;
    }

-- the fresh store of the batch program: A 64, 16 branches, 128 records, 128 places
abbrev pub program_store : List ℕ → Store
program_store slab = fresh 64 16 128 128 slab

-- what is lent, made a fresh store
unfoldable pub made_fresh : Store → ℕ → Store
made_fresh s size =
    cond (lent_allowed s size)
    (fresh size (length s.branch_rows) (length s.record_rows) (length s.place_rows) s.slab)
    s
