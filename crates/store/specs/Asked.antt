-- What revert and read ask of the tables; a sound store has it.
use Rattle.std.specs.Prelude.{List, ℕ, ◌≤◌, ◌<◌, take}
use Rattle.model.specs.declared.Head.{Head}
use Rattle.model.specs.ByNumber.{Asc, Falls, newest_of}
use Rattle.rows.specs.Rows.{branch_rows_of, record_rows_of, BranchesIn, RecordsIn, NamesIn}

-- the counted rows are there, one at least, and the count can grow by 1
pub record Revertible (head : Head) (bt nt : List ℕ) : Type 0 where
  pub some : 1 ≤ head.branches
  pub counted : BranchesIn head.branches bt
  pub names : NamesIn head.names nt
  pub few : head.branches < 4294967295

-- the counted rows are there, records ascend, and no branch is cut above its start
pub record Readable (head : Head) (bt rt nt : List ℕ) : Type 0 where
  pub branches : BranchesIn head.branches bt
  pub records : RecordsIn head.records rt
  pub names : NamesIn head.names nt
  pub ascends : Asc (take head.records (record_rows_of rt))
  pub falls : Falls (newest_of (branch_rows_of bt) head.branches)
