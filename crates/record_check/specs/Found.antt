-- What check 3 finds.
use Rattle.std.specs.Prelude.{◌≡◌, Bool, true, cond}
use Rattle.std.proofs.Math.Option.{none}
use Rattle.model.specs.Store.{Store, records}
use Rattle.model.specs.Soundness.{records_sound, read_from}
use Rattle.record_check.specs.declared.Finding.{Finding}

-- what check 3 finds, where 1 and 2 refuse nothing
abbrev pub records_found : Store → Finding
records_found s = record { refusal = cond (records_sound s) 0 3; rows = read_from s 1 none (records s) }

-- the test b tells whether P
pub record Tells (b : Bool) (P : Type 0) : Type 0 where
  pub yes : b ≡ true → P
  pub no : P → b ≡ true
