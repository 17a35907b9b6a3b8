-- The checks of a live disk over what is lent.
use Rattle.std.specs.Prelude.{ℕ}
use Rattle.model.specs.declared.Head.{Head}
use Rattle.live.specs.Live.{LiveDisk, Live, disk_check, or_then}
use Rattle.rows.specs.View.{Tables, store_of}
use Rattle.record_check.specs.declared.Finding.{Finding}
use Rattle.soundness.specs.Check.{check_of, read_of}

-- head and tables as the store that they are, with a live disk
abbrev pub live_of : Head → Tables → LiveDisk → Live
live_of head t d = record { store = store_of head t; disk = d }

-- the table checks, then 18; a table that is no whole number of rows is 1
unfoldable pub live_check_of : Head → Tables → LiveDisk → ℕ
live_check_of head t d = or_then (check_of head t) (disk_check head.size d)

-- what the checks find: the refusal, and the record rows that the table checks read
abbrev pub live_finding_of : Head → Tables → LiveDisk → Finding
live_finding_of head t d = record { refusal = live_check_of head t d; rows = read_of head t }
