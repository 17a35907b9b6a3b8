-- The copying step over what is lent.
use Rattle.std.specs.Prelude.{◌≡◌, List, cond, ℕ, ◌+◌, length, take}
use Rattle.model.specs.declared.Head.{Head}
use Rattle.model.specs.Store.{Store}
use Rattle.live.specs.declared.Copied.{Copied}
use Rattle.live.specs.Live.{LiveDisk, brought_all, stale, CopyLeft, copy_step}
use Rattle.live.specs.Fit.{Fit}
use Rattle.rows.specs.View.{Tables, tables, store_of}
use Rattle.soundness.specs.Check.{whole_tables}
use Rattle.disk_check.specs.Check.{live_of}

-- the copying step of what is lent; a table that is no whole number of rows is refusal 1
unfoldable pub copy_step_of : Head → Tables → LiveDisk → ℕ → CopyLeft
copy_step_of head t d n =
    cond (whole_tables t) (copy_step (live_of head t d) n) (record { report = record { refusal = 1; count = 0 }; disk = d })

-- the report and the disk are those of a copying step; its count is that of the pages turned from stale to current
pub record Copies (c : CopyLeft) (d : LiveDisk) (r : Copied) (d' : LiveDisk) : Type 0 where
  pub report : r ≡ c.report
  pub disk : d' ≡ c.disk
  pub turned : length (stale d) ≡ r.count + length (stale d')

-- the first n stale pages were brought to date, and counted
pub record CopiesPages (s : Store) (d : LiveDisk) (n count : ℕ) (d' : LiveDisk) : Type 0 where
  pub counted : count ≡ length (take n (stale d))
  pub disk : d' ≡ brought_all s d (take n (stale d))

-- what a copy asks: with some place rows and names the tables are a sound store, which the disk fits
pub record Stocked (head : Head) (bt rt slab : List ℕ) (d : LiveDisk) : Type 0 where
  pub places : List ℕ
  pub names : List ℕ
  pub fit : Fit (store_of head (tables bt rt places names slab)) d
