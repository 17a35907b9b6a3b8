-- What is lent as the store that it stands for, and what a request gives back and leaves of it.
use Rattle.std.specs.Prelude.{◌≡◌, List, [], cond, ℕ, eqb}
use Rattle.std.proofs.Math.Option.{Option, some, none}
use Rattle.model.specs.declared.Head.{Head}
use Rattle.model.specs.declared.Record.{Record}
use Rattle.model.specs.Store.{Store, found_page}
use Rattle.model.specs.Lookup.{lookup}
use Rattle.model.specs.Step.{Stepped, do_read, step}
use Rattle.model.specs.Wire.{Request, write, mark, revert, read_at, reclaim, give, withdraw, Answer}
use Rattle.rows.specs.declared.Found.{Found}
use Rattle.rows.specs.declared.Found.TheVariants.{Row, Nothing}
use Rattle.rows.specs.declared.Outcome.{Outcome}
use Rattle.rows.specs.Rows.{branch_rows_of, record_rows_of, name_rows_of, branch_table, record_table, name_table}

-- tables and slab as they are lent: flat numbers, and bytes
pub record Tables : Type 0 where
  pub branches : List ℕ
  pub records : List ℕ
  pub places : List ℕ
  pub names : List ℕ
  pub slab : List ℕ

abbrev pub tables : List ℕ → List ℕ → List ℕ → List ℕ → List ℕ → Tables
tables bt rt pt nt slab = record { branches = bt; records = rt; places = pt; names = nt; slab = slab }

-- the tables of numbers alone
abbrev pub number_tables : List ℕ → List ℕ → List ℕ → List ℕ → Tables
number_tables bt rt pt nt = tables bt rt pt nt []

-- tables with one of them another
abbrev pub with_branches : List ℕ → Tables → Tables
with_branches bt t = tables bt t.records t.places t.names t.slab

abbrev pub with_records : List ℕ → Tables → Tables
with_records rt t = tables t.branches rt t.places t.names t.slab

abbrev pub with_places : List ℕ → Tables → Tables
with_places pt t = tables t.branches t.records pt t.names t.slab

abbrev pub with_names : List ℕ → Tables → Tables
with_names nt t = tables t.branches t.records t.places nt t.slab

abbrev pub with_slab : List ℕ → Tables → Tables
with_slab slab t = tables t.branches t.records t.places t.names slab

-- head and tables as the store that they are
abbrev pub store_of : Head → Tables → Store
store_of head t =
    record {
      head = head;
      branch_rows = branch_rows_of t.branches;
      record_rows = record_rows_of t.records;
      place_rows = t.places;
      name_rows = name_rows_of t.names;
      slab = t.slab;
    }

-- the tables with a store laid over them: every number
abbrev pub laid : Store → Tables → Tables
laid s t =
    tables (branch_table s.branch_rows t.branches) (record_table s.record_rows t.records) s.place_rows
    (name_table s.name_rows t.names) s.slab

-- what a lookup found
abbrev pub found_of : Found → Option Record
found_of (Row r) = some r
found_of Nothing = none

abbrev pub found_as : Option Record → Found
found_as (some r) = Row r
found_as none = Nothing

-- the answer of an outcome; a found page lies in the slab
abbrev pub answer_of : Outcome → List ℕ → Answer
answer_of r slab = record { refusal = r.refusal; value = r.value; page = found_page slab (found_of r.found) }

-- the record whose page a request's answer gives: the one that an accepted read finds
unfoldable pub record_given : Store → Request → Option Record
record_given s (write a page) = none
record_given s mark = none
record_given s (revert m w) = none
record_given s (read_at a m) = cond (eqb (do_read s a m).answer.refusal 0) (lookup s a m) none
record_given s (reclaim m) = none
record_given s (give n) = none
record_given s (withdraw high low) = none

-- what a step gives back, with the record that it gives, if any
abbrev pub outcome_of : Stepped → Option Record → Outcome
outcome_of st given =
    record { head = st.store.head; refusal = st.answer.refusal; value = st.answer.value; found = found_as given }

-- a step on what is lent: the outcome r, and tables t' where t were; every number is as the step says
pub record Leaves (st : Stepped) (given : Option Record) (t : Tables) (r : Outcome) (t' : Tables) : Type 0 where
  pub outcome : r ≡ outcome_of st given
  pub tables : t' ≡ laid st.store t

-- a request carried out on what is lent
pub record Carried (head : Head) (t : Tables) (q : Request) (r : Outcome) (t' : Tables) : Type 0 where
  pub leaves : Leaves (step (store_of head t) q) (record_given (store_of head t) q) t r t'

-- a refused request alters nothing and has number 0
abbrev pub refused_with : Head → ℕ → Outcome
refused_with head n = record { head = head; refusal = n; value = 0; found = Nothing }

-- an accepted request that gives no page
abbrev pub accepted_with : Head → ℕ → Outcome
accepted_with head n = record { head = head; refusal = 0; value = n; found = Nothing }
