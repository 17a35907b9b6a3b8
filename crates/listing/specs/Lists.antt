-- A list of work orders over what is lent.
use Rattle.std.specs.Prelude.{◌≡◌, List, cond, ℕ}
use Rattle.model.specs.declared.Head.{Head}
use Rattle.rows.specs.View.{Tables, store_of}
use Rattle.soundness.specs.Check.{whole_tables}
use Rattle.work_orders.specs.declared.Listed.{Listed}
use Rattle.work_orders.specs.Orders.{Listing, listing}

-- nothing listed, and the area as it was
abbrev pub unlisted : ℕ → List ℕ → Listing
unlisted n area = record { report = record { refusal = n; count = 0 }; area = area }

-- the listing of what is lent; a table that is no whole number of rows is refusal 1
unfoldable pub listing_of : Head → Tables → ℕ → List ℕ → Listing
listing_of head t moment area = cond (whole_tables t) (listing (store_of head t) moment area) (unlisted 1 area)

-- the report is that of a listing, and so is the area for the list
pub record Lists (x : Listing) (r : Listed) (area : List ℕ) : Type 0 where
  pub report : r ≡ x.report
  pub area_is : area ≡ x.area
