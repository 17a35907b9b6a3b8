-- A list of work orders on areas of bytes.
use Rattle.std.specs.Prelude.{List, cond, ℕ}
use Rattle.areas.specs.Lent.{Lent, fits, store_in}
use Rattle.work_orders.specs.Orders.{Listing, listing}
use Rattle.listing.specs.Lists.{unlisted}

-- the listing of the store that the areas hold; a length that does not fit is refusal 1
unfoldable pub list_bytes : Lent → ℕ → List ℕ → Listing
list_bytes l moment area = cond (fits l) (listing (store_in l) moment area) (unlisted 1 area)
