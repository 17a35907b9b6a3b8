-- Change request Seven said of the C entries: one claim about a whole list of calls on areas of bytes. proofs/WorkOrders.antt proves it.
use Rattle.std.specs.Prelude.{ℕ, ◌*◌, ◌≤◌, ◌≡◌, List, map, length}
use Rattle.model.specs.Store.{keep}
use Rattle.model.specs.Batch.{Answered}
use Rattle.work_orders.specs.Demand.{CanRead, Given}
use Rattle.work_orders.specs.Log.{opened, logged, is_counted}
use Rattle.areas.specs.Lent.{Lent, store_in}
use Rattle.fresh_areas.specs.Fresh.{fresh_bytes}
use Rattle.listing_areas.specs.Lists.{list_bytes}
use Rattle.kizmoolet.specs.Demand3.{AreaCall, areas_after, answered_in}

-- the work orders that the crew's log has for a moment after the requests es, of the branches that the areas count
abbrev pub logged_in : Lent → List Answered → ℕ → List ℕ
logged_in l es t = map (λ e. e.order) (keep (is_counted (store_in l)) ((logged opened es).entries t))

-- for whatever areas are lent, if a fresh store is not refused there: after every list of calls, a list asked for at a moment that can be
-- read, where it fits, gives what the log has
abbrev pub WorkOrders : Type 0
WorkOrders =
    (lent : Lent) (size : ℕ) (calls : List AreaCall) (t : ℕ) (area : List ℕ) → (fresh_bytes size lent).result ≡ 0
    → let made = (fresh_bytes size lent).areas in
    let l = areas_after made calls in
    let ws = logged_in l (answered_in made calls) t in
    CanRead (store_in l) t → 2 * length ws ≤ length area → Given ws area (list_bytes l t area)
