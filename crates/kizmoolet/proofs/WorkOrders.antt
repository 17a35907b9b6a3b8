-- Change request Seven of the C entries: the model's claim, and the list that a call writes.
use Prim.Native.Nat.{ℕ, ◌*◌, ◌≤◌}
use mathlib.Core.Path.{◌≡◌, sym, ap, subst}
use mathlib.Core.List.{List}
use lib.ListN.{length}
use Rattle.model.specs.Store.{Store}
use Rattle.model.specs.Fresh.{made_fresh}
use Rattle.model.specs.Demand3.{after}
use Rattle.model.proofs.Invariant.{sound_check}
use Rattle.work_orders.specs.Orders.{work_orders, Listing, listing}
use Rattle.work_orders.specs.Demand.{Passes, CanRead, Given}
use Rattle.work_orders.proofs.Demand.{order_demand}
use Rattle.work_orders.proofs.Logging.{from_log}
use Rattle.areas.specs.Lent.{Lent, store_in}
use Rattle.fresh_areas.specs.Fresh.{fresh_bytes}
use Rattle.listing_areas.specs.Lists.{list_bytes}
use Rattle.kizmoolet.specs.Demand3.{areas_after, answered_in}
use Rattle.kizmoolet.specs.WorkOrders.{logged_in, WorkOrders}
use Rattle.kizmoolet.proofs.Demand3.{Ready, Follows, follows, made, made_ready}

-- a list asked for on areas that hold a store is that of the store
lists_in : (l : Lent) (s : Store) → Ready l s → (t : ℕ) (area : List ℕ) → list_bytes l t area ≡ listing s t area
unfolding list_bytes
lists_in l s r t area = rw r.holds.fit (ap (λ (x : Store). listing x t area) r.holds.store)

pub work_orders_bytes : WorkOrders
work_orders_bytes lent size calls t area z c i =
    let first : Lent = (fresh_bytes size lent).areas in
    let s : Store = made_fresh (store_in lent) size in
    let f : Follows first s calls = follows first s (made_ready lent size z) calls in
    let l : Lent = areas_after first calls in
    let u : Store = after s f.served in
    let c' : CanRead u t = subst (λ (x : Store). CanRead x t) f.ready.holds.store c in
    let p : Passes u = record { checked = sound_check u f.ready.sound; bits = f.ready.sound.sizes.now_high } in
    let e : work_orders u t ≡ logged_in l (answered_in first calls) t =
    rw (f.ready.holds.store, f.requests) (from_log (store_in lent) size f.served t (made lent size z).1 c') in
    let g : Given (logged_in l (answered_in first calls) t) area (listing u t area) =
    subst (λ (ws : List ℕ). Given ws area (listing u t area)) e (order_demand.given u t area p c' (subst (λ (ws : List ℕ). 2 * length ws ≤ length area) (sym e) i)) in
    subst (λ (x : Listing). Given (logged_in l (answered_in first calls) t) area x) (sym (lists_in l u f.ready t area)) g
