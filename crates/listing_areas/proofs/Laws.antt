-- A list of work orders on areas that fit is that of the numbers that they spell.
use mathlib.Core.Path.{◌≡◌, subst}
use mathlib.Core.List.{List}
use mathlib.Core.Bool.{true}
use Prim.Native.Nat.{ℕ}
use Rattle.model.specs.declared.Head.{Head}
use Rattle.tables.specs.Numbers.{numbers_of, head_of}
use Rattle.tables.specs.Tables.{numbers_in}
use Rattle.areas.specs.Lent.{Lent, fits}
use Rattle.areas.proofs.Areas.{fit_tables}
use Rattle.work_orders.specs.declared.Listed.{Listed}
use Rattle.work_orders.specs.Orders.{Listing}
use Rattle.listing.specs.Lists.{listing_of, Lists}
use Rattle.listing_areas.specs.Lists.{list_bytes}

pub list_is : (l : Lent) → fits l ≡ true → {h : Head} → h ≡ head_of (numbers_of l.head) → (moment : ℕ) (area : List ℕ)
    → listing_of h (numbers_in l.tables) moment area ≡ list_bytes l moment area
unfolding listing_of list_bytes
list_is l fit eh moment area = rw (fit, fit_tables l fit, eh)

-- a listing by another name
pub lists_as : {x y : Listing} {r : Listed} {area : List ℕ} → x ≡ y → Lists x r area → Lists y r area
lists_as {x} {y} {r} {area} e h = subst (λ (z : Listing). Lists z r area) e h
