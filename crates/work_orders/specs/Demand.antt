-- What a list of work orders means to a crew: change request Seven, over definitions alone. proofs/Demand proves it.
use Rattle.std.specs.Prelude.{ℕ, ◌*◌, ◌≤◌, ◌<◌, ◌≡◌, List, [], ◌∷◌, ◌++◌, map, Bool, true, false, length, take, drop, get_or}
use Rattle.model.specs.declared.Branch.{Branch}
use Rattle.model.specs.Store.{Store, records, names, moments, keep, open_end}
use Rattle.model.specs.Lookup.{readable, is_given}
use Rattle.model.specs.Soundness.{table_check}
use Rattle.model.specs.Wire.{number, Request, write, mark, revert, read_at, reclaim, give, withdraw}
use Rattle.model.specs.Step.{stays, step}
use Rattle.work_orders.specs.Orders.{way, work_orders, Listing, listing}

-- a request that neither begins a branch nor drops one: writes, marks, reads, names
abbrev pub leaves_branches : Request → Bool
leaves_branches (write a page) = true
leaves_branches mark = true
leaves_branches (revert m w) = false
leaves_branches (read_at a m) = true
leaves_branches (reclaim m) = false
leaves_branches (give n) = true
leaves_branches (withdraw high low) = true

-- a store that passes the table checks, with a now of 32 bits
pub record Passes (s : Store) : Type 0 where
  pub checked : table_check s ≡ 0
  pub bits : s.head.now ≤ open_end

-- a moment that can be read
pub record CanRead (s : Store) (t : ℕ) : Type 0 where
  pub low : readable s t ≡ true
  pub high : t ≤ s.head.now

-- a request that is accepted
abbrev pub Accepted : Store → Request → Type 0
Accepted s q = (step s q).answer.refusal ≡ 0

-- the store after a request
abbrev pub next : Store → Request → Store
next s q = (step s q).store

-- a branch stays in a reclaim to m (change request Four)
abbrev pub remains : Store → ℕ → Branch → Bool
remains s m = stays m (moments (names s)) (keep (is_given s m) (records s))

-- the work orders of branches
abbrev pub orders_of : List Branch → List ℕ
orders_of = map (λ b. b.order)

-- what is listed: as many as there are, each read back from its two bytes, and what lies past them as it was
pub record Given (ws area : List ℕ) (x : Listing) : Type 0 where
  pub refusal : x.report.refusal ≡ 0
  pub count : x.report.count ≡ length ws
  pub each : (i : ℕ) → i < length ws → number 0 (take 2 (drop (2 * i) x.area)) ≡ get_or ws i 0
  pub past : drop (2 * length ws) x.area ≡ drop (2 * length ws) area
  pub long : length x.area ≡ length area

pub record OrderDemand : Type 0 where
  -- the list of a moment that can be read, where it fits
  pub given : (s : Store) (t : ℕ) (area : List ℕ) → Passes s → CanRead s t → 2 * length (work_orders s t) ≤ length area
      → Given (work_orders s t) area (listing s t area)
  -- a refusal writes nothing and says 0
  pub nothing : (s : Store) (t : ℕ) (area : List ℕ) → ((listing s t area).report.refusal ≡ 0 → ⊥)
      → ((listing s t area).report.count ≡ 0) × ((listing s t area).area ≡ area)
  -- a list ends with the first row's 0
  pub first : (s : Store) (t : ℕ) → Passes s → CanRead s t → (ws : List ℕ) × (work_orders s t ≡ ws ++ (0 ∷ []))
  -- right after a revert to m with work order w the list at now is w, then the list of m as it was
  pub begins : (s : Store) (m w : ℕ) → Passes s → Accepted s (revert m w)
      → work_orders (next s (revert m w)) (next s (revert m w)).head.now ≡ w ∷ work_orders s m
  -- it changes the list of no moment before
  pub before : (s : Store) (m w t : ℕ) → Passes s → Accepted s (revert m w) → t ≤ s.head.now → work_orders (next s (revert m w)) t ≡ work_orders s t
  -- writes, marks, reads and names change no list, nor does a request that is refused
  pub same : (s : Store) (q : Request) (t : ℕ) → leaves_branches q ≡ true → work_orders (next s q) t ≡ work_orders s t
  pub refused : (s : Store) (q : Request) (t : ℕ) → (Accepted s q → ⊥) → work_orders (next s q) t ≡ work_orders s t
  -- after a mark now has the list that it had
  pub marked : (s : Store) → Passes s → Accepted s mark → work_orders (next s mark) (next s mark).head.now ≡ work_orders s s.head.now
  -- a reclaim leaves of the list of each moment that can be read then exactly the work orders of the branches that stay
  pub reclaims : (s : Store) (m t : ℕ) → Passes s → Accepted s (reclaim m) → CanRead (next s (reclaim m)) t
      → work_orders (next s (reclaim m)) t ≡ orders_of (keep (remains s m) (way s t))
