-- The work orders of a moment: document 02, change request Seven.
use Rattle.std.specs.Prelude.{ℕ, ◌*◌, List, [], ◌∷◌, ◌++◌, map, cond, ltb, eqb, length, drop}
use Rattle.model.specs.declared.Branch.{Branch}
use Rattle.model.specs.Store.{Store, newest}
use Rattle.model.specs.Lookup.{ancestry, readable}
use Rattle.model.specs.Soundness.{table_check}
use Rattle.model.specs.Wire.{bytes}
use Rattle.work_orders.specs.declared.Listed.{Listed}

-- the branches of an ancestry, of branches that stand newest first: from the branch that holds the moment up to and with the first row
unfoldable pub way_in : List Branch → ℕ → List Branch
way_in bs t = map (λ g. g.branch) (ancestry bs t)

-- their work orders, nearest first
unfoldable pub orders_in : List Branch → ℕ → List ℕ
orders_in bs t = map (λ b. b.order) (way_in bs t)

-- the same of a store's moment
abbrev pub way : Store → ℕ → List Branch
way s t = way_in (newest s) t

abbrev pub work_orders : Store → ℕ → List ℕ
work_orders s t = orders_in (newest s) t

-- the list as it is written: two bytes each, high byte first
unfoldable pub order_bytes : List ℕ → List ℕ
order_bytes [] = []
order_bytes (w ∷ ws) = bytes 2 w ++ order_bytes ws

-- the refusal of a listing with `space` bytes for the list, 0 where there is none: the table checks, then 8 and 9, and 14 if it does not fit
unfoldable pub list_refusal : Store → ℕ → ℕ → ℕ
list_refusal s t space =
    cond (eqb (table_check s) 0)
    (cond (readable s t)
    (cond (ltb s.head.now t) 9
    (cond (ltb space (2 * length (work_orders s t))) 14 0))
    8)
    (table_check s)

-- what a listing gives: its report, and the area for the list
pub record Listing : Type 0 where
  pub report : Listed
  pub area : List ℕ

-- the list in front of an area, what is past it untouched
abbrev pub listed_in : List ℕ → List ℕ → List ℕ
listed_in ws area = order_bytes ws ++ drop (2 * length ws) area

-- the work orders of a moment, listed, and how many; a refusal writes nothing and says 0
unfoldable pub listing : Store → ℕ → List ℕ → Listing
listing s t area =
    cond (eqb (list_refusal s t (length area)) 0)
    (record { report = record { refusal = 0; count = length (work_orders s t) }; area = listed_in (work_orders s t) area })
    (record { report = record { refusal = list_refusal s t (length area); count = 0 }; area = area })
