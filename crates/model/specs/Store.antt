-- The store's parts as lists of rows, and what is counted of them.
use Rattle.std.specs.Prelude.{ℕ, ◌+◌, ◌*◌, ◌≡◌, ◌⊎◌, List, [], ◌∷◌, ◌++◌, map, reverse, Bool, true, false, cond, ◌&&◌, not, eqb, take, drop}
use Rattle.std.proofs.Math.Option
use Rattle.std.proofs.Math.Option.{Option, some, none}
use Rattle.model.specs.declared.Branch.{Branch}
use Rattle.model.specs.declared.Record.{Record}
use Rattle.model.specs.declared.Name.{Name}
use Rattle.model.specs.declared.Head.{Head}

-- the largest number of 32 bits: the end of a branch that is still open
abbrev pub open_end : ℕ
open_end = 4294967295

abbrev pub zero_branch : Branch
zero_branch = record { start = 0; end = 0; cut = 0; order = 0 }

abbrev pub zero_record : Record
zero_record = record { address = 0; moment = 0; place = 0 }

abbrev pub zero_name : Name
zero_name = record { high = 0; low = 0; moment = 0 }

-- a store as it is lent: every row lent, the counted ones first
pub record Store : Type 0 where
  pub head : Head
  pub branch_rows : List Branch
  pub record_rows : List Record
  pub place_rows : List ℕ
  pub name_rows : List Name
  pub slab : List ℕ

-- the counted branch rows, oldest first
unfoldable pub branches : Store → List Branch
branches s = take s.head.branches s.branch_rows

-- the same, newest first
unfoldable pub newest : Store → List Branch
newest s = reverse (branches s)

-- the counted record rows
unfoldable pub records : Store → List Record
records s = take s.head.records s.record_rows

-- the counted name rows, in the order given
unfoldable pub names : Store → List Name
names s = take s.head.names s.name_rows

-- the moments that names stand for
abbrev pub moments : List Name → List ℕ
moments = map (λ n. n.moment)

-- a page with the moment of its write
pub record Page : Type 0 where
  pub bytes : List ℕ
  pub moment : ℕ

-- the 256 bytes at a place of the slab
unfoldable pub page_at : List ℕ → ℕ → List ℕ
page_at slab p = take 256 (drop (256 * p) slab)

-- the slab with a page put at a place
unfoldable pub with_page : List ℕ → ℕ → List ℕ → List ℕ
with_page slab p page = take (256 * p) slab ++ (page ++ drop (256 * p + 256) slab)

-- the page that a record stands for
abbrev pub page_of : List ℕ → Record → Page
page_of slab r = record { bytes = page_at slab r.place; moment = r.moment }

-- the page of a record that was found, if one was
abbrev pub found_page : List ℕ → Option Record → Option Page
found_page slab = Option.map (page_of slab)

-- an element of a list
infix 45 ◌∈◌
abbrev pub ◌∈◌ : {A : Type 0} → A → List A → Type 0
x ∈ [] = ⊥
x ∈ (y ∷ ys) = (x ≡ y) ⊎ (x ∈ ys)

-- the elements that pass a test, in order
unfoldable pub keep : {A : Type 0} → (A → Bool) → List A → List A
keep p [] = []
keep p (x ∷ xs) = cond (p x) (x ∷ keep p xs) (keep p xs)

-- whether some element passes
unfoldable pub any : {A : Type 0} → (A → Bool) → List A → Bool
any p [] = false
any p (x ∷ xs) = cond (p x) true (any p xs)

-- a row has the name whose 8 bytes are these two numbers
unfoldable pub is_called : ℕ → ℕ → Name → Bool
is_called high low n = eqb n.high high && eqb n.low low

-- the row that has a name
unfoldable pub called : ℕ → ℕ → List Name → Option Name
called high low [] = none
called high low (n ∷ ns) = cond (is_called high low n) (some n) (called high low ns)

-- the rows that have another name, in order
abbrev pub without : ℕ → ℕ → List Name → List Name
without high low = keep (λ n. not (is_called high low n))
