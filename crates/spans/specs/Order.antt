-- Events by falling moment: the wanted moments, and the cuts at which further branches hang. What they number.
use Rattle.std.specs.Prelude.{◌≡◌, List, Bool, true, cond, ℕ, suc, ◌+◌, ◌-◌, ◌*◌, ◌/◌, ◌%◌, ◌≤◌, ◌<◌, leb, ltb, eqb, get_or}
use Rattle.model.specs.declared.Branch.{Branch}
use Rattle.model.specs.Store.{◌∈◌}
use Rattle.model.specs.ByNumber.{branch, held}
use Rattle.branch_marks.specs.Marks.{holder}
use Rattle.spans.specs.Last.{last_row}
use Rattle.spans.specs.declared.Span.{Span}
use Rattle.spans.specs.Reach.{reach}

-- an event's key: its moment, and 0 for a wanted moment or the row that hangs there
unfoldable pub when : List ℕ → ℕ → ℕ
when keys k = get_or keys k 0 / 4294967296

unfoldable pub kind : List ℕ → ℕ → ℕ
kind keys k = get_or keys k 0 % 4294967296

-- the event before c, if there is one, has the moment m or a later one
abbrev pub reaches : List ℕ → ℕ → ℕ → Bool
reaches keys m c = cond (eqb c 0) true (leb m (get_or keys (c - 1) 0 / 4294967296))

-- how many events have the moment m or a later one
unfoldable pub above : List ℕ → ℕ → ℕ → ℕ
above keys ne m = last_row (λ k. leb m (when keys k)) ne

-- a branch's events stand from its first to its past
unfoldable pub first_of : List Branch → List ℕ → ℕ → ℕ → ℕ
first_of bs keys ne i = above keys ne ((branch bs i).end + 1)

unfoldable pub past_of : List Branch → List ℕ → ℕ → ℕ → ℕ
past_of bs keys ne i = above keys ne (branch bs i).start

pub record Falling (keys : List ℕ) (ne : ℕ) : Type 0 where
  pub falls : (a b : ℕ) → a ≤ b → b < ne → when keys b ≤ when keys a

-- ne events in the rows: each row but the first hangs at one
pub record Tree (bs : List Branch) (n : ℕ) (keys : List ℕ) (ne : ℕ) : Type 0 where
  pub order : Falling keys ne
  pub inside : (k : ℕ) → k < ne → held bs n (when keys k) ≡ true
  pub inner : (k : ℕ) → k < ne → 0 < kind keys k → (kind keys k < n) × (when keys k ≡ (branch bs (kind keys k)).cut)
  pub once : (a b : ℕ) → a < ne → b < ne → 0 < kind keys a → kind keys a ≡ kind keys b → a ≡ b
  pub rows : (j : ℕ) → 0 < j → j < n → (k : ℕ) × (k < ne) × (kind keys k ≡ j)

-- the other events are the wanted moments
pub record Leaves (wanted keys : List ℕ) (ne : ℕ) : Type 0 where
  pub leaf : (k : ℕ) → k < ne → kind keys k ≡ 0 → when keys k ∈ wanted
  pub every : (t : ℕ) → t ∈ wanted → (k : ℕ) × (k < ne) × (kind keys k ≡ 0) × (when keys k ≡ t)

-- the sums of the numbers of leaves below the events, up to each of the first m
pub record Sums (bs : List Branch) (keys : List ℕ) (ne m : ℕ) (sums : List ℕ) : Type 0 where
  pub small : (k : ℕ) → k ≤ m → get_or sums k 0 ≤ k * 16384
  pub rises : (k : ℕ) → k < m → get_or sums k 0 ≤ get_or sums (suc k) 0
  pub leaf : (k : ℕ) → k < m → kind keys k ≡ 0 → get_or sums (suc k) 0 ≡ get_or sums k 0 + 1
  pub inner : (k : ℕ) → k < m → 0 < kind keys k
      → get_or sums (suc k) 0 + get_or sums (first_of bs keys ne (kind keys k)) 0 ≡ get_or sums k 0 + get_or sums (past_of bs keys ne (kind keys k)) 0

-- a table of where the events of n rows begin
pub record Edges (bs : List Branch) (n : ℕ) (keys : List ℕ) (ne : ℕ) (edges : List ℕ) : Type 0 where
  pub at : (i : ℕ) → i < n → get_or edges i 0 ≡ first_of bs keys ne i

-- a row's leaves are numbered up to ne
pub record Fits (bs : List Branch) (keys : List ℕ) (ne : ℕ) (sums firsts : List ℕ) (j : ℕ) : Type 0 where
  pub fits : get_or firsts j 0 + get_or sums (past_of bs keys ne j) 0 ≤ get_or sums (first_of bs keys ne j) 0 + ne

-- the number of each row's first leaf, of the rows that hang at m or later
pub record Firsts (bs : List Branch) (n : ℕ) (keys : List ℕ) (ne m : ℕ) (sums firsts : List ℕ) : Type 0 where
  pub root : get_or firsts 0 0 ≡ 0
  pub start : Fits bs keys ne sums firsts 0
  pub small : (k : ℕ) → m ≤ k → k < ne → 0 < kind keys k → Fits bs keys ne sums firsts (kind keys k)
  pub next : (k : ℕ) → m ≤ k → k < ne → 0 < kind keys k
      → get_or firsts (kind keys k) 0 + get_or sums (first_of bs keys ne (holder bs n (when keys k))) 0 ≡ get_or firsts (holder bs n (when keys k)) 0 + get_or sums k 0

-- the span of a moment
unfoldable pub span_low : List Branch → ℕ → List ℕ → ℕ → ℕ
span_low bs n firsts m = get_or firsts (holder bs n m) 0

unfoldable pub span_high : List Branch → ℕ → List ℕ → ℕ → List ℕ → List ℕ → ℕ → ℕ
span_high bs n keys ne sums firsts m =
    get_or firsts (holder bs n m) 0 + (get_or sums (above keys ne m) 0 - get_or sums (first_of bs keys ne (holder bs n m)) 0)

-- p is a number of the wanted moment t: the spans that have it are those of the moments by which a lookup at t comes
pub record Numbers (bs : List Branch) (n : ℕ) (wanted : List ℕ) (lo hi : ℕ → ℕ) (p t : ℕ) : Type 0 where
  pub listed : t ∈ wanted
  pub inside : (m : ℕ) → held bs n m ≡ true → reach bs n t m ≡ true → (lo m ≤ p) × (p < hi m)
  pub reached : (m : ℕ) → held bs n m ≡ true → lo m ≤ p → p < hi m → reach bs n t m ≡ true

-- the numbers of spans are those of wanted moments
pub record Numbered (bs : List Branch) (n : ℕ) (wanted : List ℕ) (lo hi : ℕ → ℕ) : Type 0 where
  pub at : (m p : ℕ) → held bs n m ≡ true → lo m ≤ p → p < hi m → (t : ℕ) × Numbers bs n wanted lo hi p t
  pub of : (t : ℕ) → t ∈ wanted → (p : ℕ) × Numbers bs n wanted lo hi p t

-- the first and the last moment of the row i that c events have or pass
unfoldable pub first_moment : List Branch → ℕ → List ℕ → ℕ → ℕ → ℕ
first_moment bs i keys ne c = cond (ltb c ne) (cond (ltb (branch bs i).start (when keys c + 1)) (when keys c + 1) (branch bs i).start) (branch bs i).start

unfoldable pub last_moment : List Branch → ℕ → List ℕ → ℕ → ℕ
last_moment bs i keys c = cond (ltb 0 c) (cond (ltb (branch bs i).end (when keys (c - 1))) (branch bs i).end (when keys (c - 1))) (branch bs i).end

-- s is the span of all moments that it names
pub record Ranged (bs : List Branch) (n : ℕ) (keys : List ℕ) (ne : ℕ) (sums firsts : List ℕ) (s : Span) : Type 0 where
  pub order : s.lo ≤ s.hi
  pub within : s.hi ≤ ne
  pub row_in : s.row < n
  pub at_in : s.at ≤ ne
  pub low : (t : ℕ) → s.from ≤ t → t ≤ s.to → s.lo ≡ span_low bs n firsts t
  pub high : (t : ℕ) → s.from ≤ t → t ≤ s.to → s.hi ≡ span_high bs n keys ne sums firsts t

-- s is the span of the moment m
pub record Spanned (bs : List Branch) (n : ℕ) (keys : List ℕ) (ne : ℕ) (sums firsts : List ℕ) (m : ℕ) (s : Span) : Type 0 where
  pub low : s.lo ≡ span_low bs n firsts m
  pub high : s.hi ≡ span_high bs n keys ne sums firsts m
  pub ranged : Ranged bs n keys ne sums firsts s
