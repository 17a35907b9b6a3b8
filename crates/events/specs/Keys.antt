-- The keys of the events, before they are put in order.
use Rattle.std.specs.Prelude.{◌≡◌, List, ℕ, ◌+◌, ◌-◌, ◌*◌, ◌≤◌, ◌<◌, length, get_or}
use Rattle.model.specs.declared.Branch.{Branch}
use Rattle.model.specs.ByNumber.{branch}
use Rattle.sorting.specs.Sorted.{Sorted}
use Rattle.spans.specs.Order.{Tree, Leaves}

-- the key of a wanted moment
abbrev pub wanted_key : List ℕ → ℕ → ℕ
wanted_key wanted q = get_or wanted q 0 * 4294967296

-- the key of the row after row i
abbrev pub cut_key : List Branch → ℕ → ℕ
cut_key bs i = (branch bs (i + 1)).cut * 4294967296 + (i + 1)

-- from `at` on the table has f 0 .. f (m - 1), the others are as they were
pub record Laid (f : ℕ → ℕ) (at m : ℕ) (old new : List ℕ) : Type 0 where
  pub inside : (i : ℕ) → i < m → get_or new (at + i) 0 ≡ f i
  pub below : (x : ℕ) → x < at → get_or new x 0 ≡ get_or old x 0
  pub above : (x : ℕ) → at + m ≤ x → get_or new x 0 ≡ get_or old x 0
  pub long : length new ≡ length old

-- ne keys in order: the rows hang at them, and the leaves are the wanted moments
pub record Keyed (bs : List Branch) (n : ℕ) (wanted : List ℕ) (ne : ℕ) (keys : List ℕ) : Type 0 where
  pub count : ne + 1 ≡ length wanted + n
  pub tree : Tree bs n keys ne
  pub leaves : Leaves wanted keys ne

-- every number of the keys: the wanted moments are laid, then the rows' cuts, and both are put in order
pub record Listed (bs : List Branch) (n : ℕ) (wanted : List ℕ) (ne : ℕ) (old new : List ℕ) : Type 0 where
  pub moments : List ℕ
  pub events : List ℕ
  pub first : Laid (wanted_key wanted) 0 (length wanted) old moments
  pub second : Laid (cut_key bs) (length wanted) (n - 1) moments events
  pub sorted : Sorted 0 ne events new
