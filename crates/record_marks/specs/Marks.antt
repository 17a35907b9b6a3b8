-- The records that wanted moments give, as bytes by row number.
use Rattle.std.specs.Prelude.{◌≡◌, List, map, cond, ℕ, zero, suc, ◌+◌, ◌-◌, ◌*◌, ◌/◌, ◌%◌, ◌<◌, leb, eqb, get_or, set, take}
use Rattle.model.specs.declared.Branch.{Branch}
use Rattle.model.specs.declared.Record.{Record}
use Rattle.model.specs.Store.{any}
use Rattle.model.specs.Lookup.{is_at}
use Rattle.model.specs.ByNumber.{find, entry, newest_of}
use Rattle.branch_marks.specs.Marks.{bit, Filled, Rest}
use Rattle.sorting.specs.Sorted.{Roomed}
use Rattle.events.specs.Keys.{Listed}
use Rattle.spans.specs.Order.{Leaves, first_of, Sums, Firsts, span_low, span_high}

-- the byte of a record: 1 where a lookup at a wanted moment gives it
unfoldable pub given_row : List Branch → ℕ → List Record → ℕ → List ℕ → ℕ → ℕ
given_row bs n rs nr wanted k = bit (any (λ t. is_at (entry rs k).moment (find (take nr rs) (entry rs k).address (newest_of bs n) t)) wanted)

-- a table of zeros
pub record Blank (t : List ℕ) : Type 0 where
  pub zero : (k : ℕ) → get_or t k 0 ≡ 0

-- the bytes of nr records, for the wanted moments that are the leaves of the events
pub record GivenBy (bs : List Branch) (n : ℕ) (rs : List Record) (nr : ℕ) (keys : List ℕ) (ne : ℕ) (old new : List ℕ) : Type 0 where
  pub marks : (wanted : List ℕ) → Leaves wanted keys ne → Filled (given_row bs n rs nr wanted) nr old new

-- the address of a record, and the span of its moment
abbrev pub address_of : List Record → ℕ → ℕ
address_of rs k = (entry rs k).address

abbrev pub low_of : List Branch → ℕ → List ℕ → List Record → ℕ → ℕ
low_of bs n firsts rs k = span_low bs n firsts (entry rs k).moment

abbrev pub high_of : List Branch → ℕ → List ℕ → ℕ → List ℕ → List ℕ → List Record → ℕ → ℕ
high_of bs n keys ne sums firsts rs k = span_high bs n keys ne sums firsts (entry rs k).moment

-- a table after the last d of nr rows, from the last on: a row k with a span L k .. H k - 1 that is not empty puts v k at its begin
unfoldable pub spans_laid : (ℕ → ℕ) → (ℕ → ℕ) → (ℕ → ℕ) → ℕ → ℕ → List ℕ → List ℕ
spans_laid L H v nr zero t = t
spans_laid L H v nr (suc d) t =
    cond (leb (H (nr - suc d)) (L (nr - suc d))) (spans_laid L H v nr d t) (set (spans_laid L H v nr d t) (L (nr - suc d)) (v (nr - suc d)))

-- a number of the table of spans taken: the address times 4,294,967,296, and the end of the span; 0 where none begins
abbrev pub taken_number : ℕ → ℕ → ℕ
taken_number address end = address * 4294967296 + end

-- one more than the address, and the end
abbrev pub owner_of : ℕ → ℕ
owner_of v = cond (eqb (v % 4294967296) 0) 0 (v / 4294967296 + 1)

abbrev pub end_of : ℕ → ℕ
end_of v = v % 4294967296

abbrev pub owners_in : List ℕ → List ℕ
owners_in = map owner_of

abbrev pub ends_in : List ℕ → List ℕ
ends_in = map end_of

-- every number of the spans taken, after nr rows
pub record Taken (bs : List Branch) (n : ℕ) (keys : List ℕ) (ne : ℕ) (sums firsts : List ℕ) (rs : List Record) (nr : ℕ) (old new : List ℕ) : Type 0 where
  pub spans : new ≡ spans_laid (low_of bs n firsts rs) (high_of bs n keys ne sums firsts rs) (λ k. taken_number (address_of rs k) (high_of bs n keys ne sums firsts rs k)) nr nr old

-- every number of the rooms after the marks: the events, the edges, the sums and the first numbers of the rows, and in the room of the sort,
-- cleared, the spans taken
pub record Worked (bs : List Branch) (n : ℕ) (wanted : List ℕ) (rs : List Record) (nr : ℕ) (keys₀ keys room₀ room sums₀ sums edges₀ edges firsts₀ firsts : List ℕ) : Type 0 where
  pub ne : ℕ
  pub sorted : List ℕ
  pub cleared : List ℕ
  pub listed : Listed bs n wanted ne keys₀ keys
  pub edged : Filled (first_of bs keys ne) n edges₀ edges
  pub summed : Sums bs keys ne ne sums × Rest (ne + 1) sums₀ sums
  pub numbered : Firsts bs n keys ne 0 sums firsts × Rest n firsts₀ firsts
  pub roomed : Roomed 0 ne keys room₀ sorted × Filled (λ _. 0) ne sorted cleared
  pub taken : Taken bs n keys ne sums firsts rs nr cleared room

-- from lo, by jumps at the numbers that the owner a has
pub data Hop (owner jump : List ℕ) (a lo : ℕ) : ℕ → Type 0 where
  stay : Hop owner jump a lo lo
  more : {p q : ℕ} → Hop owner jump a lo p → get_or owner p 0 ≡ a → q ≡ get_or jump p 0 → Hop owner jump a lo q

-- the first number from lo on, below hi, that the owner a has not
pub record Stopped (owner jump : List ℕ) (a lo hi r : ℕ) : Type 0 where
  pub hops : Hop owner jump a lo r
  pub stop : r < hi → get_or owner r 0 ≡ a → ⊥

-- jumps go up
pub record Onward (owner jump : List ℕ) (a : ℕ) : Type 0 where
  pub up : (p : ℕ) → get_or owner p 0 ≡ a → p < get_or jump p 0
