-- Statements by row number, and of soundness: what inner functions ask of the tables, and promise of them.
-- Nothing here is needed to read the meaning: a store that passes the table checks has all of it (proofs/Checked, proofs/ByNumber).
use Rattle.std.specs.Prelude.{ℕ, suc, ◌+◌, ◌*◌, ◌≤◌, ◌<◌, ◌≡◌, List, [], ◌∷◌, ◌++◌, map, reverse, Bool, true, false, ltb, length, get_or, take}
use Rattle.std.proofs.Math.Option.{Option}
use Rattle.model.specs.declared.Branch.{Branch}
use Rattle.model.specs.declared.Record.{Record}
use Rattle.model.specs.declared.Name.{Name}
use Rattle.model.specs.Store.{Store, newest, records, names, is_called, zero_branch, zero_record, zero_name, keep, any, open_end, ◌∈◌}
use Rattle.model.specs.Lookup.{holds, ancestry, first_found}
use Rattle.model.specs.Soundness.{precedes, used}
use Rattle.model.specs.Wire.{Request, write, mark, revert, read_at, reclaim, give, withdraw}

-- a row by its number
abbrev pub branch : List Branch → ℕ → Branch
branch bs i = get_or bs i zero_branch

abbrev pub entry : List Record → ℕ → Record
entry rs i = get_or rs i zero_record

abbrev pub name_row : List Name → ℕ → Name
name_row ns i = get_or ns i zero_name

-- the first n rows, newest first
abbrev pub newest_of : {A : Type 0} → List A → ℕ → List A
newest_of rows n = reverse (take n rows)

-- one of the first n branches holds the moment
unfoldable pub held : List Branch → ℕ → ℕ → Bool
held bs n t = any (λ d. holds d t) (newest_of bs n)

-- Figure 1 over records and a list of branches, newest first
abbrev pub find : List Record → ℕ → List Branch → ℕ → Option Record
find rs a bs t = first_found rs a (ancestry bs t)

-- the moments that decide a reclaim to the floor m: the floor, each row's start above it, and the named ones (proofs/Candidates)
abbrev pub candidates : ℕ → List Branch → List ℕ
candidates m bs = m ∷ map (λ b. b.start) (keep (λ b. ltb m b.start) bs)

abbrev pub deciding : List ℕ → ℕ → List Branch → List ℕ
deciding named m bs = candidates m bs ++ named

-- n branches follow one another
pub record Stairs (bs : List Branch) (n : ℕ) : Type 0 where
  pub ordered : (i : ℕ) → i < n → (branch bs i).start ≤ (branch bs i).end
  pub apart : (i j : ℕ) → i < j → j < n → (branch bs i).end < (branch bs j).start

-- n branches in order, each but the first cut from an earlier one
pub record Line (bs : List Branch) (n : ℕ) : Type 0 where
  pub stairs : Stairs bs n
  pub parent : (i : ℕ) → 0 < i → i < n → held bs i (branch bs i).cut ≡ true

-- n records ascend strictly by address, then by moment
pub record Ascend (rs : List Record) (n : ℕ) : Type 0 where
  pub addresses : (i j : ℕ) → i < j → j < n → (entry rs i).address ≤ (entry rs j).address
  pub moments : (i j : ℕ) → i < j → j < n → (entry rs i).address ≡ (entry rs j).address → (entry rs i).moment < (entry rs j).moment

-- the place row of each of n records names it, and no other row names one
pub record Names (rs : List Record) (n : ℕ) (ps : List ℕ) : Type 0 where
  pub inside : (k : ℕ) → k < n → (entry rs k).place < length ps
  pub row : (k : ℕ) → k < n → get_or ps (entry rs k).place 0 ≡ suc k
  pub only : (q v : ℕ) → get_or ps q 0 ≡ suc v → (v < n) × ((entry rs v).place ≡ q)

-- records ascend: each stands before all that follow
abbrev pub Asc : List Record → Type 0
Asc [] = Unit {0}
Asc (r ∷ rs) = ((q : Record) → q ∈ rs → precedes r q ≡ true) × Asc rs

-- a cut is at most its row's start
abbrev pub Falls : List Branch → Type 0
Falls [] = Unit {0}
Falls (b ∷ bs) = (b.cut ≤ b.start) × Falls bs

-- sound branch rows, newest first: the first row, and each row against those before it
pub record First (b : Branch) : Type 0 where
  pub start : b.start ≡ 0
  pub cut : b.cut ≡ 0
  pub order : b.order ≡ 0
  pub ordered : b.start ≤ b.end

pub record Link (floor : ℕ) (b c : Branch) (earlier : List Branch) : Type 0 where
  pub ordered : b.start ≤ b.end
  pub after : c.end < b.start
  pub follows : floor < b.start → b.start ≡ c.end + 1
  pub parent : any (λ d. holds d b.cut) (c ∷ earlier) ≡ true
  pub order : b.order ≤ 65535

abbrev pub Chain : ℕ → List Branch → Type 0
Chain floor [] = ⊥
Chain floor (b ∷ []) = First b
Chain floor (b ∷ c ∷ earlier) = Link floor b c earlier × Chain floor (c ∷ earlier)

-- the newest row is open and begun
pub record Open (now : ℕ) (b : Branch) : Type 0 where
  pub still : b.end ≡ open_end
  pub begun : b.start ≤ now

abbrev pub SoundRows : ℕ → ℕ → List Branch → Type 0
SoundRows floor now [] = ⊥
SoundRows floor now (b ∷ earlier) = Open now b × Chain floor (b ∷ earlier)

-- the place row of each record, from row number i on, names it
abbrev pub Named : List ℕ → ℕ → List Record → Type 0
Named ps i [] = Unit {0}
Named ps i (r ∷ rs) = (r.place < length ps) × (get_or ps r.place 0 ≡ i) × Named ps (suc i) rs

-- the sizes that a store may have
pub record Allowed (size nb nr np nn ns : ℕ) : Type 0 where
  pub size_low : 1 ≤ size
  pub size_high : size ≤ 65536
  pub branches_low : 1 ≤ nb
  pub branches_high : nb ≤ 4096
  pub records_low : 1 ≤ nr
  pub records_high : nr ≤ 65536
  pub places_low : 1 ≤ np
  pub places_high : np ≤ 65536
  pub name_rows : nn ≡ 32
  pub slab : ns ≡ 256 * np

abbrev pub AllowedIn : Store → ℕ → Type 0
AllowedIn s size = Allowed size (length s.branch_rows) (length s.record_rows) (length s.place_rows) (length s.name_rows) (length s.slab)

pub record Sizes (s : Store) : Type 0 where
  pub allowed : AllowedIn s s.head.size
  pub counted_low : 1 ≤ s.head.branches
  pub counted_high : s.head.branches ≤ length s.branch_rows
  pub records_counted : s.head.records ≤ length s.record_rows
  pub names_counted : s.head.names ≤ 32
  pub floor_now : s.head.floor ≤ s.head.now
  pub now_high : s.head.now ≤ open_end

-- a record by itself
pub record Fits (size now : ℕ) (bs : List Branch) (r : Record) : Type 0 where
  pub address : r.address < size
  pub moment : r.moment ≤ now
  pub held : any (λ b. holds b r.moment) bs ≡ true

-- a record by itself, in row i, counted from 1: its place row names it
pub record ByItself (s : Store) (i : ℕ) (r : Record) : Type 0 where
  pub fits : Fits s.head.size s.head.now (newest s) r
  pub inside : r.place < length s.place_rows
  pub named : get_or s.place_rows r.place 0 ≡ i

-- a named moment is below now and inside a row
pub record NameFits (now : ℕ) (bs : List Branch) (n : Name) : Type 0 where
  pub below : n.moment < now
  pub held : any (λ b. holds b n.moment) bs ≡ true

-- names are different
abbrev pub Apart : List Name → Type 0
Apart [] = Unit {0}
Apart (n ∷ ns) = (any (is_called n.high n.low) ns ≡ false) × Apart ns

-- sound names
pub record SoundNames (now : ℕ) (bs : List Branch) (ns : List Name) : Type 0 where
  pub apart : Apart ns
  pub fit : (n : Name) → n ∈ ns → NameFits now bs n

-- a store that passes the table checks, with a now of 32 bits (proofs/Checked, check_sound; back: proofs/Invariant, sound_check)
pub record Sound (s : Store) : Type 0 where
  pub sizes : Sizes s
  pub rows : SoundRows s.head.floor s.head.now (newest s)
  pub names : SoundNames s.head.now (newest s) (names s)
  pub ascends : Asc (records s)
  pub fits : (r : Record) → r ∈ records s → Fits s.head.size s.head.now (newest s) r
  pub named : Named s.place_rows 1 (records s)
  pub in_use : used s.place_rows ≡ s.head.records

-- a request as it is read: its page is whole, its work order has 16 bits, and the numbers of its name have 32
abbrev pub Whole : Request → Type 0
Whole (write a page) = length page ≡ 256
Whole mark = Unit {0}
Whole (revert m w) = w ≤ 65535
Whole (read_at a m) = Unit {0}
Whole (reclaim m) = Unit {0}
Whole (give n) = (n.high < 4294967296) × (n.low < 4294967296)
Whole (withdraw high low) = Unit {0}
