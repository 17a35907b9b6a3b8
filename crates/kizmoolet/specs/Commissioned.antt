-- Change request Three said of the C entries: a call that reads at a named moment gets what it did, until the name is withdrawn.
-- proofs/Commissioned.antt proves it.
use Rattle.std.specs.Prelude.{ℕ, ◌≤◌, ◌<◌, ◌≡◌, List, length}
use Rattle.model.specs.declared.Name.{Name}
use Rattle.model.specs.Store.{names, ◌∈◌}
use Rattle.model.specs.Wire.{read_at, request_bytes, Answer, answer_bytes}
use Rattle.model.specs.Commissioned.{StaysGiven}
use Rattle.live.specs.Live.{LiveDisk, disk_check}
use Rattle.areas.specs.Lent.{Lent, store_in}
use Rattle.fresh_areas.specs.Fresh.{fresh_bytes}
use Rattle.batch_areas.specs.Batch.{batch_left, read_in, batch_bytes}
use Rattle.kizmoolet.specs.Demand3.{AreaCall, areas_after, answered_in, in_front_of}

-- a call that holds just a read, by its bytes, with a live disk that fits, gets this answer wherever the answer has room, and leaves the
-- areas as they are
abbrev pub Gets : Lent → ℕ → ℕ → Answer → Type 0
Gets l a t x =
    (d : LiveDisk) (area : List ℕ) → disk_check (store_in l).head.size d ≡ 0 → length (answer_bytes x) ≤ length area
    → batch_bytes l d (request_bytes (read_at a t)) area ≡ batch_left 0 1 7 (length (answer_bytes x)) (read_in l) l d (in_front_of (answer_bytes x) area)

-- a row that areas held is held by others, and a call that reads at its moment gets the same answer of both
pub record AsNamedIn (l l' : Lent) (n : Name) : Type 0 where
  pub named : n ∈ names (store_in l')
  pub reads : (a : ℕ) → a < 65536 → (x : Answer) × Gets l a n.moment x × Gets l' a n.moment x

-- a list of calls on the areas of a fresh store, a name that they then hold, and more calls in which this name is not withdrawn
abbrev pub Commissioned : Type 0
Commissioned =
    (lent : Lent) (size : ℕ) (calls more : List AreaCall) (n : Name) → (fresh_bytes size lent).result ≡ 0
    → let first = areas_after (fresh_bytes size lent).areas calls in
    n ∈ names (store_in first) → StaysGiven n (answered_in first more) → AsNamedIn first (areas_after first more) n
