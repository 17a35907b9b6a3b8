-- Demand 3 said of the C entries: one claim about a whole list of calls on areas of bytes. proofs/Demand3.antt proves it.
use Rattle.std.specs.Prelude.{ℕ, ◌≤◌, ◌<◌, ◌≡◌, ◌⊎◌, List, [], ◌∷◌, ◌++◌, length, drop}
use Rattle.model.specs.Wire.{read_at, request_bytes, answer_bytes}
use Rattle.model.specs.Batch.{Answered, answers_of}
use Rattle.model.specs.Reference.{Reference, empty}
use Rattle.model.specs.Demand3.{fed, Readable, read_answer, Agrees}
use Rattle.live.specs.Live.{LiveDisk, disk_check, live_batch}
use Rattle.areas.specs.Lent.{Lent, store_in, live_in}
use Rattle.fresh_areas.specs.Fresh.{fresh_bytes}
use Rattle.batch_areas.specs.Batch.{BatchLeft, batch_left, read_in, batch_bytes}

-- a call: the bytes of a batch, an answer area with what stands in it, and a live disk, whatever it holds
pub record AreaCall : Type 0 where
  pub input : List ℕ
  pub area : List ℕ
  pub disk : LiveDisk

-- what a call on the areas leaves
abbrev pub left : Lent → AreaCall → BatchLeft
left l c = batch_bytes l c.disk c.input c.area

-- the requests of a call that were answered, in order, refused ones included
abbrev pub log_of : Lent → AreaCall → List Answered
log_of l c = (live_batch (live_in l c.disk) c.input (length c.area)).run.log

-- the areas after the calls, each on the areas that the last one left
unfoldable pub areas_after : Lent → List AreaCall → Lent
areas_after l [] = l
areas_after l (c ∷ cs) = areas_after (left l c).areas cs

-- the list's requests: those that the calls answered, in order
unfoldable pub answered_in : Lent → List AreaCall → List Answered
answered_in l [] = []
answered_in l (c ∷ cs) = log_of l c ++ answered_in (left l c).areas cs

-- bytes put in front of an area, what is past them untouched
abbrev pub in_front_of : List ℕ → List ℕ → List ℕ
in_front_of xs area = xs ++ drop (length xs) area

-- what a call reports and sends: it is not refused by 1, 2 or 3, and its requests' answers stand one behind the other
pub record Sent (l : Lent) (c : AreaCall) : Type 0 where
  pub stop : ((left l c).stop ≡ 0) ⊎ (11 ≤ (left l c).stop)
  pub answered : (left l c).answered ≡ length (log_of l c)
  pub answer_bytes : (left l c).answer_bytes ≡ length (answers_of (log_of l c))
  pub answers : (left l c).answers ≡ in_front_of (answers_of (log_of l c)) c.area

-- and each call of a list
abbrev pub AllSent : Lent → List AreaCall → Type 0
AllSent l [] = Unit {0}
AllSent l (c ∷ cs) = Sent l c × AllSent (left l c).areas cs

-- what holds of the areas of a store of `size` pages after the requests es, which took the reference to p
pub record AgreesIn (size : ℕ) (l : Lent) (p : Reference) (es : List Answered) : Type 0 where
  pub store : Agrees size (store_in l) p es
  -- a call next after the list that holds just a read, by its bytes, with a live disk that fits: the areas stay, and the answer is the
  -- snapshot's page
  pub reads : (a t : ℕ) (d : LiveDisk) (area : List ℕ) → a < size → Readable p t → disk_check size d ≡ 0 → length (answer_bytes (read_answer t (p.snapshot t a))) ≤ length area
      → batch_bytes l d (request_bytes (read_at a t)) area
      ≡ batch_left 0 1 7 (length (answer_bytes (read_answer t (p.snapshot t a)))) (read_in l) l d
      (in_front_of (answer_bytes (read_answer t (p.snapshot t a))) area)

-- for whatever areas are lent, if a fresh store of `size` pages is not refused there: every list of calls
abbrev pub Demand3 : Type 0
Demand3 =
    (lent : Lent) (size : ℕ) (calls : List AreaCall) → (fresh_bytes size lent).result ≡ 0
    → let made = (fresh_bytes size lent).areas in
    AgreesIn size (areas_after made calls) (fed empty (answered_in made calls)) (answered_in made calls) × AllSent made calls
