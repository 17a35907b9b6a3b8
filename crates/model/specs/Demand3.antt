-- Demand 3: one claim about a whole list of batches to a fresh store, over definitions alone. proofs/Demand3.antt proves it.
use Rattle.std.specs.Prelude.{ℕ, ◌-◌, ◌≤◌, ◌<◌, ◌≡◌, ◌⊎◌, List, [], ◌∷◌, ◌++◌, map, Bool, true, false, not, eqb, length}
use Rattle.std.proofs.Math.Option.{Option, some}
use Rattle.model.specs.declared.Branch.{Branch}
use Rattle.model.specs.declared.Record.{Record}
use Rattle.model.specs.declared.Name.{Name}
use Rattle.model.specs.Store.{Store, branches, records, names, moments, called, keep, Page, page_of, ◌∈◌}
use Rattle.model.specs.Lookup.{is_readable}
use Rattle.model.specs.Soundness.{ascending, table_check}
use Rattle.model.specs.Wire.{Request, write, mark, revert, read_at, reclaim, give, withdraw, request_bytes, Answer, accepted, answer_bytes}
use Rattle.model.specs.Step.{stays, step}
use Rattle.model.specs.Fresh.{fresh_check, made_fresh}
use Rattle.model.specs.Batch.{Answered, ended, and_then, batch}
use Rattle.model.specs.Reference.{Pair, Reference, empty, is_seen, feed}

-- a call: a batch of any bytes, with an answer area of any length
pub record Call : Type 0 where
  pub input : List ℕ
  pub space : ℕ

-- the store after the calls, each on the store that the last one left
unfoldable pub after : Store → List Call → Store
after s [] = s
after s (c ∷ cs) = after (batch s c.input c.space).store cs

-- the list's requests: those that the calls answered, in order, refused ones included
unfoldable pub answered : Store → List Call → List Answered
answered s [] = []
answered s (c ∷ cs) =
    let r = batch s c.input c.space in
    r.log ++ answered r.store cs

abbrev pub refuses : Answer → Bool
refuses x = not (eqb x.refusal 0)

-- the reference fed with a request and, of its answer, only whether it is a refusal
abbrev pub next : Reference → Answered → Reference
next p e = feed p e.request (refuses e.answer)

unfoldable pub fed : Reference → List Answered → Reference
fed p [] = p
fed p (e ∷ es) = fed (next p e) es

-- readable are the moments from the floor to now, and the named ones
pub record Readable (p : Reference) (t : ℕ) : Type 0 where
  pub low : is_readable p.floor (moments p.names) t ≡ true
  pub high : t ≤ p.now

-- the answer that a read gets: the moment asked, and the page of that snapshot if it has one
abbrev pub read_answer : ℕ → Option Page → Answer
read_answer m g = record { refusal = 0; value = m; page = g }

-- an answer is the one due by the reference as it stood before the request
abbrev pub Right : ℕ → Reference → Request → Answer → Type 0
Right size p (write a page) x = x.refusal ≡ 0 → x ≡ accepted p.now
Right size p mark x = x.refusal ≡ 0 → x ≡ accepted p.now
Right size p (revert m w) x = x.refusal ≡ 0 → x ≡ accepted p.now
Right size p (read_at a m) x = a < size → Readable p m → x ≡ read_answer m (p.snapshot m a)
Right size p (reclaim m) x = x.refusal ≡ 0 → x ≡ accepted (length p.held - length (keep (is_seen p m) p.held))
Right size p (give n) x = x.refusal ≡ 0 → x ≡ accepted n.moment
Right size p (withdraw high low) x = (n : Name) → called high low p.names ≡ some n → x ≡ accepted n.moment

abbrev pub AllRight : ℕ → Reference → List Answered → Type 0
AllRight size p [] = Unit {0}
AllRight size p (e ∷ es) = Right size p e.request e.answer × AllRight size (next p e) es

abbrev pub accepted_reclaim : Request → Answer → Bool
accepted_reclaim (write a page) x = false
accepted_reclaim mark x = false
accepted_reclaim (revert m w) x = false
accepted_reclaim (read_at a m) x = false
accepted_reclaim (reclaim m) x = eqb x.refusal 0
accepted_reclaim (give n) x = false
accepted_reclaim (withdraw high low) x = false

-- whether the last request is an accepted reclaim; b is the answer where there is no request
unfoldable pub last_reclaims : Bool → List Answered → Bool
last_reclaims b [] = b
last_reclaims b (e ∷ es) = last_reclaims (accepted_reclaim e.request e.answer) es

-- a record by address and moment
abbrev pub key : Record → Pair
key r = record { address = r.address; moment = r.moment }

-- the pages held, of counted records, are exactly the pages in readable snapshots, by address, moment and bytes;
-- and no branch is counted but the first row, those that end at or above the floor, that hold a named moment, that hold a record
pub record Exact (s : Store) (p : Reference) : Type 0 where
  pub seen : (r : Record) → r ∈ records s → (t : ℕ) × Readable p t × (p.snapshot t r.address ≡ some (page_of s.slab r))
  pub stored : (a t : ℕ) (g : Page) → Readable p t → p.snapshot t a ≡ some g
      → (r : Record) × (r ∈ records s) × (r.address ≡ a) × (page_of s.slab r ≡ g)
  pub needed : (b : Branch) → b ∈ branches s → stays p.floor (moments p.names) (records s) b ≡ true

-- what holds of a store of `size` pages after the requests es, which took the reference to p
pub record Agrees (size : ℕ) (s : Store) (p : Reference) (es : List Answered) : Type 0 where
  pub volume : s.head.size ≡ size
  pub now : s.head.now ≡ p.now
  pub floor : s.head.floor ≡ p.floor
  pub names : names s ≡ p.names
  -- the counted records are the held pairs, each once
  pub held : map key (records s) ≡ p.held
  pub once : ascending (records s) ≡ true
  -- a read next after the list, and the bytes of a batch that holds just that read
  pub reads : (a t : ℕ) → a < size → Readable p t → (step s (read_at a t)).answer ≡ read_answer t (p.snapshot t a)
  pub sent : (a t space : ℕ) → a < size → Readable p t → length (answer_bytes (read_answer t (p.snapshot t a))) ≤ space
      → batch s (request_bytes (read_at a t)) space ≡ and_then (read_at a t) (read_answer t (p.snapshot t a)) 7 (ended s 0)
  -- the answers in the list, and what is held after a last accepted reclaim
  pub right : AllRight size empty es
  pub exact : last_reclaims false es ≡ true → Exact s p
  -- the tables stay sound, so no later batch is refused by 1, 2 or 3
  pub sound : table_check s ≡ 0
  pub served : (input : List ℕ) (space : ℕ) → ((batch s input space).stop ≡ 0) ⊎ (11 ≤ (batch s input space).stop)

-- for whatever is lent, if a fresh store of `size` pages is not refused there: every list of calls
abbrev pub Demand3 : Type 0
Demand3 =
    (lent : Store) (size : ℕ) (calls : List Call) → fresh_check lent size ≡ 0
    → Agrees size (after (made_fresh lent size) calls) (fed empty (answered (made_fresh lent size) calls))
    (answered (made_fresh lent size) calls)
