-- A batch one request at a time.
use Prim.Native.Nat.{ℕ, zero, suc, ◌-◌, ◌≤◌, ◌<◌}
use mathlib.Core.Path.{◌≡◌, refl, sym, ap, ◌∙◌}
use mathlib.Core.Logic.{◌⊎◌, inl, inr}
use mathlib.Core.List.{List, [], ◌++◌, append-nil}
use mathlib.Core.Bool.{true, false}
use native.Mathlib.Omega.{arith}
use lib.Dec.{ltb}
use lib.ListN.{length, drop, length-drop}
use lib.Seq.{drop-length}
use borrow.Author.Tests.{le-ltb}
use Rattle.model.specs.Store.{Store}
use Rattle.model.specs.Soundness.{table_check}
use Rattle.model.specs.Wire.{Request, read_at, end, stop, one, parse, request_bytes, answer_bytes}
use Rattle.model.specs.Step.{step}
use Rattle.model.specs.Batch.{Run, ended, and_then, answers_of, run, batch}
use Rattle.model.proofs.Base.{case}
use Rattle.model.proofs.RoundTrip.{Sendable, length_head, request_round}
use Rattle.model.proofs.Parsing.{Reads, parse_reads, case_parsed}

module _ (fuel : ℕ) (s : Store) (input : List ℕ) (space : ℕ) where
  pub run_end : parse input ≡ end → run (suc fuel) s input space ≡ ended s 0
  unfolding run
  run_end e = rw (e, run)

  pub run_stop : (n : ℕ) → parse input ≡ stop n → run (suc fuel) s input space ≡ ended s n
  unfolding run
  run_stop n e = rw (e, run)

  pub run_full : (q : Request) (n : ℕ) → parse input ≡ one q n → ltb space (length (answer_bytes (step s q).answer)) ≡ true → run (suc fuel) s input space ≡ ended s 14
  unfolding run
  run_full q n e d = rw (e, d, run)

  pub run_one : (q : Request) (n : ℕ) → parse input ≡ one q n → ltb space (length (answer_bytes (step s q).answer)) ≡ false
      → run (suc fuel) s input space ≡ and_then q (step s q).answer n (run fuel (step s q).store (drop n input) (space - length (answer_bytes (step s q).answer)))
  unfolding run
  run_one q n e d = rw (e, d, run)

-- what a request leaves of an input is shorter
shorter : (n fuel : ℕ) (input : List ℕ) → 7 ≤ n → n ≤ length input → length input < suc fuel → length (drop n input) < fuel
shorter n fuel input i j l = omega (arith, length-drop n input)

abbrev SameFuel : ℕ → ℕ → Type 0
SameFuel fuel fuel' = (s : Store) (input : List ℕ) (space : ℕ) → length input < fuel → length input < fuel' → run fuel s input space ≡ run fuel' s input space

step_fuel : (fuel fuel' : ℕ) → SameFuel fuel fuel' → SameFuel (suc fuel) (suc fuel')
step_fuel fuel fuel' ih s input space l l' =
    case_parsed (parse input)
    (λ e. run_end fuel s input space e ∙ sym (run_end fuel' s input space e))
    (λ n e. run_stop fuel s input space n e ∙ sym (run_stop fuel' s input space n e))
    (λ q n e.
    let w : Reads (length input) (one q n) = rw e at (parse_reads input) in
    case (ltb space (length (answer_bytes (step s q).answer)))
    (λ d. run_full fuel s input space q n e d ∙ sym (run_full fuel' s input space q n e d))
    (λ d.
    run_one fuel s input space q n e d
    ∙ (ap (and_then q (step s q).answer n)
    (ih (step s q).store (drop n input) (space - length (answer_bytes (step s q).answer)) (shorter n fuel input w.1 w.2 l)
    (shorter n fuel' input w.1 w.2 l'))
    ∙ sym (run_one fuel' s input space q n e d))))

-- fuel above the length of the input makes no difference
pub run_fuel : (fuel fuel' : ℕ) → SameFuel fuel fuel'
run_fuel zero fuel' = λ s input space l l'. absurd (omega arith)
run_fuel (suc fuel) zero = λ s input space l l'. absurd (omega arith)
run_fuel (suc fuel) (suc fuel') = step_fuel fuel fuel' (run_fuel fuel fuel')

-- on tables that pass the checks a batch is its run
pub batch_run : (s : Store) (input : List ℕ) (space : ℕ) → table_check s ≡ 0 → batch s input space ≡ run (suc (length input)) s input space
unfolding batch
batch_run s input space e = rw e

-- on tables that do not, it ends with the refusal
pub batch_refused : (s : Store) (input : List ℕ) (space n : ℕ) → table_check s ≡ n → (n ≡ 0 → ⊥) → batch s input space ≡ ended s n
unfolding batch
batch_refused s input space zero e ne = absurd (ne refl)
batch_refused s input space (suc n) e ne = rw e

-- what follows a request is a batch of its own, with the store as the request left it
pub batch_next : (s : Store) (input : List ℕ) (space : ℕ) (q : Request) (n : ℕ) → table_check s ≡ 0 → table_check (step s q).store ≡ 0 → parse input ≡ one q n
    → ltb space (length (answer_bytes (step s q).answer)) ≡ false
    → batch s input space
    ≡ and_then q (step s q).answer n (batch (step s q).store (drop n input) (space - length (answer_bytes (step s q).answer)))
batch_next s input space q n c c' e d =
    let w : Reads (length input) (one q n) = rw e at (parse_reads input) in
    batch_run s input space c
    ∙ (run_one (length input) s input space q n e d
    ∙ ap (and_then q (step s q).answer n)
    (run_fuel (length input) (suc (length (drop n input))) (step s q).store (drop n input) _ (shorter n (length input) input w.1 w.2 (omega arith)) (omega arith)
    ∙ sym (batch_run (step s q).store (drop n input) _ c')))

-- a batch that ends, is stopped by what it reads, or has no space for the next answer
module _ (s : Store) (input : List ℕ) (space : ℕ) (c : table_check s ≡ 0) where
  pub batch_end : parse input ≡ end → batch s input space ≡ ended s 0
  batch_end e = batch_run s input space c ∙ run_end (length input) s input space e

  pub batch_stop : (n : ℕ) → parse input ≡ stop n → batch s input space ≡ ended s n
  batch_stop n e = batch_run s input space c ∙ run_stop (length input) s input space n e

  pub batch_full : (q : Request) (n : ℕ) → parse input ≡ one q n → ltb space (length (answer_bytes (step s q).answer)) ≡ true → batch s input space ≡ ended s 14
  batch_full q n e d = batch_run s input space c ∙ run_full (length input) s input space q n e d

-- an empty input
pub batch_empty : (s : Store) (space : ℕ) → table_check s ≡ 0 → batch s [] space ≡ ended s 0
unfolding parse
batch_empty s space c = batch_run s [] space c ∙ run_end 0 s [] space refl

-- a run stops at the end, or with 11 or more
abbrev Stops : Run → Type 0
Stops r = (r.stop ≡ 0) ⊎ (11 ≤ r.stop)

step_stops : (fuel : ℕ) → ((s : Store) (input : List ℕ) (space : ℕ) → Stops (run fuel s input space)) → (s : Store) (input : List ℕ) (space : ℕ) → Stops (run (suc fuel) s input space)
step_stops fuel ih s input space =
    case_parsed (parse input)
    (λ e. rw (run_end fuel s input space e) (inl refl))
    (λ n e.
    let w : Reads (length input) (stop n) = rw e at (parse_reads input) in
    rw (run_stop fuel s input space n e) (inr w.0))
    (λ q n e.
    case (ltb space (length (answer_bytes (step s q).answer)))
    (λ d. rw (run_full fuel s input space q n e d) (inr (omega arith)))
    (λ d. rw (run_one fuel s input space q n e d) (ih (step s q).store (drop n input) _)))

pub run_stops : (fuel : ℕ) (s : Store) (input : List ℕ) (space : ℕ) → Stops (run fuel s input space)
run_stops zero = stops_zero
  where
    stops_zero : (s : Store) (input : List ℕ) (space : ℕ) → Stops (run 0 s input space)
    stops_zero s input space = unfold run in inl refl
run_stops (suc fuel) = step_stops fuel (run_stops fuel)

-- what is sent is the answers of the requests answered, one behind the other
abbrev Sends : Run → Type 0
Sends r = r.out ≡ answers_of r.log

step_sends : (fuel : ℕ) → ((s : Store) (input : List ℕ) (space : ℕ) → Sends (run fuel s input space)) → (s : Store) (input : List ℕ) (space : ℕ) → Sends (run (suc fuel) s input space)
unfolding answers_of
step_sends fuel ih s input space =
    case_parsed (parse input)
    (λ e. rw (run_end fuel s input space e))
    (λ n e. rw (run_stop fuel s input space n e))
    (λ q n e.
    case (ltb space (length (answer_bytes (step s q).answer)))
    (λ d. rw (run_full fuel s input space q n e d))
    (λ d. rw (run_one fuel s input space q n e d) (ap (λ (x : List ℕ). answer_bytes (step s q).answer ++ x) (ih (step s q).store (drop n input) _))))

run_sends : (fuel : ℕ) (s : Store) (input : List ℕ) (space : ℕ) → Sends (run fuel s input space)
run_sends zero = sends_zero
  where
    sends_zero : (s : Store) (input : List ℕ) (space : ℕ) → Sends (run 0 s input space)
    sends_zero s input space = unfold run answers_of in refl
run_sends (suc fuel) = step_sends fuel (run_sends fuel)

pub batch_sends : (s : Store) (input : List ℕ) (space : ℕ) → (batch s input space).out ≡ answers_of (batch s input space).log
batch_sends s input space = go (table_check s) refl
  where
    go : (n : ℕ) → table_check s ≡ n → Sends (batch s input space)
    go zero e = rw (batch_run s input space e) (run_sends (suc (length input)) s input space)
    go (suc n) e = rw (batch_refused s input space (suc n) e (λ z. absurd (omega arith))) (unfold answers_of in refl)

-- a batch that holds just one request which is answered
pub batch_single : (s : Store) (q : Request) (space : ℕ) → table_check s ≡ 0 → table_check (step s q).store ≡ 0 → Sendable q
    → length (answer_bytes (step s q).answer) ≤ space
    → batch s (request_bytes q) space ≡ and_then q (step s q).answer (length (request_bytes q)) (ended (step s q).store 0)
batch_single s q space c c' h l =
    let e : parse (request_bytes q) ≡ one q (length (request_bytes q)) = ap parse (sym (append-nil (request_bytes q))) ∙ request_round q [] h in
    let d : drop (length (request_bytes q)) (request_bytes q) ≡ [] = drop-length (request_bytes q) in
    batch_next s (request_bytes q) space q (length (request_bytes q)) c c' e (le-ltb space (length (answer_bytes (step s q).answer)) l)
    ∙ ap (and_then q (step s q).answer (length (request_bytes q))) (ap (λ (x : List ℕ). batch (step s q).store x (space - length (answer_bytes (step s q).answer))) d
    ∙ batch_empty (step s q).store (space - length (answer_bytes (step s q).answer)) c')

pub seven : (a t : ℕ) → length (request_bytes (read_at a t)) ≡ 7
unfolding request_bytes
seven a t = length_head 4 a t 0
