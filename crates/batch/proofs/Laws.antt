-- A batch under way: what is left of it gives what the whole gives.
use mathlib.Core.Path.{◌≡◌, refl, ap, sym, subst, ◌∙◌}
use mathlib.Core.List.{List, [], ◌∷◌, ◌++◌, append-nil, append_assoc}
use mathlib.Core.Option.{none}
use Prim.Native.Nat.{ℕ, ◌+◌, ◌-◌, ◌≤◌, ◌<◌}
use native.Mathlib.Nat.{sub-zero, add-zero}
use native.Mathlib.Omega.{arith}
use borrow.Author.Tests.{lt-ltb, le-ltb}
use lib.ListN.{length, take, drop, length-append, length-drop, drop_of_length-le}
use lib.Seq.{take_all, drop-drop, length-take-le, take_at, drop_at}
use Rattle.model.specs.Store.{Store}
use Rattle.model.specs.Soundness.{table_check}
use Rattle.model.specs.Wire.{Request, end, stop, one, parse, Answer, page_bytes, answer_bytes}
use Rattle.model.specs.Step.{step}
use Rattle.model.specs.Batch.{Answered, Run, ended, and_then, batch}
use Rattle.model.proofs.Invariant.{sound_check}
use Rattle.model.specs.ByNumber.{Sound, Whole}
use Rattle.model.proofs.Parsing.{Reads, parse_reads}
use Rattle.model.proofs.Running.{batch_end, batch_stop, batch_full, batch_next}
use Rattle.model.proofs.RoundTrip.{length_answer}
use Rattle.wire.specs.declared.Parsed as wire
use Rattle.wire.specs.declared.Request as wire-request
use Rattle.wire.specs.declared.Parsed.TheVariants.{End, Stop, One}
use Rattle.wire.specs.Requests.{request_of, parsed_of}
use Rattle.batch.specs.Batch.{stop_of}
use Rattle.model.proofs.Steps.{step_sound, step_check, step_answers}

-- a run, after requests es of n bytes with answers w
abbrev pub prefixed : List Answered → ℕ → List ℕ → Run → Run
prefixed es n w r = record { store = r.store; stop = r.stop; log = es ++ r.log; taken = n + r.taken; out = w ++ r.out }

prefixed_none : (r : Run) → r ≡ prefixed [] 0 [] r
prefixed_none r = ap (λ (n : ℕ). record { store = r.store; stop = r.stop; log = r.log; taken = n; out = r.out }) (omega arith)

-- one request more in front of the rest
prefixed_next : (es : List Answered) (m : ℕ) (w : List ℕ) (q : Request) (x : Answer) (n : ℕ) (r : Run)
    → prefixed es m w (and_then q x n r) ≡ prefixed (es ++ (record { request = q; answer = x } ∷ [])) (m + n) (w ++ answer_bytes x) r
prefixed_next es m w q x n r =
    let e : m + (n + r.taken) ≡ m + n + r.taken = omega arith in
    simp (append_assoc, e)

-- the part of a list from a place to its end, lent and back
pub part_all : (a : List ℕ) (i : ℕ) → take (length a - i) (drop i a) ≡ drop i a
part_all a i = take_all (length a - i) (drop i a) (omega (arith, length-drop i a))

pub part_back : (a : List ℕ) (i : ℕ) (ys : List ℕ) → take i a ++ (ys ++ drop (length a - i) (drop i a)) ≡ take i a ++ ys
part_back a i ys =
    let h : length (drop i a) ≤ length a - i = omega (arith, length-drop i a) in
    rw (drop_of_length-le (drop i a) h, append-nil)

-- a list of three parts, cut after the second
module _ (w y z b : List ℕ) (n : ℕ) (g : b ≡ w ++ (y ++ z)) (h : length w + length y ≡ n) where
  take_two : take n b ≡ w ++ y
  take_two = rw (g, ← append_assoc w y z) (take_at (w ++ y) z n (length-append w y ∙ h))

  drop_two : drop n b ≡ z
  drop_two = rw (g, ← append_assoc w y z) (drop_at (w ++ y) z n (length-append w y ∙ h))

-- the batch of input from s, with the answer area a₀, has come to the store u and the area a, with the requests of log, at bytes of the input and
-- out bytes of answers behind it
pub record Left (s : Store) (input a₀ : List ℕ) (u : Store) (a : List ℕ) (log : List Answered) (count at out : ℕ) : Type 0 where
  pub within : at ≤ length input
  pub room : out ≤ length a₀
  pub long : length a ≡ length a₀
  pub rest : drop out a ≡ drop out a₀
  pub sound : Sound u
  pub counted : length log ≡ count
  pub few : count ≤ at
  pub same : batch s input (length a₀) ≡ prefixed log at (take out a) (batch u (drop at input) (length a₀ - out))

pub left_start : (s : Store) (input a : List ℕ) → Sound s → Left s input a s a [] 0 0 0
left_start s input a h =
    record {
      within = omega arith;
      room = omega arith;
      long = refl;
      rest = refl;
      sound = h;
      counted = refl;
      few = omega arith;
      same = rw (sub-zero (length a)) (prefixed_none (batch s input (length a)));
    }

-- a batch that is over: the store u, the area a, the requests answered, the stop number and the counts
pub record Over (s : Store) (input a₀ : List ℕ) (u : Store) (a : List ℕ) (log : List Answered) (stop count at out : ℕ) : Type 0 where
  pub room : out ≤ length a₀
  pub long : length a ≡ length a₀
  pub rest : drop out a ≡ drop out a₀
  pub counted : length log ≡ count
  pub same : batch s input (length a₀) ≡ record { store = u; stop = stop; log = log; taken = at; out = take out a }

module _ {s : Store} {input a₀ : List ℕ} {u : Store} {a : List ℕ} {log : List Answered} {count at out : ℕ} (l : Left s input a₀ u a log count at out) where
  check : table_check u ≡ 0
  check = sound_check u l.sound

  over : (n : ℕ) → batch u (drop at input) (length a₀ - out) ≡ ended u n → Over s input a₀ u a log n count at out
  over n e =
      record {
        room = l.room;
        long = l.long;
        rest = l.rest;
        counted = l.counted;
        same = l.same ∙ (ap (prefixed log at (take out a)) e ∙ simp (append-nil, add-zero));
      }

  pub left_end : parse (drop at input) ≡ end → Over s input a₀ u a log 0 count at out
  left_end e = over 0 (batch_end u (drop at input) (length a₀ - out) check e)

  pub left_stop : (n : ℕ) → parse (drop at input) ≡ stop n → Over s input a₀ u a log n count at out
  left_stop n e = over n (batch_stop u (drop at input) (length a₀ - out) check n e)

  module _ {q : Request} {n : ℕ} (e : parse (drop at input) ≡ one q n) where
    reads : Reads (length (drop at input)) (one q n)
    reads = rw e at (parse_reads (drop at input))

    pub left_whole : Whole q
    left_whole = reads.0

    pub left_taken : (7 ≤ n) × (at + n ≤ length input)
    left_taken = (reads.1, omega (arith, reads.2, l.within, length-drop at input))

    pub left_full : length a₀ - out < length (answer_bytes (step u q).answer) → Over s input a₀ u a log 14 count at out
    left_full h = over 14 (batch_full u (drop at input) (length a₀ - out) check q n e (lt-ltb _ _ h))

    -- an answer with a page does not fit: only a read has one, and it left the store
    pub left_full_page : 5 ≤ length a₀ - out → length a₀ - out < length (answer_bytes (step u q).answer) → {v : Store} → v ≡ (step u q).store
        → Over s input a₀ v a log 14 count at out
    left_full_page m h d =
        let paged : (step u q).answer.page ≡ none → ⊥ =
        λ p. let k : length (answer_bytes (step u q).answer) ≡ 5 + length (page_bytes (step u q).answer.page) = length_answer (step u q).answer in
        let k' : length (answer_bytes (step u q).answer) ≡ 5 + 0 = rw p at k in
        omega arith in
        subst (λ (x : Store). Over s input a₀ x a log 14 count at out) (sym (d ∙ (step_answers u q l.sound).leaves paged)) (left_full h)

    pub left_short : length a₀ - out < 5 → Over s input a₀ u a log 14 count at out
    left_short h = left_full (omega (arith, length_answer (step u q).answer))

    pub left_next : length (answer_bytes (step u q).answer) ≤ length a₀ - out → {b : List ℕ}
        → b ≡ take out a ++ (answer_bytes (step u q).answer ++ drop (length (answer_bytes (step u q).answer)) (drop out a))
        → Left s input a₀ (step u q).store b (log ++ (record { request = q; answer = (step u q).answer } ∷ [])) (count + 1) (at + n) (out + length (answer_bytes (step u q).answer))
    left_next h {b} g =
        let x : List ℕ = answer_bytes (step u q).answer in
        let lo : length (take out a) ≡ out = length-take-le out a (omega (arith, l.room, l.long)) in
        let ty : take (out + length x) b ≡ take out a ++ x = take_two (take out a) x (drop (length x) (drop out a)) b (out + length x) g (omega arith) in
        let dy : drop (out + length x) b ≡ drop (length x) (drop out a) = drop_two (take out a) x (drop (length x) (drop out a)) b (out + length x) g (omega arith) in
        let space : length a₀ - out - length x ≡ length a₀ - (out + length x) = omega arith in
        record {
          within = left_taken.1;
          room = omega (arith, l.room);
          long = ap length g ∙ simp (length-append, length-drop) (omega (arith, lo, l.long, l.room));
          rest = dy ∙ rw (l.rest, drop-drop (length x) out a₀);
          sound = step_sound u q l.sound left_whole;
          counted = length-append log (record { request = q; answer = (step u q).answer } ∷ []) ∙ omega (arith, l.counted);
          few = omega (arith, l.few, left_taken.0);
          same =
              l.same
              ∙ (ap (prefixed log at (take out a)) (batch_next u (drop at input) (length a₀ - out) q n check (step_check u q l.sound left_whole) e (le-ltb _ _ h))
              ∙ (prefixed_next log at (take out a) q (step u q).answer n _ ∙ rw (ty, drop-drop n at input, space)));
        }

    -- the same, of what the code has in hand
    pub left_again : {v : Store} {size : ℕ} {x b : List ℕ} → v ≡ (step u q).store → x ≡ answer_bytes (step u q).answer → size ≡ length x → size ≤ length a₀ - out
        → b ≡ take out a ++ (x ++ drop (length x) (drop out a)) → Left s input a₀ v b (log ++ (record { request = q; answer = (step u q).answer } ∷ [])) (count + 1) (at + n) (out + size)
    left_again {v} {size} {x} {b} ev ex es h g =
        let y : List ℕ = answer_bytes (step u q).answer in
        let g' : b ≡ take out a ++ (y ++ drop (length y) (drop out a)) = g ∙ ap (λ (z : List ℕ). take out a ++ (z ++ drop (length z) (drop out a))) ex in
        let ey : size ≡ length y = es ∙ ap length ex in
        subst (λ (w : Store). Left s input a₀ w b (log ++ (record { request = q; answer = (step u q).answer } ∷ [])) (count + 1) (at + n) (out + size)) (sym ev)
        (subst (λ (k : ℕ). Left s input a₀ (step u q).store b (log ++ (record { request = q; answer = (step u q).answer } ∷ [])) (count + 1) (at + n) (out + k)) (sym ey) (left_next (omega arith) g'))

-- what the reader's result says of the input from `at` on
module _ (input : List ℕ) (at : ℕ) (p : wire.Parsed) (told : parsed_of (take (length input - at) (drop at input)) p ≡ parse (take (length input - at) (drop at input))) where
  abbrev part : List ℕ
  part = take (length input - at) (drop at input)

  pub read_one : (q : wire-request.Request) (n : ℕ) → p ≡ One q n → parse (drop at input) ≡ one (request_of part q) n
  read_one q n d = ap parse (sym (part_all input at)) ∙ (sym told ∙ ap (parsed_of part) d)

  pub read_over : {s : Store} {a₀ : List ℕ} {u : Store} {a : List ℕ} {log : List Answered} {count out : ℕ} → Left s input a₀ u a log count at out → ((q : wire-request.Request) (n : ℕ) → p ≡ One q n → ⊥)
      → Over s input a₀ u a log (stop_of p) count at out
  read_over {s = s} {a₀ = a₀} {u = u} {a = a} {log = log} {count = count} {out = out} l o = go p o (ap parse (sym (part_all input at)) ∙ sym told)
    where
      go : (r : wire.Parsed) → ((q : wire-request.Request) (n : ℕ) → r ≡ One q n → ⊥) → parse (drop at input) ≡ parsed_of part r → Over s input a₀ u a log (stop_of r) count at out
      go End k e = left_end l e
      go (Stop n) k e = left_stop l n e
      go (One q n) k e = absurd (k q n refl)
