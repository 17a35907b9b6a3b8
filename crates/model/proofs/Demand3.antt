-- Demand 3: every list of batches to a fresh store agrees with the reference.
use Prim.Native.Nat.{ℕ, zero, suc, ◌-◌, ◌≤◌, ◌<◌}
use mathlib.Core.Path.{◌≡◌, refl, subst, ◌∙◌}
use mathlib.Core.List.{List, [], ◌∷◌, ◌++◌}
use mathlib.Core.Bool.{Bool, true, false, false≢true}
use native.Mathlib.Omega.{arith}
use lib.Dec.{ltb}
use lib.ListN.{length, drop}
use Rattle.model.specs.Store.{Store, records}
use Rattle.model.specs.Soundness.{table_check}
use Rattle.model.specs.Wire.{Request, read_at, one, parse, request_bytes, answer_bytes}
use Rattle.model.specs.Step.{step}
use Rattle.model.specs.Fresh.{fresh_check, made_fresh}
use Rattle.model.specs.Batch.{Answered, Run, ended, and_then, run, batch}
use Rattle.model.specs.Reference.{Reference, empty}
use Rattle.model.specs.Demand3.{Call, after, answered, next, fed, Readable, read_answer, AllRight, accepted_reclaim, last_reclaims, Exact, Agrees, Demand3}
use Rattle.model.specs.Packed.{reach, HeldUpTo}
use Rattle.model.proofs.Base.{case}
use Rattle.model.proofs.Invariant.{sound_check, →ascending, Inv}
use Rattle.model.specs.ByNumber.{Sizes, Whole}
use Rattle.model.proofs.Moves.{Stepping}
use Rattle.model.proofs.Reading.{read_answer_lem, read_leaves}
use Rattle.model.proofs.Steps.{step_inv}
use Rattle.model.proofs.Parsing.{Reads, parse_reads, case_parsed}
use Rattle.model.proofs.Running.{run_end, run_stop, run_full, run_one, run_stops, batch_run, batch_single, seven}
use Rattle.model.proofs.Freshness.{made_inv, made_size}
use Rattle.model.proofs.Packed.{step_reach}

-- from a store and a reference to the store after a log
pub record Ran (s : Store) (p : Reference) (s' : Store) (es : List Answered) : Type 0 where
  pub inv : Inv s' (fed p es)
  pub right : AllRight s.head.size p es
  pub size : s'.head.size ≡ s.head.size
  pub exact : (b : Bool) → (b ≡ true → Exact s p) → last_reclaims b es ≡ true → Exact s' (fed p es)
  pub packed : (n : ℕ) → reach s.place_rows ≤ n → HeldUpTo n p es → reach s'.place_rows ≤ n

ran_none : (s : Store) (p : Reference) → Inv s p → Ran s p s []
unfolding fed last_reclaims
ran_none s p v = record { inv = v; right = tt; size = refl; exact = λ b x. x; packed = λ n l h. l }

fed_append : (p : Reference) (es fs : List Answered) → fed p (es ++ fs) ≡ fed (fed p es) fs
unfolding fed
fed_append p [] fs = refl
fed_append p (e ∷ es) fs = fed_append (next p e) es fs

right_append : (size : ℕ) (p : Reference) (es fs : List Answered) → AllRight size p es → AllRight size (fed p es) fs → AllRight size p (es ++ fs)
unfolding fed
right_append size p [] fs x y = y
right_append size p (e ∷ es) fs x y = (x.0, right_append size (next p e) es fs x.1 y)

last_reclaims_append : (b : Bool) (es fs : List Answered) → last_reclaims b (es ++ fs) ≡ last_reclaims (last_reclaims b es) fs
unfolding last_reclaims
last_reclaims_append b [] fs = refl
last_reclaims_append b (e ∷ es) fs = last_reclaims_append (accepted_reclaim e.request e.answer) es fs

held_front : (n : ℕ) (p : Reference) (es fs : List Answered) → HeldUpTo n p (es ++ fs) → HeldUpTo n p es
held_front n p [] [] h = h
held_front n p [] (f ∷ fs) h = h.0
held_front n p (e ∷ es) fs h = (h.0, held_front n (next p e) es fs h.1)

held_behind : (n : ℕ) (p : Reference) (es fs : List Answered) → HeldUpTo n p (es ++ fs) → HeldUpTo n (fed p es) fs
unfolding fed
held_behind n p [] fs h = h
held_behind n p (e ∷ es) fs h = held_behind n (next p e) es fs h.1

pub ran_append : (s : Store) (p : Reference) (s' : Store) (es : List Answered) (s'' : Store) (fs : List Answered) → Ran s p s' es → Ran s' (fed p es) s'' fs
    → Ran s p s'' (es ++ fs)
ran_append s p s' es s'' fs x y =
    record {
      inv = rw (fed_append p es fs) y.inv;
      right = right_append s.head.size p es fs x.right (rw x.size at y.right);
      size = y.size ∙ x.size;
      exact =
          λ b f e.
          rw (fed_append p es fs) (y.exact (last_reclaims b es) (x.exact b f) (rw (last_reclaims_append b es fs) at e));
      packed = λ n l h. y.packed n (x.packed n l (held_front n p es fs h)) (held_behind n p es fs h);
    }

ran_one : (s : Store) (p : Reference) (q : Request) → Inv s p → Whole q → Ran s p (step s q).store (record { request = q; answer = (step s q).answer } ∷ [])
unfolding fed last_reclaims
ran_one s p q v w =
    let t : Stepping s p q (step s q) = step_inv s p q v w in
    record { inv = t.inv; right = (t.right, tt); size = t.size; exact = λ b f. t.exact; packed = λ n l h. step_reach n s p q v w l h.1 }

abbrev RanRun : Store → Reference → Run → Type 0
RanRun s p r = Ran s p r.store r.log

abbrev RunsOn : ℕ → Type 0
RunsOn fuel = (s : Store) (p : Reference) (input : List ℕ) (space : ℕ) → Inv s p → RanRun s p (run fuel s input space)

ran_suc : (fuel : ℕ) → RunsOn fuel → RunsOn (suc fuel)
ran_suc fuel ih s p input space v =
    case_parsed (parse input)
    (λ e. rw (run_end fuel s input space e) (ran_none s p v))
    (λ n e. rw (run_stop fuel s input space n e) (ran_none s p v))
    (λ q n e.
    let w : Reads (length input) (one q n) = rw e at (parse_reads input) in
    case (ltb space (length (answer_bytes (step s q).answer)))
    (λ d. rw (run_full fuel s input space q n e d) (ran_none s p v))
    (λ d.
    let x : Ran s p (step s q).store (record { request = q; answer = (step s q).answer } ∷ []) = ran_one s p q v w.0 in
    rw (run_one fuel s input space q n e d)
    (ran_append s p (step s q).store (record { request = q; answer = (step s q).answer } ∷ []) _ _ x
    (ih (step s q).store (fed p (record { request = q; answer = (step s q).answer } ∷ [])) (drop n input)
    (space - length (answer_bytes (step s q).answer)) x.inv))))

ran_run : (fuel : ℕ) → RunsOn fuel
ran_run zero = ran_zero
  where
    ran_zero : RunsOn 0
    ran_zero s p input space v = unfold run in ran_none s p v
ran_run (suc fuel) = ran_suc fuel (ran_run fuel)

ran_batch : (s : Store) (p : Reference) (input : List ℕ) (space : ℕ) → Inv s p → Ran s p (batch s input space).store (batch s input space).log
unfolding batch
ran_batch s p input space v = rw (sound_check s v.sound) (ran_run (suc (length input)) s p input space v)

pub ran_calls : (s : Store) (p : Reference) (cs : List Call) → Inv s p → Ran s p (after s cs) (answered s cs)
unfolding after answered
ran_calls s p [] v = ran_none s p v
ran_calls s p (c ∷ cs) v =
    let r : Run = batch s c.input c.space in
    let x : Ran s p r.store r.log = ran_batch s p c.input c.space v in
    ran_append s p r.store r.log (after r.store cs) (answered r.store cs) x (ran_calls r.store (fed p r.log) cs x.inv)

module _ (size : ℕ) (s : Store) (p : Reference) (v : Inv s p) (same : s.head.size ≡ size) where
  reads : (a t : ℕ) → a < size → Readable p t → (step s (read_at a t)).answer ≡ read_answer t (p.snapshot t a)
  unfolding step
  reads a t i r = read_answer_lem s p.snapshot a t v.reads (omega arith) (rw (v.names, v.floor) r.low) (omega (arith, v.now, r.high))

  sent : (a t space : ℕ) → a < size → Readable p t → length (answer_bytes (read_answer t (p.snapshot t a))) ≤ space
      → batch s (request_bytes (read_at a t)) space ≡ and_then (read_at a t) (read_answer t (p.snapshot t a)) 7 (ended s 0)
  sent a t space i r l =
      let z : Sizes s = v.sound.sizes in
      let k : table_check s ≡ 0 = sound_check s v.sound in
      let k' : table_check (step s (read_at a t)).store ≡ 0 = rw (read_leaves s a t) k in
      let h : (a < 65536) × (t < 4294967296) = (omega (arith, z.allowed.size_high), omega (arith, r.high, v.now, z.now_high)) in
      let e : (step s (read_at a t)).answer ≡ read_answer t (p.snapshot t a) = reads a t i r in
      batch_single s (read_at a t) space k k' h (rw e l) ∙ rw (e, read_leaves s a t, seven a t)

  agree : (es : List Answered) → AllRight size empty es → (last_reclaims false es ≡ true → Exact s p) → Agrees size s p es
  agree es right exact =
      let k : table_check s ≡ 0 = sound_check s v.sound in
      record {
        volume = same;
        now = v.now;
        floor = v.floor;
        names = v.names;
        held = v.held;
        once = →ascending (records s) v.sound.ascends;
        reads = reads;
        sent = sent;
        right = right;
        exact = exact;
        sound = k;
        served = λ input space. rw (batch_run s input space k) (run_stops (suc (length input)) s input space);
      }

-- what a log led to from a fresh store agrees with the reference
pub ran_agrees : (lent : Store) (size : ℕ) (s : Store) (es : List Answered) → fresh_check lent size ≡ 0 → Ran (made_fresh lent size) empty s es → Agrees size s (fed empty es) es
ran_agrees lent size s es h x =
    agree size s (fed empty es) x.inv (x.size ∙ made_size lent size h) es
    (subst (λ (n : ℕ). AllRight n empty es) (made_size lent size h) x.right) (x.exact false (λ e. absurd (false≢true e)))

pub demand3 : Demand3
demand3 lent size calls h =
    let s : Store = made_fresh lent size in
    ran_agrees lent size (after s calls) (answered s calls) h (ran_calls s empty calls (made_inv lent size h))
