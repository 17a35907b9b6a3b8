-- Change request Three: a named moment reads as it did, until its name is withdrawn.
use Prim.Native.Nat.{ℕ, ◌+◌, ◌<◌}
use mathlib.Core.Path.{◌≡◌, refl, sym, ap, ◌∙◌}
use mathlib.Core.Logic.{inl, inr}
use mathlib.Core.List.{List, [], ◌∷◌}
use mathlib.Core.Bool.{Bool, true, false, not}
use native.Mathlib.Omega.{arith}
use lib.Dec.{ltb}
use borrow.Author.Tests.{ltb-true, ne_eqb}
use Rattle.model.specs.declared.Name.{Name}
use Rattle.model.specs.Store.{Store, names, moments, is_called, ◌∈◌}
use Rattle.model.specs.Wire.{Request, write, mark, revert, read_at, reclaim, give, withdraw, refused}
use Rattle.model.specs.Step.{step, do_read}
use Rattle.model.specs.Fresh.{made_fresh}
use Rattle.model.specs.Batch.{Answered}
use Rattle.model.specs.Reference.{Reference, with_snapshot, empty, accept, feed}
use Rattle.model.specs.Demand3.{after, answered, refuses, next, fed, read_answer}
use Rattle.model.specs.Commissioned.{withdraws, StaysGiven, AsNamed, Commissioned}
use Rattle.model.proofs.Base.{case, keep_mem, mem_left, mem_map, any_none, none_any, readable_named}
use Rattle.model.proofs.Invariant.{Inv}
use Rattle.model.proofs.Reading.{read_answer_lem}
use Rattle.model.proofs.Freshness.{made_inv}
use Rattle.model.proofs.Demand3.{Ran, ran_calls}

-- what a reference keeps of a row n and of its snapshot: the row is there, its moment is sealed, and the snapshot is as it was
record Keeps (n : Name) (p q : Reference) : Type 0 where
  named : n ∈ q.names
  sealed : n.moment < q.now
  same : (a : ℕ) → q.snapshot n.moment a ≡ p.snapshot n.moment a

module _ (n : Name) (p : Reference) (m : n ∈ p.names) (l : n.moment < p.now) where
  -- another snapshot at a later moment
  later : (t : ℕ) (snap : _) → n.moment < t → (a : ℕ) → with_snapshot p.snapshot t snap n.moment a ≡ p.snapshot n.moment a
  later t snap h a = rw (ne_eqb n.moment t (λ e. omega arith))

  accept_keeps : (q : Request) → withdraws n q ≡ false → Keeps n p (accept p q)
  unfolding accept
  accept_keeps (write a page) w = record { named = m; sealed = l; same = later p.now _ l }
  accept_keeps mark w = record { named = m; sealed = omega arith; same = later (p.now + 1) _ (omega arith) }
  accept_keeps (revert t o) w = record { named = m; sealed = omega arith; same = later (p.now + 1) _ (omega arith) }
  accept_keeps (read_at a t) w = record { named = m; sealed = l; same = λ b. refl }
  accept_keeps (reclaim t) w = record { named = m; sealed = l; same = λ b. refl }
  accept_keeps (give x) w = record { named = mem_left n p.names (x ∷ []) m; sealed = l; same = λ b. refl }
  accept_keeps (withdraw high low) w =
      record { named = keep_mem (λ x. not (is_called high low x)) n p.names m (rw w); sealed = l; same = λ b. refl }

  feed_keeps : (q : Request) (b : Bool) → withdraws n q ≡ false → Keeps n p (feed p q b)
  unfolding feed
  feed_keeps q true w = record { named = m; sealed = l; same = λ b. refl }
  feed_keeps q false w = accept_keeps q w

fed_keeps : (n : Name) (p : Reference) (es : List Answered) → n ∈ p.names → n.moment < p.now → StaysGiven n es → Keeps n p (fed p es)
unfolding fed
fed_keeps n p [] m l w = record { named = m; sealed = l; same = λ a. refl }
fed_keeps n p (e ∷ es) m l w =
    let each : (x : Answered) → x ∈ (e ∷ es) → withdraws n x.request ≡ false = none_any (λ x. withdraws n x.request) (e ∷ es) w in
    let k : Keeps n p (next p e) = feed_keeps n p m l e.request (refuses e.answer) (each e (inl refl)) in
    let r : Keeps n (next p e) (fed (next p e) es) = fed_keeps n (next p e) es k.named k.sealed (any_none _ es (λ x i. each x (inr i))) in
    record { named = r.named; sealed = r.sealed; same = λ a. r.same a ∙ k.same a }

-- the answer to a read at the moment of a row, by the reference
named_answer : (s : Store) (p : Reference) (n : Name) → Inv s p → n ∈ names s → (a : ℕ) → a < s.head.size → (step s (read_at a n.moment)).answer ≡ read_answer n.moment (p.snapshot n.moment a)
unfolding step
named_answer s p n v m a i =
    read_answer_lem s p.snapshot a n.moment v.reads i (readable_named _ (moments (names s)) n.moment (mem_map (λ x. x.moment) n (names s) m))
    (omega (arith, (v.sound.names.fit n m).below))

outside : (s : Store) (a t : ℕ) → ltb a s.head.size ≡ false → (step s (read_at a t)).answer ≡ refused 4
unfolding step do_read
outside s a t e = rw e

-- from a store that agrees with a reference, through requests that do not withdraw the name
as_named : (s : Store) (p : Reference) (n : Name) (u : Store) (es : List Answered) → Inv s p → n ∈ names s → Ran s p u es → StaysGiven n es → AsNamed s u n
as_named s p n u es v m x w =
    let k : Keeps n p (fed p es) = fed_keeps n p es (rw v.names at m) (omega (arith, v.now, (v.sound.names.fit n m).below)) w in
    let m' : n ∈ names u = rw x.inv.names k.named in
    record {
      named = m';
      reads =
          λ a.
          case (ltb a s.head.size)
          (λ e.
          let i : a < s.head.size = ltb-true a s.head.size e in
          named_answer u (fed p es) n x.inv m' a (rw x.size i) ∙ (ap (read_answer n.moment) (k.same a) ∙ sym (named_answer s p n v m a i)))
          (λ e. outside u a n.moment (rw x.size e) ∙ sym (outside s a n.moment e));
    }

pub commissioned : Commissioned
commissioned lent size calls more n h m w =
    let f : Store = made_fresh lent size in
    let x : Ran f empty (after f calls) (answered f calls) = ran_calls f empty calls (made_inv lent size h) in
    as_named (after f calls) (fed empty (answered f calls)) n (after (after f calls) more) (answered (after f calls) more) x.inv m
    (ran_calls (after f calls) (fed empty (answered f calls)) more x.inv) w
