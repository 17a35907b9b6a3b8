-- Demand 3 of the C entries: the model's claim, and what the areas hold after each call.
use Prim.Native.Nat.{ℕ, suc, ◌≤◌, ◌<◌}
use mathlib.Core.Path.{◌≡◌, refl, sym, ap, ◌∙◌}
use mathlib.Core.Logic.{inr}
use mathlib.Core.List.{List, [], ◌∷◌, ◌++◌, append-nil}
use mathlib.Core.Bool.{true, ◌&&◌}
use native.Mathlib.Omega.{arith}
use lib.Dec.{eqb}
use lib.ListN.{length}
use borrow.Author.Tests.{eqb-true, eqb-false}
use Rattle.model.specs.Store.{Store}
use Rattle.model.specs.Wire.{read_at, request_bytes, answer_bytes}
use Rattle.model.specs.Fresh.{fresh_check, made_fresh}
use Rattle.model.specs.Batch.{Answered, Run, answers_of, batch}
use Rattle.model.specs.Reference.{Reference, empty}
use Rattle.model.specs.Demand3.{Call, after, answered, fed, Readable, read_answer, Agrees}
use Rattle.model.specs.ByNumber.{Sound}
use Rattle.model.proofs.Base.{case, and→}
use Rattle.model.proofs.Kept.{Narrow, Kept, batch_kept}
use Rattle.model.proofs.Invariant.{sound_check}
use Rattle.model.proofs.Running.{batch_run, run_stops, batch_sends}
use Rattle.model.proofs.Freshness.{made_inv, made_narrow, made_kept}
use Rattle.model.proofs.Demand3.{demand3}
use Rattle.live.specs.Live.{LiveDisk, disk_check, live_check, played, LiveRun, live_batch}
use Rattle.live.proofs.Behind.{disk_stops}
use Rattle.live.proofs.LiveDemand.{batch_is, live_refused}
use Rattle.areas.specs.Lent.{Lent, fits, store_in, live_in, with_store}
use Rattle.fresh_areas.specs.Fresh.{fresh_bytes}
use Rattle.batch_areas.specs.Batch.{BatchLeft, batch_left, check_in, read_in, run_left, batch_bytes}
use Rattle.kizmoolet.specs.Demand3.{AreaCall, left, log_of, areas_after, answered_in, in_front_of, Sent, AllSent, Demand3}
use Rattle.batch_areas.proofs.Batch.{bytes_served, bytes_refused}
use Rattle.areas.proofs.Holding.{Holds, stored_holds}

-- the model's call
abbrev pub call_of : AreaCall → Call
call_of c = record { input = c.input; space = length c.area }

-- areas that hold a sound store of numbers of 32 bits
pub record Ready (l : Lent) (s : Store) : Type 0 where
  pub holds : Holds l s
  pub sound : Sound s
  pub narrow : Narrow s

-- the checks of areas that hold a store, with a live disk that fits it and with one that does not
pub checks : (l : Lent) (s : Store) → Ready l s → (d : LiveDisk) (n : ℕ) → live_check (record { store = s; disk = d }) ≡ n → check_in l d ≡ n
unfolding check_in
checks l s r d n e = rw r.holds.fit (ap (λ (x : Store). live_check (record { store = x; disk = d })) r.holds.store ∙ e)

pub passes : (s : Store) → Sound s → (d : LiveDisk) → disk_check s.head.size d ≡ 0 → live_check (record { store = s; disk = d }) ≡ 0
unfolding live_check
passes s h d z = rw (sound_check s h, z)

stops : (s : Store) → Sound s → (d : LiveDisk) → (disk_check s.head.size d ≡ 0 → ⊥) → live_check (record { store = s; disk = d }) ≡ 18
unfolding live_check
stops s h d ne = let e : disk_check s.head.size d ≡ 18 = disk_stops s.head.size d ne in rw (sound_check s h, e)

-- what a call leaves: the model's run, put into the areas, with the disk that followed it
abbrev run_of : Store → LiveDisk → List ℕ → List ℕ → LiveRun
run_of s d input area = record { run = batch s input (length area); disk = played d (batch s input (length area)).log }

pub served : (l : Lent) (s : Store) → Ready l s → (d : LiveDisk) → disk_check s.head.size d ≡ 0 → (input area : List ℕ)
    → batch_bytes l d input area ≡ run_left (run_of s d input area) (read_in l) l area
served l s r d z input area =
    bytes_served l d input area (checks l s r d 0 (passes s r.sound d z))
    ∙ ap (λ (x : LiveRun). run_left x (read_in l) l area)
    (ap (λ (x : Store). live_batch (record { store = x; disk = d }) input (length area)) r.holds.store ∙ batch_is (record { store = s; disk = d }) input (length area) (passes s r.sound d z))

pub ready_after : (l : Lent) (s : Store) → Ready l s → (input area : List ℕ) → Ready (with_store l (batch s input (length area)).store) (batch s input (length area)).store
ready_after l s r input area =
    let s' : Store = (batch s input (length area)).store in
    let k : Kept s s' × Sound s' = batch_kept s input (length area) r.sound in
    let n : Narrow s' = k.0.narrow r.narrow in
    let k' : Kept (store_in l) s' = rw r.holds.store k.0 in
    record { holds = stored_holds l r.holds.fit s' k' n; sound = k.1; narrow = n }

-- a call: served, on a live disk that fits, or refused with 18
module _ (l : Lent) (s : Store) (r : Ready l s) (c : AreaCall) where
  abbrev run : Run
  run = batch s c.input (length c.area)

  pub record Serves : Type 0 where
    pub left_is : left l c ≡ run_left (run_of s c.disk c.input c.area) (read_in l) l c.area
    pub log_is : log_of l c ≡ run.log
    pub ready : Ready (left l c).areas run.store

  pub record Refuses : Type 0 where
    pub left_is : left l c ≡ batch_left 18 0 0 0 (read_in l) l c.disk c.area
    pub log_is : log_of l c ≡ []
    pub ready : Ready (left l c).areas s

  live_is : live_batch (live_in l c.disk) c.input (length c.area) ≡ live_batch (record { store = s; disk = c.disk }) c.input (length c.area)
  live_is = ap (λ (x : Store). live_batch (record { store = x; disk = c.disk }) c.input (length c.area)) r.holds.store

  serves : disk_check s.head.size c.disk ≡ 0 → Serves
  serves z =
      let e = served l s r c.disk z c.input c.area in
      record {
        left_is = e;
        log_is = ap (λ (x : LiveRun). x.run.log) (live_is ∙ batch_is (record { store = s; disk = c.disk }) c.input (length c.area) (passes s r.sound c.disk z));
        ready = rw e (ready_after l s r c.input c.area);
      }

  refuses : (disk_check s.head.size c.disk ≡ 0 → ⊥) → Refuses
  refuses ne =
      let e : left l c ≡ batch_left 18 0 0 0 (read_in l) l c.disk c.area = bytes_refused l c.disk c.input c.area 18 (checks l s r c.disk 18 (stops s r.sound c.disk ne)) (λ z. omega arith) in
      record {
        left_is = e;
        log_is = ap (λ (x : LiveRun). x.run.log) (live_is ∙ live_refused (record { store = s; disk = c.disk }) c.input (length c.area) (λ z. omega (arith, z, stops s r.sound c.disk ne)));
        ready = rw e r;
      }

  pub by_disk : {C : Type 0} → (Serves → C) → (Refuses → C) → C
  by_disk f g = case (eqb (disk_check s.head.size c.disk) 0) (λ e. f (serves (eqb-true _ 0 e))) (λ e. g (refuses (eqb-false _ 0 e)))

-- the areas and the requests of a list are those of the model, for the calls that were served
pub record Follows (l : Lent) (s : Store) (cs : List AreaCall) : Type 0 where
  pub served : List Call
  pub ready : Ready (areas_after l cs) (after s served)
  pub requests : answered_in l cs ≡ answered s served

pub follows : (l : Lent) (s : Store) → Ready l s → (cs : List AreaCall) → Follows l s cs
unfolding areas_after answered_in after answered
follows l s r [] = record { served = []; ready = r; requests = refl }
follows l s r (c ∷ cs) =
    by_disk l s r c
    (λ k.
    let f : Follows (left l c).areas (batch s c.input (length c.area)).store cs = follows (left l c).areas _ k.ready cs in
    record { served = call_of c ∷ f.served; ready = f.ready; requests = λ j. k.log_is j ++ f.requests j })
    (λ k.
    let f : Follows (left l c).areas s cs = follows (left l c).areas s k.ready cs in
    record { served = f.served; ready = f.ready; requests = λ j. k.log_is j ++ f.requests j })

-- each call sends the answers of its requests
sent_served : (l : Lent) (s : Store) (r : Ready l s) (c : AreaCall) → Serves l s r c → Sent l c
sent_served l s r c k =
    let run : Run = batch s c.input (length c.area) in
    let o : run.out ≡ answers_of (log_of l c) = batch_sends s c.input (length c.area) ∙ ap answers_of (sym k.log_is) in
    record {
      stop = rw (ap (λ (x : BatchLeft). x.stop) k.left_is, batch_run s c.input (length c.area) (sound_check s r.sound)) (run_stops (suc (length c.input)) s c.input (length c.area));
      answered = ap (λ (x : BatchLeft). x.answered) k.left_is ∙ ap (λ (x : List Answered). length x) (sym k.log_is);
      answer_bytes = ap (λ (x : BatchLeft). x.answer_bytes) k.left_is ∙ ap length o;
      answers = ap (λ (x : BatchLeft). x.answers) k.left_is ∙ ap (λ (x : List ℕ). in_front_of x c.area) o;
    }

sent_refused : (l : Lent) (s : Store) (r : Ready l s) (c : AreaCall) → Refuses l s r c → Sent l c
unfolding answers_of
sent_refused l s r c k =
    record {
      stop = inr (rw (ap (λ (x : BatchLeft). x.stop) k.left_is) (omega arith));
      answered = ap (λ (x : BatchLeft). x.answered) k.left_is ∙ ap (λ (x : List Answered). length x) (sym k.log_is);
      answer_bytes = ap (λ (x : BatchLeft). x.answer_bytes) k.left_is ∙ ap (λ (x : List Answered). length (answers_of x)) (sym k.log_is);
      answers = ap (λ (x : BatchLeft). x.answers) k.left_is ∙ ap (λ (x : List Answered). in_front_of (answers_of x) c.area) (sym k.log_is);
    }

pub all_sent : (l : Lent) (s : Store) → Ready l s → (cs : List AreaCall) → AllSent l cs
all_sent l s r [] = tt
all_sent l s r (c ∷ cs) =
    by_disk l s r c (λ k. (sent_served l s r c k, all_sent (left l c).areas _ k.ready cs)) (λ k. (sent_refused l s r c k, all_sent (left l c).areas s k.ready cs))

-- a call with just a read
pub reads : (size : ℕ) (l : Lent) (s : Store) (p : Reference) (es : List Answered) → Ready l s → Agrees size s p es → (a t : ℕ) (d : LiveDisk) (area : List ℕ) → a < size → Readable p t
    → disk_check size d ≡ 0 → length (answer_bytes (read_answer t (p.snapshot t a))) ≤ length area
    → batch_bytes l d (request_bytes (read_at a t)) area
    ≡ batch_left 0 1 7 (length (answer_bytes (read_answer t (p.snapshot t a)))) (read_in l) l d (in_front_of (answer_bytes (read_answer t (p.snapshot t a))) area)
unfolding played
reads size l s p es r g a t d area i v z h =
    let z' : disk_check s.head.size d ≡ 0 = rw g.volume z in
    served l s r d z' (request_bytes (read_at a t)) area ∙ rw (g.sent a t (length area) i v h, r.holds.areas, append-nil (answer_bytes (read_answer t (p.snapshot t a))))

-- a fresh store in the areas
pub made : (lent : Lent) (size : ℕ) → (fresh_bytes size lent).result ≡ 0 → (fits lent ≡ true) × (fresh_check (store_in lent) size ≡ 0) × ((fresh_bytes size lent).areas ≡ with_store lent (made_fresh (store_in lent) size))
unfolding fresh_bytes
made lent size z =
    case (fits lent && eqb (fresh_check (store_in lent) size) 0)
    (λ e. let b : (fits lent ≡ true) × (eqb (fresh_check (store_in lent) size) 0 ≡ true) = and→ (fits lent) _ e in (b.0, eqb-true _ 0 b.1, rw e))
    (λ e. let o : 1 ≡ 0 = rw e at z in absurd (omega arith))

pub made_ready : (lent : Lent) (size : ℕ) → (fresh_bytes size lent).result ≡ 0 → Ready (fresh_bytes size lent).areas (made_fresh (store_in lent) size)
made_ready lent size z =
    let m : (fits lent ≡ true) × (fresh_check (store_in lent) size ≡ 0) × ((fresh_bytes size lent).areas ≡ with_store lent (made_fresh (store_in lent) size)) = made lent size z in
    let n : Narrow (made_fresh (store_in lent) size) = made_narrow (store_in lent) size m.1 in
    rw m.2
    (record { holds = stored_holds lent m.0 (made_fresh (store_in lent) size) (made_kept (store_in lent) size m.1) n; sound = (made_inv (store_in lent) size m.1).sound; narrow = n })

pub demand3_bytes : Demand3
demand3_bytes lent size calls z =
    let first : Lent = (fresh_bytes size lent).areas in
    let s : Store = made_fresh (store_in lent) size in
    let r : Ready first s = made_ready lent size z in
    let f : Follows first s calls = follows first s r calls in
    let g : Agrees size (after s f.served) (fed empty (answered_in first calls)) (answered_in first calls) =
    rw f.requests (demand3 (store_in lent) size f.served (made lent size z).1) in (
      record {
        store = rw f.ready.holds.store g;
        reads = reads size (areas_after first calls) (after s f.served) _ _ f.ready g;
      },
      all_sent first s r calls,
    )
