-- Change request Six of the C entries: the model's claims, and what areas and live disk are after each call.
use Prim.Native.Nat.{ℕ, ◌+◌, ◌-◌, ◌/◌, ◌≤◌}
use mathlib.Core.Path.{◌≡◌, refl, sym, ap, subst, subst⁻¹, ◌∙◌}
use mathlib.Core.Bool.{true}
use mathlib.Core.List.{List, [], ◌∷◌, map}
use native.Mathlib.Omega.{arith}
use lib.ListN.{length}
use Rattle.model.specs.Store.{Store, open_end}
use Rattle.model.specs.Fresh.{made_fresh}
use Rattle.model.specs.Batch.{batch}
use Rattle.model.proofs.Base.{case}
use Rattle.model.proofs.Freshness.{made_size}
use Rattle.live.specs.declared.Spot.{Spot}
use Rattle.live.specs.declared.Spot.TheVariants.{Nowhere}
use Rattle.live.specs.declared.Located.{Located}
use Rattle.live.specs.declared.Copied.{Copied}
use Rattle.live.specs.Live.{LiveDisk, Live, disk_check, live_check, played, LiveRun, live_batch, live_read, part_at, handed, stale, CopyLeft, copy_step}
use Rattle.live.specs.LiveDemand as model
use Rattle.live.specs.LiveDemand.{Call, after_call, after_calls, AllStale, read_now, reverts_in, Advances}
use Rattle.live.proofs.Behind.{checks_two}
use Rattle.live.proofs.LiveDemand.{batch_is, live_demand}
use Rattle.areas.specs.Lent.{Lent, fits, store_in, live_in}
use Rattle.fresh_areas.specs.Fresh.{fresh_bytes}
use Rattle.batch_areas.specs.Batch.{BatchLeft, check_in}
use Rattle.live_areas.specs.Live.{live_read_bytes, copy_bytes}
use Rattle.kizmoolet.specs.LiveDemand.{LiveAreas, live_areas, LiveCall, batched, read_live, copied, call_leaves, calls_leave, part_in, call_of, NoRevert, LiveHolds, LiveDemand}
use Rattle.kizmoolet.proofs.Told.{step_unfit}
use Rattle.kizmoolet.proofs.Demand3.{Ready, checks, passes, served, ready_after, made, made_ready}

-- areas that hold a sound store of the model, with its live disk, which fits
record Beside (x : LiveAreas) (l : Live) : Type 0 where
  ready : Ready x.areas l.store
  disk : x.disk ≡ l.disk
  checked : live_check l ≡ 0

module _ (x : LiveAreas) (l : Live) (b : Beside x l) where
  live_is : live_in x.areas x.disk ≡ l
  live_is = λ j. record { store = b.ready.holds.store j; disk = b.disk j }

  fits_disk : disk_check l.store.head.size x.disk ≡ 0
  fits_disk = ap (disk_check l.store.head.size) b.disk ∙ (checks_two l b.checked).1

  below : l.store.head.now ≤ open_end
  below = omega (arith, b.ready.sound.sizes.now_high)

  -- the checks pass again after a call
  again : (c : Call) → live_check (after_call l c) ≡ 0
  again c = unfold after_calls in live_demand.served l b.checked below (c ∷ [])

  read_is : (a : ℕ) → live_read_bytes x.areas x.disk a ≡ live_read l a
  unfolding live_read_bytes
  read_is a = rw b.ready.holds.fit (ap (λ (y : Live). live_read y a) live_is)

  step_is : (n : ℕ) → copy_bytes x.areas x.disk n ≡ copy_step l n
  unfolding copy_bytes
  step_is n = rw b.ready.holds.fit (ap (λ (y : Live). copy_step y n) live_is)

  beside_batch : (input area : List ℕ) → Beside (call_leaves x (batched input area)) (after_call l (model.batched input (length area)))
  unfolding call_leaves after_call
  beside_batch input area =
      let e = served x.areas l.store b.ready x.disk fits_disk input area in
      let q : live_batch l input (length area) ≡ record { run = batch l.store input (length area); disk = played l.disk (batch l.store input (length area)).log } =
      batch_is l input (length area) b.checked in
      record {
        ready = rw (e, q) (ready_after x.areas l.store b.ready input area);
        disk =
            ap (λ (y : BatchLeft). y.disk) e
            ∙ (ap (λ (d : LiveDisk). played d (batch l.store input (length area)).log) b.disk ∙ sym (ap (λ (r : LiveRun). r.disk) q));
        checked = again (model.batched input (length area));
      }

  beside_call : (c : LiveCall) → Beside (call_leaves x c) (after_call l (call_of c))
  unfolding call_leaves after_call
  beside_call (batched input area) = beside_batch input area
  beside_call (read_live a) = b
  beside_call (copied n) =
      record {
        ready = b.ready;
        disk = ap (λ (y : CopyLeft). y.disk) (step_is n);
        checked = again (model.copied n);
      }

  reverts_is : (c : LiveCall) → reverts_in (live_in x.areas x.disk) (call_of c) ≡ reverts_in l (call_of c)
  reverts_is c = ap (λ (y : Live). reverts_in y (call_of c)) live_is

-- a list of calls
beside_calls : (x : LiveAreas) (l : Live) → Beside x l → (cs : List LiveCall) → Beside (calls_leave x cs) (after_calls l (map call_of cs))
unfolding calls_leave after_calls
beside_calls x l b [] = b
beside_calls x l b (c ∷ cs) = beside_calls (call_leaves x c) (after_call l (call_of c)) (beside_call x l b c) cs

no_revert : (x : LiveAreas) (l : Live) → Beside x l → (cs : List LiveCall) → NoRevert x cs → model.NoRevert l (map call_of cs)
no_revert x l b [] h = tt
no_revert x l b (c ∷ cs) h = (sym (reverts_is x l b c) ∙ h.0, no_revert (call_leaves x c) (after_call l (call_of c)) (beside_call x l b c) cs h.1)

-- a live read after them
part_is : (x : LiveAreas) (l : Live) → Beside x l → (a : ℕ) → part_in x a ≡ handed l a
unfolding handed
part_is x l b a =
    λ j. part_at (read_is x l b a j).spot (b.disk j).bytes (b.ready.holds.store j).slab

passes_in : (x : LiveAreas) (l : Live) → Beside x l → check_in x.areas x.disk ≡ 0
passes_in x l b =
    checks x.areas l.store b.ready x.disk 0 (ap (λ (d : LiveDisk). live_check (record { store = l.store; disk = d })) b.disk ∙ b.checked)

holds : (size : ℕ) (x : LiveAreas) (l : Live) → Beside x l → l.store.head.size ≡ size → (cs : List LiveCall) → LiveHolds size x cs
holds size x l b z cs =
    let e : Beside (calls_leave x cs) (after_calls l (map call_of cs)) = beside_calls x l b cs in
    record {
      reads =
          λ h a i.
          let r = live_demand.reads l b.checked (below x l b) (subst AllStale b.disk h) (map call_of cs) a (omega (arith, i, z)) in (
            ap (λ (y : Located). y.refusal) (read_is _ _ e a) ∙ r.0,
            part_is _ _ e a ∙ (r.1 ∙ sym (ap (λ (s : Store). read_now s a) e.ready.holds.store)),
          );
      served = passes_in _ _ e;
      ends =
          λ n i nr least k.
          ap stale e.disk
          ∙ live_demand.ends l b.checked (below x l b) (map call_of cs) n i (no_revert x l b cs nr) least
          (omega (arith, k, ap (λ (s : ℕ). (s + (n - 1)) / n) z));
    }

lists : (lent : Lent) (size : ℕ) (d : LiveDisk) (cs : List LiveCall) → (fresh_bytes size lent).result ≡ 0 → disk_check size d ≡ 0
    → LiveHolds size (live_areas (fresh_bytes size lent).areas d) cs
lists lent size d cs z f =
    let s : Store = made_fresh (store_in lent) size in
    let r : Ready (fresh_bytes size lent).areas s = made_ready lent size z in
    let k : s.head.size ≡ size = made_size (store_in lent) size (made lent size z).1 in
    let b : Beside (live_areas (fresh_bytes size lent).areas d) (record { store = s; disk = d }) =
    record { ready = r; disk = refl; checked = passes s r.sound d (ap (λ (n : ℕ). disk_check n d) k ∙ f) } in
    holds size (live_areas (fresh_bytes size lent).areas d) (record { store = s; disk = d }) b k cs

-- a single call, by whether the lengths fit
module _ (l : Lent) (d : LiveDisk) where
  read_fits : (a : ℕ) → fits l ≡ true → live_read_bytes l d a ≡ live_read (live_in l d) a
  unfolding live_read_bytes
  read_fits a e = rw e

  step_fits : (n : ℕ) → fits l ≡ true → copy_bytes l d n ≡ copy_step (live_in l d) n
  unfolding copy_bytes
  step_fits n e = rw e

  passed : check_in l d ≡ 0 → (fits l ≡ true) × (live_check (live_in l d) ≡ 0)
  unfolding check_in
  passed h = case (fits l) (λ e. (e, rw e at h)) (λ e. let z : 1 ≡ 0 = rw e at h in absurd (omega arith))

  outside : (a : ℕ) → check_in l d ≡ 0 → (store_in l).head.size ≤ a → (live_read_bytes l d a).refusal ≡ 4
  outside a h i = ap (λ (x : Located). x.refusal) (read_fits a (passed h).0) ∙ live_demand.outside (live_in l d) a (passed h).1 i

  refused_read_lem : (a : ℕ) → ((live_read_bytes l d a).refusal ≡ 0 → ⊥) → ((live_read_bytes l d a).spot ≡ Nowhere) × (part_in (live_areas l d) a ≡ [])
  refused_read_lem a ne =
      let nowhere : (live_read_bytes l d a).spot ≡ Nowhere =
      case (fits l)
      (λ e. ap (λ (x : Located). x.spot) (read_fits a e) ∙ (live_demand.refused_read (live_in l d) a (λ z. ne (ap (λ (x : Located). x.refusal) (read_fits a e) ∙ z))).0)
      (λ e. unfold live_read_bytes in rw e) in
      (nowhere, ap (λ (x : Spot). part_at x d.bytes l.tables.slab) nowhere)

  refused_step_lem : (n : ℕ) → ((copy_bytes l d n).report.refusal ≡ 0 → ⊥) → ((copy_bytes l d n).report.count ≡ 0) × ((copy_bytes l d n).disk ≡ d)
  refused_step_lem n ne =
      case (fits l)
      (λ e. subst⁻¹ (λ (x : CopyLeft). (x.report.refusal ≡ 0 → ⊥) → (x.report.count ≡ 0) × (x.disk ≡ d)) (step_fits n e) (live_demand.refused_step (live_in l d) n) ne)
      (λ e. let u = step_unfit l d n e in (sym (ap (λ (r : Copied). r.count) u.report), sym u.disk))

  advances : (n : ℕ) → (copy_bytes l d n).report.refusal ≡ 0 → Advances d n (copy_bytes l d n)
  advances n h =
      case (fits l)
      (λ e. subst⁻¹ (λ (x : CopyLeft). x.report.refusal ≡ 0 → Advances d n x) (step_fits n e) (live_demand.advances (live_in l d) n) h)
      (λ e. let z : 1 ≡ 0 = ap (λ (r : Copied). r.refusal) (step_unfit l d n e).report ∙ h in absurd (omega arith))

pub live_demand_bytes : LiveDemand
live_demand_bytes =
    record {
      answers = λ l d. record { outside = outside l d; refused_read = refused_read_lem l d; refused_step = refused_step_lem l d; advances = advances l d };
      lists = lists;
    }
