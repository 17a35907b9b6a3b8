-- Change request Three of the C entries: the model's claim, and calls that read at a named moment.
use Prim.Native.Nat.{ℕ, ◌<◌}
use mathlib.Core.Path.{◌≡◌, sym, subst, ◌∙◌}
use mathlib.Core.List.{[], ◌∷◌, append-nil}
use native.Mathlib.Omega.{arith}
use lib.Dec.{eqb}
use lib.ListN.{length}
use Rattle.model.specs.Store.{Store, names, ◌∈◌}
use Rattle.model.specs.Soundness.{table_check}
use Rattle.model.specs.Wire.{read_at, request_bytes, Answer, answer_bytes}
use Rattle.model.specs.Step.{step}
use Rattle.model.specs.Fresh.{made_fresh}
use Rattle.model.specs.Demand3.{after, answered}
use Rattle.model.specs.Commissioned.{StaysGiven, AsNamed}
use Rattle.model.proofs.Base.{case}
use Rattle.model.proofs.Invariant.{sound_check}
use Rattle.model.proofs.Reading.{read_leaves}
use Rattle.model.proofs.Running.{batch_single, seven}
use Rattle.model.proofs.Commissioned.{commissioned}
use Rattle.live.specs.Live.{LiveDisk, disk_check, played}
use Rattle.areas.specs.Lent.{Lent, store_in}
use Rattle.fresh_areas.specs.Fresh.{fresh_bytes}
use Rattle.kizmoolet.specs.Demand3.{areas_after}
use Rattle.kizmoolet.specs.Commissioned.{Gets, Commissioned}
use Rattle.kizmoolet.proofs.Demand3.{Ready, served, Follows, follows, made, made_ready}

-- a read leaves the live disk, refused or not
read_stays : (d : LiveDisk) (a t : ℕ) (x : Answer) → played d (record { request = read_at a t; answer = x } ∷ []) ≡ d
unfolding played
read_stays d a t x = case (eqb x.refusal 0) (λ e. rw e) (λ e. rw e)

-- a call with just a read
gets : (l : Lent) (s : Store) → Ready l s → (a t : ℕ) → a < 65536 → t < 4294967296 → Gets l a t (step s (read_at a t)).answer
gets l s r a t ha ht d area z h =
    let k : table_check s ≡ 0 = sound_check s r.sound in
    let k' : table_check (step s (read_at a t)).store ≡ 0 = rw (read_leaves s a t) k in
    let z' : disk_check s.head.size d ≡ 0 = subst (λ (x : Store). disk_check x.head.size d ≡ 0) r.holds.store z in
    served l s r d z' (request_bytes (read_at a t)) area
    ∙ rw (batch_single s (read_at a t) (length area) k k' (ha, ht) h, seven a t, read_leaves s a t, r.holds.areas, append-nil (answer_bytes (step s (read_at a t)).answer), read_stays d a t (step s (read_at a t)).answer)

pub commissioned_bytes : Commissioned
commissioned_bytes lent size calls more n z m w =
    let first : Lent = (fresh_bytes size lent).areas in
    let s : Store = made_fresh (store_in lent) size in
    let f : Follows first s calls = follows first s (made_ready lent size z) calls in
    let u : Store = after s f.served in
    let g : Follows (areas_after first calls) u more = follows (areas_after first calls) u f.ready more in
    let m' : n ∈ names u = rw f.ready.holds.store at m in
    let w' : StaysGiven n (answered u g.served) = rw g.requests at w in
    let k : AsNamed u (after u g.served) n = commissioned (store_in lent) size f.served g.served n (made lent size z).1 m' w' in
    let t : n.moment < 4294967296 = omega (arith, (f.ready.sound.names.fit n m').below, f.ready.narrow.head.now) in
    record {
      named = subst (λ (x : Store). n ∈ names x) (sym g.ready.holds.store) k.named;
      reads =
          λ a h. (
            (step u (read_at a n.moment)).answer,
            gets (areas_after first calls) u f.ready a n.moment h t,
            subst (λ (x : Answer). Gets (areas_after (areas_after first calls) more) a n.moment x) (k.reads a)
                (gets (areas_after (areas_after first calls) more) (after u g.served) g.ready a n.moment h t),
          );
    }
