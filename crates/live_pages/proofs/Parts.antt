-- The part that a live read hands out.
use mathlib.Core.Path.{◌≡◌, refl, sym, ap, subst, ◌∙◌}
use mathlib.Core.List.{List, []}
use mathlib.Core.Option.{Option, some, none}
use Prim.Native.Nat.{ℕ, ◌+◌, ◌-◌, ◌≤◌, ◌<◌}
use native.Mathlib.Omega.{arith}
use lib.Dec.{eqb, ltb}
use lib.ListN.{length, take, drop}
use borrow.Author.Tests.{eqb-true, ltb-true}
use Rattle.model.specs.declared.Head.{Head}
use Rattle.model.specs.declared.Record.{Record}
use Rattle.model.specs.Store.{open_end}
use Rattle.model.specs.ByNumber.{Sound}
use Rattle.model.proofs.Base.{case}
use Rattle.model.proofs.Steps.{found_inside}
use Rattle.live.specs.declared.Spot.{Spot}
use Rattle.live.specs.declared.Spot.TheVariants.{Nowhere, OnDisk, InSlab}
use Rattle.live.specs.declared.Located.{Located}
use Rattle.live.specs.Live.{LiveDisk, Live, is_current, is_blank, mark_of, live_check, found_now, stored_at, spot_of, live_read}
use Rattle.live.specs.Fit.{Fit}
use Rattle.live.proofs.Behind.{checks_fit}
use Rattle.rows.specs.View.{Tables}
use Rattle.soundness.specs.Check.{whole_tables}
use Rattle.disk_check.specs.Check.{live_of}
use Rattle.live_pages.specs.Read.{live_read_of, Hands, LiesAt}

-- a spot whose 256 bytes are in the disk or in the slab
abbrev Within : Spot → List ℕ → List ℕ → Type 0
Within Nowhere bytes slab = Unit {0}
Within (OnDisk at) bytes slab = at + 256 ≤ length bytes
Within (InSlab at) bytes slab = at + 256 ≤ length slab

stored_within : (l : Live) → Sound l.store → (a : ℕ) (o : Option Record) → found_now l.store a ≡ o → Within (stored_at o) l.disk.bytes l.store.slab
stored_within l h a none e = tt
stored_within l h a (some r) e = found_inside l.store h a l.store.head.now r e

spot_within : (l : Live) → Fit l.store l.disk → (a : ℕ) → a < l.store.head.size → Within (spot_of l a) l.disk.bytes l.store.slab
unfolding spot_of
spot_within l f a i =
    case (is_current (mark_of l.disk a))
    (λ c. case (is_blank (mark_of l.disk a)) (λ b. rw (c, b) tt) (λ b. rw (c, b) (omega (arith, f.sized.bytes))))
    (λ c. rw c (stored_within l f.sound a (found_now l.store a) refl))

live_within : (l : Live) → l.store.head.now ≤ open_end → (a : ℕ) → Within (live_read l a).spot l.disk.bytes l.store.slab
unfolding live_read
live_within l n a =
    case (eqb (live_check l) 0)
    (λ e.
    case (ltb a l.store.head.size)
    (λ i. rw (e, i) (spot_within l (checks_fit l n (eqb-true _ _ e)) a (ltb-true _ _ i)))
    (λ i. rw (e, i) tt))
    (λ e. rw e tt)

-- what was located
module _ (head : Head) (t : Tables) (d : LiveDisk) (a : ℕ) (dp sp : ℕ × ℕ) {r : Located} (e : r ≡ live_read_of head t d a) where
  read_within : head.now ≤ open_end → Within (live_read_of head t d a).spot d.bytes t.slab
  unfolding live_read_of
  read_within n = case (whole_tables t) (λ w. rw w (live_within (live_of head t d) n a)) (λ w. rw w tt)

  spot_is : (p : Spot) → r.spot ≡ p → (live_read_of head t d a).spot ≡ p
  spot_is p h = sym (ap (λ (x : Located). x.spot) e) ∙ h

  pub at_disk : head.now ≤ open_end → (at : ℕ) → r.spot ≡ OnDisk at → at + 256 ≤ length d.bytes
  at_disk n at h = subst (λ (x : Spot). Within x d.bytes t.slab) (spot_is (OnDisk at) h) (read_within n)

  pub at_slab : head.now ≤ open_end → (at : ℕ) → r.spot ≡ InSlab at → at + 256 ≤ length t.slab
  at_slab n at h = subst (λ (x : Spot). Within x d.bytes t.slab) (spot_is (InSlab at) h) (read_within n)

  -- and the part there
  abbrev Given : List ℕ → ℕ × ℕ → Type 0
  Given part ptr = Hands (live_read_of head t d a) d.bytes t.slab part r.refusal × LiesAt (live_read_of head t d a).spot ptr dp sp

  pub given_nowhere : (ptr : ℕ × ℕ) → r.spot ≡ Nowhere → Given [] ptr
  given_nowhere ptr h =
      let q : (live_read_of head t d a).spot ≡ Nowhere = spot_is Nowhere h in
      (record { part_is = rw q; refusal = ap (λ (x : Located). x.refusal) e }, rw q tt)

  pub given_disk : (at : ℕ) → r.spot ≡ OnDisk at → Given (take (at + 256 - at) (drop at d.bytes)) (dp.0, at + dp.1)
  given_disk at h =
      let q : (live_read_of head t d a).spot ≡ OnDisk at = spot_is (OnDisk at) h in
      let n : at + 256 - at ≡ 256 = omega arith in
      (record { part_is = rw (q, n); refusal = ap (λ (x : Located). x.refusal) e }, rw q refl)

  pub given_slab : (at : ℕ) → r.spot ≡ InSlab at → Given (take (at + 256 - at) (drop at t.slab)) (sp.0, at + sp.1)
  given_slab at h =
      let q : (live_read_of head t d a).spot ≡ InSlab at = spot_is (InSlab at) h in
      let n : at + 256 - at ≡ 256 = omega arith in
      (record { part_is = rw (q, n); refusal = ap (λ (x : Located). x.refusal) e }, rw q refl)
