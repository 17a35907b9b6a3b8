-- The refusals of a list of work orders, in their order.
use mathlib.Core.Path.{◌≡◌, refl, sym}
use mathlib.Core.List.{List}
use mathlib.Core.Bool.{true, false}
use Prim.Native.Nat.{ℕ, ◌*◌, ◌≤◌, ◌<◌}
use native.Mathlib.Omega.{arith}
use lib.ListN.{length}
use borrow.Author.Tests.{lt-ltb, le-ltb, ne_eqb}
use Rattle.model.specs.declared.Head.{Head}
use Rattle.model.specs.Store.{Store}
use Rattle.model.specs.Lookup.{readable}
use Rattle.model.specs.Soundness.{table_check}
use Rattle.model.proofs.Base.{case}
use Rattle.rows.specs.View.{Tables, store_of}
use Rattle.soundness.specs.Check.{whole_tables, check_of}
use Rattle.soundness.proofs.Checked.{passed}
use Rattle.work_orders.specs.Orders.{work_orders, list_refusal, listed_in, listing}
use Rattle.listing.specs.Lists.{listing_of, Lists}

module _ (head : Head) (t : Tables) (m : ℕ) (area : List ℕ) where
  abbrev S : Store
  S = store_of head t

  -- nothing is listed, with this refusal
  abbrev pub Refuses : ℕ → Type 0
  Refuses n = Lists (listing_of head t m area) (record { refusal = n; count = 0 }) area

  -- a refusal of the definition, which is not 0
  by_refusal : whole_tables t ≡ true → (n : ℕ) → list_refusal S m (length area) ≡ n → (n ≡ 0 → ⊥) → Refuses n
  unfolding listing_of listing
  by_refusal w n e ne = rw (w, e, ne_eqb n 0 ne) (record { report = refl; area_is = refl })

  pub list_refused : (n : ℕ) → n ≡ check_of head t → (n ≡ 0 → ⊥) → Refuses n
  unfolding check_of list_refusal listing_of
  list_refused n e ne =
      case (whole_tables t)
      (λ w.
      let c : table_check S ≡ n = sym (rw w at e) in
      by_refusal w n (rw (c, ne_eqb n 0 ne)) ne)
      (λ w. let z : n ≡ 1 = rw w at e in rw (w, z) (record { report = refl; area_is = refl }))

  module _ (checked : check_of head t ≡ 0) where
    w : whole_tables t ≡ true
    w = (passed head t checked).0

    c : table_check S ≡ 0
    c = (passed head t checked).1

    pub list_below : readable S m ≡ false → Refuses 8
    unfolding list_refusal
    list_below r = by_refusal w 8 (rw (c, r)) (λ z. omega (arith, z))

    module _ (r : readable S m ≡ true) where
      pub list_above : head.now < m → Refuses 9
      unfolding list_refusal
      list_above l = by_refusal w 9 (rw (c, r, lt-ltb _ _ l)) (λ z. omega (arith, z))

      module _ (h : m ≤ head.now) where
        pub list_full : length area < 2 * length (work_orders S m) → Refuses 14
        unfolding list_refusal
        list_full l = by_refusal w 14 (rw (c, r, le-ltb _ _ h, lt-ltb _ _ l)) (λ z. omega (arith, z))

        pub list_done : 2 * length (work_orders S m) ≤ length area → (n : ℕ) (after : List ℕ) → n ≡ length (work_orders S m) → after ≡ listed_in (work_orders S m) area
            → Lists (listing_of head t m area) (record { refusal = 0; count = n }) after
        unfolding listing_of listing list_refusal
        list_done l n after en ea = rw (w, c, r, le-ltb _ _ h, le-ltb _ _ l, en, ea) (record { report = refl; area_is = refl })
