-- Where a live read's page lies.
use mathlib.Core.Path.{◌≡◌, sym, ◌∙◌}
use mathlib.Core.Option.{Option}
use Prim.Native.Nat.{ℕ, ◌*◌, ◌%◌, ◌≤◌, ◌<◌}
use borrow.Author.Tests.{le-leb, lt-leb, lt-ltb, le-ltb, ne_eqb}
use Rattle.model.specs.declared.Head.{Head}
use Rattle.model.specs.declared.Record.{Record}
use Rattle.model.specs.ByNumber.{Sound}
use Rattle.model.proofs.Base.{case}
use Rattle.live.specs.declared.Spot.TheVariants.{Nowhere, OnDisk}
use Rattle.live.specs.Live.{LiveDisk, Live, mark_of, live_check, found_now, stored_at, spot_of, live_read}
use Rattle.rows.specs.View.{Tables, store_of}
use Rattle.soundness.specs.Check.{whole_tables}
use Rattle.store.proofs.Laws.{sound_readable}
use Rattle.disk_check.specs.Check.{live_of, live_check_of}
use Rattle.disk_check.proofs.Checked.{whole_check, odd_check, passed_whole}
use Rattle.live_pages.specs.Read.{live_read_of, Searchable}

-- by the mark
module _ (l : Live) (a : ℕ) where
  pub spot_blank : mark_of l.disk a % 2 ≡ 1 → 2 ≤ mark_of l.disk a → Nowhere ≡ spot_of l a
  unfolding spot_of
  spot_blank e b = rw (e, le-leb _ _ b)

  pub spot_disk : mark_of l.disk a % 2 ≡ 1 → mark_of l.disk a < 2 → OnDisk (256 * a) ≡ spot_of l a
  unfolding spot_of
  spot_disk e b = rw (e, lt-leb _ _ b)

  pub spot_stored : (mark_of l.disk a % 2 ≡ 1 → ⊥) → (o : Option Record) → o ≡ found_now l.store a → stored_at o ≡ spot_of l a
  unfolding spot_of
  spot_stored ne o e = rw (ne_eqb _ _ ne, e)

-- refusals in their order
module _ (head : Head) (t : Tables) (d : LiveDisk) (a : ℕ) where
  pub read_refused : (n : ℕ) → n ≡ live_check_of head t d → (n ≡ 0 → ⊥) → record { refusal = n; spot = Nowhere } ≡ live_read_of head t d a
  unfolding live_read_of live_read
  read_refused n e ne =
      case (whole_tables t)
      (λ w.
      let c : live_check (live_of head t d) ≡ n = sym (whole_check head t d w) ∙ sym e in
      rw (w, ne_eqb (live_check (live_of head t d)) 0 (λ z. ne (sym c ∙ z)), c))
      (λ w. let z : n ≡ 1 = e ∙ odd_check head t d w in rw (w, z))

  module _ (passed : live_check_of head t d ≡ 0) where
    zero : live_check (live_of head t d) ≡ 0
    zero = sym (whole_check head t d (passed_whole head t d passed)) ∙ passed

    pub read_outside : head.size ≤ a → record { refusal = 4; spot = Nowhere } ≡ live_read_of head t d a
    unfolding live_read_of live_read
    read_outside i = rw (passed_whole head t d passed, zero, le-ltb _ _ i)

    pub read_inside : a < head.size → record { refusal = 0; spot = spot_of (live_of head t d) a } ≡ live_read_of head t d a
    unfolding live_read_of live_read
    read_inside i = rw (passed_whole head t d passed, zero, lt-ltb _ _ i)

-- a sound store can be searched
pub sound_searchable : (head : Head) (t : Tables) → Sound (store_of head t) → Searchable head t.branches t.records
sound_searchable head t s =
    let r = sound_readable head t s in
    record { branches = r.branches; records = r.records; ascends = r.ascends; falls = r.falls }
