-- Laws of mark, revert and read.
use mathlib.Core.Path.{◌≡◌, refl, sym, ◌∙◌}
use mathlib.Core.List.{List, []}
use mathlib.Core.Bool.{Bool, true, false}
use Prim.Native.Nat.{ℕ, ◌+◌, ◌-◌, ◌≤◌, ◌<◌}
use native.Mathlib.Omega.{arith}
use lib.Dec.{leb}
use borrow.Author.Tests.{lt-ltb, le-ltb, le-leb, lt-leb}
use lib.ListN.{length, take}
use Rattle.model.specs.declared.Branch.{Branch}
use Rattle.model.specs.declared.Head.{Head}
use Rattle.model.specs.Store.{Store, branches, newest, records, open_end}
use Rattle.model.specs.Lookup.{readable, lookup}
use Rattle.model.specs.Step.{unchanged, head_with, do_mark, do_revert, branched, closed_at, do_read, step}
use Rattle.model.specs.Wire.{mark, revert, read_at}
use Rattle.model.proofs.Moves.{Taken, revert_taken}
use Rattle.model.proofs.Base.{case}
use Rattle.model.specs.ByNumber.{branch, find, Sound, newest_of}
use Rattle.model.proofs.Writing.{rows_falls}
use Rattle.rows.specs.Rows.{branch_rows_of, record_rows_of, BranchSet, NamesIn}
use Rattle.rows.specs.View.{Tables, tables, with_branches, with_names, store_of, found_of, record_given, Carried, refused_with, accepted_with}
use Rattle.rows.specs.declared.Found.{Found}
use Rattle.rows.specs.declared.Outcome.{Outcome}
use Rattle.rows.proofs.Laws.{branch_kind, record_kind, name_kind, record_count, branch_count, name_count}
use Rattle.rows.proofs.Relaid.{laid_own, own_then, set_length, set_rows, set_own}
use Rattle.rows.proofs.View.{within_own, carried}
use Rattle.store.specs.Asked.{Revertible, Readable}

-- mark
module _ (head : Head) (r : Outcome) where
  pub mark_late : r ≡ refused_with head 10 → open_end ≤ head.now → (t : Tables) → Carried head t mark r t
  unfolding step do_mark record_given
  mark_late e h t = carried head t mark (rw (e, le-ltb _ _ h)) (rw e) (within_own t)

  pub mark_done : r ≡ accepted_with (head_with head head.branches head.records (head.now + 1) head.floor) head.now → head.now < open_end
      → (t : Tables) → Carried head t mark r t
  unfolding step do_mark record_given
  mark_done e h t = carried head t mark (rw (e, lt-ltb _ _ h)) (rw e) (within_own t)

-- revert: what a refusal says of the step
module _ (s : Store) (m w : ℕ) where
  revert_refused : ((do_revert s m w).answer.refusal ≡ 0 → ⊥) → unchanged s (do_revert s m w).answer.refusal ≡ do_revert s m w
  unfolding do_revert
  revert_refused ne =
      case (readable s m)
      (λ e.
      case (leb s.head.now m) (λ f. rw (e, f))
      (λ f.
      case (leb open_end s.head.now) (λ g. rw (e, f, g))
      (λ g.
      case (leb (length s.branch_rows) s.head.branches) (λ h. rw (e, f, g, h)) (λ h. absurd (ne (rw (e, f, g, h)))))))
      (λ e. rw e)

-- with these names the moment m can be read or not, whatever the other tables are
abbrev pub Tells : Head → List ℕ → ℕ → Bool → Type 0
Tells head nt m b = (t : Tables) → readable (store_of head (with_names nt t)) m ≡ b

-- the refusals in their order
module _ (head : Head) (rows : ℕ) (nt : List ℕ) (m : ℕ) where
  abbrev pub Refuses : ℕ → Type 0
  Refuses n = (t : Tables) (w : ℕ) → length (branch_rows_of t.branches) ≡ rows → n ≡ (do_revert (store_of head (with_names nt t)) m w).answer.refusal

  pub revert_below : Tells head nt m false → Refuses 8
  unfolding do_revert
  revert_below f t w l = rw (f t)

  module _ (f : Tells head nt m true) where
    pub revert_above : head.now ≤ m → Refuses 9
    unfolding do_revert
    revert_above n t w l = rw (f t, le-leb _ _ n)

    module _ (n : m < head.now) where
      pub revert_late : open_end ≤ head.now → Refuses 10
      unfolding do_revert
      revert_late o t w l = rw (f t, lt-leb _ _ n, le-leb _ _ o)

      module _ (o : head.now < open_end) where
        pub revert_full : rows ≤ head.branches → Refuses 7
        unfolding do_revert
        revert_full h t w l = rw (l, f t, lt-leb _ _ n, lt-leb _ _ o, le-leb _ _ h)

        pub revert_none : head.branches < rows → Refuses 0
        unfolding do_revert
        revert_none h t w l = rw (l, f t, lt-leb _ _ n, lt-leb _ _ o, lt-leb _ _ h)

-- now can grow, and a branch row is free
pub record Growing (head : Head) (bt : List ℕ) : Type 0 where
  pub later : head.now < open_end
  pub room : head.branches < length (branch_rows_of bt)

-- the code's revert, by the refusal that it was told
module _ (head : Head) (bt nt : List ℕ) (m w x rows : ℕ) (l : rows ≡ length (branch_rows_of bt)) (told : Refuses head rows nt m x) where
  abbrev lent : Tables → Tables
  lent t = with_names nt (with_branches bt t)

  abbrev S : Tables → Store
  S t = store_of head (lent t)

  refusal : (t : Tables) → x ≡ (do_revert (S t) m w).answer.refusal
  refusal t = told (with_branches bt t) w (sym l)

  pub revert_kept : (r : Outcome) → r ≡ refused_with head x → (x ≡ 0 → ⊥) → (t : Tables) → Carried head (lent t) (revert m w) r (lent t)
  unfolding step record_given
  revert_kept r e ne t =
      let q : x ≡ (do_revert (S t) m w).answer.refusal = refusal t in
      carried head (lent t) (revert m w) (rw (e, q) (revert_refused (S t) m w (λ z. ne (q ∙ z)))) (rw e) (within_own (lent t))

  module _ (z : x ≡ 0) where
    free : (t : Tables) → Taken (S t) m w
    free t = revert_taken (S t) m w (sym (refusal t) ∙ z)

    pub revert_grows : Growing head bt
    revert_grows =
        let f : Taken (S (tables [] [] [] [] [])) m w = free (tables [] [] [] [] []) in
        record { later = f.later; room = f.room }

    pub revert_done : (r : Outcome) (u v : List ℕ) (b : Branch)
        → r ≡ accepted_with (head_with head (head.branches + 1) head.records (head.now + 1) head.floor) head.now
        → b ≡ branch (branch_rows_of bt) (head.branches - 1)
        → BranchSet bt (head.branches - 1) (closed_at head.now b) u
        → BranchSet u head.branches (record { start = head.now + 1; end = open_end; cut = m; order = w }) v
        → (t : Tables) → Carried head (lent t) (revert m w) r (with_names nt (with_branches v t))
    unfolding step branched record_given
    revert_done r u v b e eb eu ev t =
        carried head (lent t) (revert m w) (rw (e, set_rows branch_kind ev, set_rows branch_kind eu, eb) (free t).stepped) (rw e)
        (record {
          branches = own_then branch_kind (set_own branch_kind eu) (set_length branch_kind eu) (set_own branch_kind ev);
          records = laid_own record_kind t.records;
          names = laid_own name_kind nt;
        })

-- the lookup of the model, over the tables lent
pub lookup_is : (head : Head) (t : Tables) (a m : ℕ)
    → lookup (store_of head t) a m ≡ find (take head.records (record_rows_of t.records)) a (newest_of (branch_rows_of t.branches) head.branches) m
unfolding lookup records newest branches
lookup_is head t a m = refl

-- read
module _ (head : Head) (t : Tables) (a m : ℕ) (r : Outcome) where
  abbrev Gives : Type 0
  Gives = Carried head t (read_at a m) r t

  pub read_outside : r ≡ refused_with head 4 → head.size ≤ a → Gives
  unfolding step do_read record_given
  read_outside e la = carried head t (read_at a m) (rw (e, le-ltb _ _ la)) (rw (e, le-ltb _ _ la)) (within_own t)

  module _ (la : a < head.size) where
    pub read_below : r ≡ refused_with head 8 → readable (store_of head t) m ≡ false → Gives
    unfolding step do_read record_given
    read_below e lf = carried head t (read_at a m) (rw (e, lt-ltb _ _ la, lf)) (rw (e, lt-ltb _ _ la, lf)) (within_own t)

    module _ (lf : readable (store_of head t) m ≡ true) where
      pub read_above : r ≡ refused_with head 9 → head.now < m → Gives
      unfolding step do_read record_given
      read_above e ln = carried head t (read_at a m) (rw (e, lt-ltb _ _ la, lf, lt-ltb _ _ ln)) (rw (e, lt-ltb _ _ la, lf, lt-ltb _ _ ln)) (within_own t)

pub read_done : (head : Head) (t : Tables) (a m : ℕ) → a < head.size → readable (store_of head t) m ≡ true → m ≤ head.now → (f : Found)
    → found_of f ≡ find (take head.records (record_rows_of t.records)) a (newest_of (branch_rows_of t.branches) head.branches) m
    → Carried head t (read_at a m) (record { head = head; refusal = 0; value = m; found = f }) t
unfolding step do_read record_given
read_done head t a m la lf ln f e =
    carried head t (read_at a m) (rw (lt-ltb _ _ la, lf, le-ltb _ _ ln, lookup_is head t a m, e))
    (rw (lt-ltb _ _ la, lf, le-ltb _ _ ln) (e ∙ sym (lookup_is head t a m))) (within_own t)

-- a sound store can be reverted and read
module _ (head : Head) (t : Tables) (s : Sound (store_of head t)) where
  pub sound_names : NamesIn head.names t.names
  sound_names = omega (arith, s.sizes.names_counted, s.sizes.allowed.name_rows, name_count t.names)

  pub sound_revertible : Revertible head t.branches t.names
  sound_revertible =
      record {
        some = s.sizes.counted_low;
        counted = omega (arith, s.sizes.counted_high, branch_count t.branches);
        names = sound_names;
        few = omega (arith, s.sizes.counted_high, s.sizes.allowed.branches_high);
      }

  pub sound_readable : Readable head t.branches t.records t.names
  unfolding records newest branches
  sound_readable =
      record {
        branches = omega (arith, s.sizes.counted_high, branch_count t.branches);
        records = omega (arith, s.sizes.records_counted, record_count t.records);
        names = sound_names;
        ascends = s.ascends;
        falls = rows_falls _ _ (newest_of (branch_rows_of t.branches) head.branches) s.rows;
      }
