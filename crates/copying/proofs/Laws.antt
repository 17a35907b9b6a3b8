-- Laws of the copying step: a page brought to date, and the stale pages one after the other.
use mathlib.Core.Path.{◌≡◌, refl, sym, ap, subst⁻¹, ◌∙◌}
use mathlib.Core.List.{List, [], ◌∷◌}
use mathlib.Core.Option.{Option, some, none}
use Prim.Native.Nat.{ℕ, suc, ◌+◌, ◌*◌, ◌-◌, ◌%◌, ◌≤◌, ◌<◌}
use native.Mathlib.Omega.{arith}
use native.Mathlib.Numerals.{add-one}
use lib.ListN.{length, take, drop, get_or, set, length-take, length-drop}
use lib.Seq.{drop-cons, drop-length, take-nil, drop-set-lt}
use borrow.Author.Tests.{ne_eqb}
use Rattle.model.specs.declared.Head.{Head}
use Rattle.model.specs.declared.Record.{Record}
use Rattle.model.specs.Store.{Store, page_at, with_page}
use Rattle.model.proofs.Base.{case}
use Rattle.live.specs.Live.{LiveDisk, disk_of, live_check, found_now, brought_as, brought, brought_all, stale_from, stale, copy_step}
use Rattle.live.specs.Fit.{Fit}
use Rattle.live.proofs.Stale.{stale_yes, stale_no}
use Rattle.live.proofs.Behind.{fit_brought}
use Rattle.live.proofs.Keeping.{copied_left}
use Rattle.rows.specs.View.{Tables, tables, store_of}
use Rattle.soundness.specs.Check.{whole_tables}
use Rattle.disk_check.specs.Check.{live_of, live_check_of}
use Rattle.disk_check.proofs.Checked.{whole_check, odd_check, passed_whole}
use Rattle.copying.specs.Copy.{copy_step_of, Copies, CopiesPages, Stocked}

-- one page
module _ (s : Store) (bytes marks : List ℕ) (a : ℕ) where
  pub bring_none : none ≡ found_now s a → disk_of bytes (set marks a 3) ≡ brought s (disk_of bytes marks) a
  unfolding brought
  bring_none e = rw (← e)

  pub bring_some : (r : Record) (bytes' : List ℕ) → some r ≡ found_now s a
      → bytes' ≡ with_page bytes a (take (256 * r.place + 256 - 256 * r.place) (drop (256 * r.place) s.slab))
      → disk_of bytes' (set marks a 1) ≡ brought s (disk_of bytes marks) a
  unfolding brought page_at
  bring_some r bytes' e h =
      let n : 256 * r.place + 256 - 256 * r.place ≡ 256 = omega arith in
      rw (← e) (ap (λ (x : List ℕ). disk_of x (set marks a 1)) (h ∙ rw n))

-- what it leaves of the marks behind
left_behind : (s : Store) (d : LiveDisk) (a : ℕ) → drop (suc a) (brought s d a).marks ≡ drop (suc a) d.marks
unfolding brought
left_behind s d a = by (found_now s a)
  where
    by : (o : Option Record) → drop (suc a) (brought_as d a s.slab o).marks ≡ drop (suc a) d.marks
    by none = drop-set-lt (suc a) d.marks a 3 (omega arith)
    by (some r) = drop-set-lt (suc a) d.marks a 1 (omega arith)

abbrev pub at : Head → List ℕ → List ℕ → List ℕ → List ℕ → List ℕ → Store
at head bt rt slab pt nt = store_of head (tables bt rt pt nt slab)

-- at an address: what is left to copy gives what the whole gives
pub record Going (head : Head) (bt rt slab : List ℕ) (d₀ : LiveDisk) (budget : ℕ) (d : LiveDisk) (count a : ℕ) : Type 0 where
  pub stocked : Stocked head bt rt slab d
  pub within : a ≤ head.size
  pub total : length (take budget (stale d₀)) ≡ count + length (take (budget - count) (stale_from a (drop a d.marks)))
  pub rest : (pt nt : List ℕ) → brought_all (at head bt rt slab pt nt) d₀ (take budget (stale d₀))
      ≡ brought_all (at head bt rt slab pt nt) d (take (budget - count) (stale_from a (drop a d.marks)))

pub going_start : (head : Head) (bt rt slab : List ℕ) (d : LiveDisk) (budget : ℕ) → Stocked head bt rt slab d → Going head bt rt slab d budget d 0 0
going_start head bt rt slab d budget s =
    let n : budget - 0 ≡ budget = omega arith in
    record { stocked = s; within = omega arith; total = rw n (omega arith); rest = λ pt nt. rw n }

module _ {head : Head} {bt rt slab : List ℕ} {d₀ : LiveDisk} {budget : ℕ} {d : LiveDisk} {count a : ℕ} (g : Going head bt rt slab d₀ budget d count a) where
  pub going_length : length d.marks ≡ head.size
  going_length = g.stocked.fit.sized.marks

  here : a < head.size → drop a d.marks ≡ get_or d.marks a 0 ∷ drop (suc a) d.marks
  here l = drop-cons d.marks a 0 (omega (arith, going_length))

  pub going_current : a < head.size → get_or d.marks a 0 % 2 ≡ 1 → Going head bt rt slab d₀ budget d count (a + 1)
  going_current l e =
      let m : stale_from a (drop a d.marks) ≡ stale_from (a + 1) (drop (a + 1) d.marks) =
      ap (λ (x : List ℕ). stale_from a x) (here l) ∙ (stale_no a (get_or d.marks a 0) (drop (suc a) d.marks) (rw e) ∙ rw (add-one a)) in
      record {
        stocked = g.stocked;
        within = omega arith;
        total = g.total ∙ ap (λ (x : List ℕ). count + length (take (budget - count) x)) m;
        rest = λ pt nt. g.rest pt nt ∙ ap (λ (x : List ℕ). brought_all (at head bt rt slab pt nt) d (take (budget - count) x)) m;
      }

  pub going_stale : a < head.size → count < budget → (get_or d.marks a 0 % 2 ≡ 1 → ⊥) → {d' : LiveDisk}
      → ((pt nt : List ℕ) → d' ≡ brought (at head bt rt slab pt nt) d a) → Going head bt rt slab d₀ budget d' (count + 1) (a + 1)
  unfolding brought_all
  going_stale l n ne {d'} h =
      let s : Store = at head bt rt slab g.stocked.places g.stocked.names in
      let e : d' ≡ brought s d a = h g.stocked.places g.stocked.names in
      let left : ℕ = budget - (count + 1) in
      let xs : List ℕ = stale_from (a + 1) (drop (a + 1) d'.marks) in
      let k : budget - count ≡ suc left = omega arith in
      let q : drop (suc a) d'.marks ≡ drop (suc a) d.marks = ap (λ (x : LiveDisk). drop (suc a) x.marks) e ∙ left_behind s d a in
      let m : stale_from a (drop a d.marks) ≡ a ∷ xs =
      ap (λ (x : List ℕ). stale_from a x) (here l) ∙ (stale_yes a (get_or d.marks a 0) (drop (suc a) d.marks) (ne_eqb _ _ ne) ∙ rw (add-one a, q)) in
      let t : take (budget - count) (stale_from a (drop a d.marks)) ≡ a ∷ take left xs = rw (k, m) in
      record {
        stocked =
            record {
              places = g.stocked.places;
              names = g.stocked.names;
              fit = subst⁻¹ (λ (x : LiveDisk). Fit s x) e (fit_brought s d g.stocked.fit a l);
            };
        within = omega arith;
        total = omega (arith, g.total, ap length t);
        rest =
            λ pt nt.
            g.rest pt nt
            ∙ (ap (λ (x : List ℕ). brought_all (at head bt rt slab pt nt) d x) t
            ∙ ap (λ (x : LiveDisk). brought_all (at head bt rt slab pt nt) x (take left xs)) (sym (h pt nt)));
      }

  none_more : take (budget - count) (stale_from a (drop a d.marks)) ≡ [] → (pt nt : List ℕ) → CopiesPages (at head bt rt slab pt nt) d₀ budget count d
  unfolding brought_all
  none_more e pt nt =
      record {
        counted = omega (arith, g.total, ap length e);
        disk = sym (g.rest pt nt ∙ ap (λ (x : List ℕ). brought_all (at head bt rt slab pt nt) d x) e);
      }

  pub going_full : budget ≤ count → (pt nt : List ℕ) → CopiesPages (at head bt rt slab pt nt) d₀ budget count d
  going_full n = let z : budget - count ≡ 0 = omega arith in none_more (rw z)

  pub going_end : head.size ≤ a → (pt nt : List ℕ) → CopiesPages (at head bt rt slab pt nt) d₀ budget count d
  unfolding stale_from
  going_end l =
      let z : a ≡ length d.marks = omega (arith, going_length, g.within) in
      let e : drop a d.marks ≡ [] = ap (λ (x : ℕ). drop x d.marks) z ∙ drop-length d.marks in
      none_more (rw (e, take-nil {A = ℕ} (budget - count)))

-- the step: refused, and done
module _ (head : Head) (t : Tables) (d : LiveDisk) (n : ℕ) where
  pub copied_refused : (x : ℕ) → x ≡ live_check_of head t d → (x ≡ 0 → ⊥) → Copies (copy_step_of head t d n) d (record { refusal = x; count = 0 }) d
  unfolding copy_step_of copy_step
  copied_refused x e ne =
      case (whole_tables t)
      (λ w.
      let c : live_check (live_of head t d) ≡ x = sym (whole_check head t d w) ∙ sym e in
      rw (w, ne_eqb (live_check (live_of head t d)) 0 (λ z. ne (sym c ∙ z)), c) (record { report = refl; disk = refl; turned = omega arith }))
      (λ w. let z : x ≡ 1 = e ∙ odd_check head t d w in rw (w, z) (record { report = refl; disk = refl; turned = omega arith }))

  pub copied_done : live_check_of head t d ≡ 0 → {count : ℕ} {d' : LiveDisk} → CopiesPages (store_of head t) d n count d'
      → Copies (copy_step_of head t d n) d (record { refusal = 0; count = count }) d'
  unfolding copy_step_of copy_step
  copied_done e {count} {d'} h =
      let c : live_check (live_of head t d) ≡ 0 = sym (whole_check head t d (passed_whole head t d e)) ∙ e in
      let left : length (stale d') ≡ length (drop n (stale d)) = ap (λ (x : LiveDisk). length (stale x)) h.disk ∙ ap length (copied_left (store_of head t) n d) in
      rw (passed_whole head t d e, c)
      (record {
        report = rw h.counted;
        disk = h.disk;
        turned = omega (arith, h.counted, left, length-take n (stale d), length-drop n (stale d));
      })
