-- What holds of a live disk behind a store: its sizes, and that a current page is the page of a read at now.
use Prim.Native.Nat.{ℕ, ◌+◌, ◌*◌, ◌≤◌, ◌<◌}
use mathlib.Core.Path.{◌≡◌, refl, sym, ap, subst, ◌∙◌}
use mathlib.Core.Logic.{◌≢◌}
use mathlib.Core.List.{List, []}
use mathlib.Core.Option.{Option, some, none}
use mathlib.Core.Bool.{Bool, true, false, cond, ◌&&◌, false≢true}
use native.Mathlib.Omega.{arith}
use lib.Dec.{ltb, eqb}
use lib.ListN.{length, get_or, set, length-set, length-map}
use lib.Seq.{get_or-set_same, get_or-set_other}
use borrow.Author.Tests.{ltb-true, eqb-true, eqb-false, eq-eqb, ne_eqb}
use Rattle.model.specs.declared.Record.{Record}
use Rattle.model.specs.Store.{Store, open_end, Page, page_at, found_page}
use Rattle.model.specs.Lookup.{lookup}
use Rattle.model.specs.Soundness.{table_check}
use Rattle.model.specs.Wire.{Request, write, mark, revert, read_at, reclaim, give, withdraw}
use Rattle.model.specs.Step.{step, do_write}
use Rattle.model.specs.Reference.{Snapshot, accept, feed}
use Rattle.model.specs.Demand3.{refuses}
use Rattle.model.specs.ByNumber.{Sound, Whole}
use Rattle.model.proofs.Base.{case, and→, readable_above}
use Rattle.model.proofs.Pages.{length_with_page, page_same, page_other}
use Rattle.model.proofs.Invariant.{sound_check, Inv, reference_of}
use Rattle.model.proofs.Checked.{check_sound}
use Rattle.model.proofs.Moves.{Stepping, same_inv}
use Rattle.model.proofs.Steps.{step_inv, found_page_lem}
use Rattle.live.specs.Live.{LiveDisk, Live, is_current, is_blank, mark_of, marks_small, disk_check, live_check, put_page, staled, follows, following, found_now, brought_as, brought}
use Rattle.live.specs.LiveDemand.{bytes_of}
use Rattle.live.specs.Fit.{Sized, Fit}
use Rattle.live.proofs.Stale.{small_set, small_staled, all_staled}

-- the bytes of the page of a read at now; empty where that finds none
unfoldable pub page_now : Store → ℕ → List ℕ
page_now s a = bytes_of (found_page s.slab (found_now s a))

-- what the disk itself has for an address: nothing where the page is blank
abbrev pub disk_page : LiveDisk → ℕ → List ℕ
disk_page d a = cond (is_blank (mark_of d a)) [] (page_at d.bytes a)

-- a current page is that of a read at now
abbrev pub Faithful : Store → LiveDisk → Type 0
Faithful s d = (a : ℕ) → a < s.head.size → is_current (mark_of d a) ≡ true → disk_page d a ≡ page_now s a

-- the checks, both ways
pub sized_checks : (size : ℕ) (d : LiveDisk) → Sized size d → disk_check size d ≡ 0
unfolding disk_check
sized_checks size d z = rw (eq-eqb _ _ z.bytes, eq-eqb _ _ z.marks, z.small)

pub checks_sized : (size : ℕ) (d : LiveDisk) → disk_check size d ≡ 0 → Sized size d
unfolding disk_check
checks_sized size d e =
    case (eqb (length d.bytes) (256 * size) && (eqb (length d.marks) size && marks_small d.marks))
    (λ c.
    let p : (eqb (length d.bytes) (256 * size) ≡ true) × ((eqb (length d.marks) size && marks_small d.marks) ≡ true) = and→ _ _ c in
    let q : (eqb (length d.marks) size ≡ true) × (marks_small d.marks ≡ true) = and→ _ _ p.1 in
    record { bytes = eqb-true _ _ p.0; marks = eqb-true _ _ q.0; small = q.1 })
    (λ c. let z : 18 ≡ 0 = rw c at e in absurd (omega arith))

pub fit_checks : (l : Live) → Fit l.store l.disk → live_check l ≡ 0
unfolding live_check
fit_checks l f = rw (sound_check l.store f.sound, sized_checks l.store.head.size l.disk f.sized)

pub checks_two : (l : Live) → live_check l ≡ 0 → (table_check l.store ≡ 0) × (disk_check l.store.head.size l.disk ≡ 0)
unfolding live_check
checks_two l e =
    case (eqb (table_check l.store) 0)
    (λ c. (eqb-true _ _ c, rw c at e))
    (λ c. absurd (eqb-false (table_check l.store) 0 c (rw c at e)))

-- 18 or 0; what the table checks refuse is refused so
pub disk_stops : (size : ℕ) (d : LiveDisk) → (disk_check size d ≡ 0 → ⊥) → disk_check size d ≡ 18
unfolding disk_check
disk_stops size d ne =
    case (eqb (length d.bytes) (256 * size) && (eqb (length d.marks) size && marks_small d.marks)) (λ c. absurd (ne (rw c))) (λ c. rw c)

pub tables_are : (l : Live) → (table_check l.store ≡ 0 → ⊥) → table_check l.store ≡ live_check l
unfolding live_check
tables_are l ne = rw (ne_eqb (table_check l.store) 0 ne)

pub disk_first : (l : Live) (n : ℕ) → table_check l.store ≡ 0 → live_check l ≡ n → (n ≡ 0 → ⊥) → n ≡ 18
unfolding live_check
disk_first l n t e ne =
    let g : disk_check l.store.head.size l.disk ≡ n = rw t at e in
    sym g ∙ disk_stops l.store.head.size l.disk (λ z. ne (sym g ∙ z))

pub checks_fit : (l : Live) → l.store.head.now ≤ open_end → live_check l ≡ 0 → Fit l.store l.disk
checks_fit l n e =
    let c : (table_check l.store ≡ 0) × (disk_check l.store.head.size l.disk ≡ 0) = checks_two l e in
    record { sound = check_sound l.store n c.0; sized = checks_sized _ l.disk c.1 }

-- the store's own snapshots
abbrev own : Store → ℕ → Snapshot
own s t a = found_page s.slab (lookup s a t)

stepping : (s : Store) (q : Request) → Sound s → Whole q → Stepping s (reference_of s (own s)) q (step s q)
stepping s q h w = step_inv s (reference_of s (own s)) q (same_inv s (own s) h (λ a t i j. refl)) w

pub step_size : (s : Store) (q : Request) → Sound s → Whole q → (step s q).store.head.size ≡ s.head.size
step_size s q h w = (stepping s q h w).size

-- what a read at now finds after a request: what the reference's last snapshot has
abbrev fed_now : Store → Request → Bool → ℕ → Option Page
fed_now s q b a = (feed (reference_of s (own s)) q b).snapshot (feed (reference_of s (own s)) q b).now a

now_found : (s : Store) (q : Request) (b : Bool) → Sound s → Whole q → refuses (step s q).answer ≡ b → (a : ℕ)
    → page_now (step s q).store a ≡ bytes_of (fed_now s q b a)
unfolding page_now
now_found s q b h w e a =
    let t : Stepping s (reference_of s (own s)) q (step s q) = stepping s q h w in
    let v : Inv (step s q).store (feed (reference_of s (own s)) q b) = subst (λ (x : Bool). Inv (step s q).store (feed (reference_of s (own s)) q x)) e t.inv in
    ap bytes_of (v.reads a (step s q).store.head.now (readable_above _ _ _ v.sound.sizes.floor_now) (omega arith)
    ∙ ap (λ (x : ℕ). (feed (reference_of s (own s)) q b).snapshot x a) v.now)

-- a refused request, and one that is no write and no revert, leaves the page of a read at now
abbrev Still : Request → Type 0
Still (write a page) = ⊥
Still mark = Unit {0}
Still (revert m w) = ⊥
Still (read_at a m) = Unit {0}
Still (reclaim m) = Unit {0}
Still (give n) = Unit {0}
Still (withdraw high low) = Unit {0}

fed_refused : (s : Store) (q : Request) (a : ℕ) → bytes_of (fed_now s q true a) ≡ page_now s a
unfolding feed page_now
fed_refused s q a = refl

fed_still : (s : Store) (q : Request) → Still q → (a : ℕ) → bytes_of (fed_now s q false a) ≡ page_now s a
unfolding feed accept page_now
fed_still s (write b page) h a = absurd h
fed_still s mark h a = rw (eq-eqb (s.head.now + 1) (s.head.now + 1) refl)
fed_still s (revert m w) h a = absurd h
fed_still s (read_at b m) h a = refl
fed_still s (reclaim m) h a = refl
fed_still s (give n) h a = refl
fed_still s (withdraw high low) h a = refl

fed_write : (s : Store) (b : ℕ) (page : List ℕ) (a : ℕ) → bytes_of (fed_now s (write b page) false a) ≡ cond (eqb a b) page (page_now s a)
unfolding feed accept page_now
fed_write s b page a =
    case (eqb a b)
    (λ e. rw (eq-eqb s.head.now s.head.now refl, e))
    (λ e. rw (eq-eqb s.head.now s.head.now refl, e))

-- an accepted write is to an address of the volume
pub write_inside : (s : Store) (a : ℕ) (page : List ℕ) → (step s (write a page)).answer.refusal ≡ 0 → a < s.head.size
unfolding step do_write
write_inside s a page e =
    case (ltb a s.head.size)
    (λ c. ltb-true a s.head.size c)
    (λ c. let z : 4 ≡ 0 = rw c at e in absurd (omega arith))

-- a page put on the disk
module _ {size : ℕ} {d : LiveDisk} (z : Sized size d) (a : ℕ) (page : List ℕ) (inside : a < size) (whole : length page ≡ 256) where
  put_sized : Sized size (put_page d a page)
  put_sized =
      record {
        bytes = length_with_page d.bytes a page whole (omega (arith, z.bytes)) ∙ z.bytes;
        marks = length-set d.marks a 1 ∙ z.marks;
        small = small_set d.marks a 1 (omega arith) z.small;
      }

  put_same : disk_page (put_page d a page) a ≡ page
  put_same = rw (get_or-set_same d.marks a 1 0 (omega (arith, z.marks))) (page_same d.bytes a page whole (omega (arith, z.bytes)))

  put_other : (b : ℕ) → b ≢ a → disk_page (put_page d a page) b ≡ disk_page d b
  put_other b ne = rw (get_or-set_other d.marks a b 1 0 ne, page_other d.bytes a page whole (omega (arith, z.bytes)) b ne)

-- the disk after a request to the store
abbrev pub asked : Store → LiveDisk → Request → LiveDisk
asked s d q = following d q (step s q).answer.refusal

-- the sizes, after a request
sized_follows : (s : Store) (d : LiveDisk) (q : Request) → Fit s d → Whole q → (step s q).answer.refusal ≡ 0 → Sized s.head.size (follows d q)
sized_follows s d (write a page) f w e = put_sized f.sized a page (write_inside s a page e) w
sized_follows s d mark f w e = f.sized
sized_follows s d (revert m o) f w e =
    record { bytes = f.sized.bytes; marks = length-map d.marks staled ∙ f.sized.marks; small = small_staled d.marks f.sized.small }
sized_follows s d (read_at a m) f w e = f.sized
sized_follows s d (reclaim m) f w e = f.sized
sized_follows s d (give n) f w e = f.sized
sized_follows s d (withdraw high low) f w e = f.sized

sized_following : (s : Store) (d : LiveDisk) (q : Request) → Fit s d → Whole q → Sized s.head.size (asked s d q)
sized_following s d q f w =
    case (eqb (step s q).answer.refusal 0)
    (λ e. rw e (sized_follows s d q f w (eqb-true _ _ e)))
    (λ e. rw e f.sized)

pub fit_step : (s : Store) (d : LiveDisk) (q : Request) → Fit s d → Whole q → Fit (step s q).store (asked s d q)
fit_step s d q f w =
    let t : Stepping s (reference_of s (own s)) q (step s q) = stepping s q f.sound w in
    record { sound = t.inv.sound; sized = rw t.size (sized_following s d q f w) }

-- faithful, after an accepted request and after a refused one
faithful_follows : (s : Store) (d : LiveDisk) (q : Request) → Fit s d → Whole q → Faithful s d → (step s q).answer.refusal ≡ 0 → (b : ℕ)
    → b < s.head.size → is_current (mark_of (follows d q) b) ≡ true → disk_page (follows d q) b ≡ bytes_of (fed_now s q false b)
faithful_follows s d (write a page) f w h e b i c =
    case (eqb b a)
    (λ g.
    let q : b ≡ a = eqb-true b a g in
    rw (fed_write s a page b, g) (rw q (put_same f.sized a page (write_inside s a page e) w)))
    (λ g.
    let ne : b ≢ a = eqb-false b a g in
    let c' : is_current (mark_of d b) ≡ true = rw (get_or-set_other d.marks a b 1 0 ne) at c in
    rw (fed_write s a page b, g) (put_other f.sized a page (write_inside s a page e) w b ne ∙ h b i c'))
faithful_follows s d mark f w h e b i c = h b i c ∙ sym (fed_still s mark tt b)
faithful_follows s d (revert m o) f w h e b i c = absurd (false≢true (sym (all_staled d.marks b) ∙ c))
faithful_follows s d (read_at a m) f w h e b i c = h b i c ∙ sym (fed_still s (read_at a m) tt b)
faithful_follows s d (reclaim m) f w h e b i c = h b i c ∙ sym (fed_still s (reclaim m) tt b)
faithful_follows s d (give n) f w h e b i c = h b i c ∙ sym (fed_still s (give n) tt b)
faithful_follows s d (withdraw high low) f w h e b i c = h b i c ∙ sym (fed_still s (withdraw high low) tt b)

pub faithful_step : (s : Store) (d : LiveDisk) (q : Request) → Fit s d → Whole q → Faithful s d → Faithful (step s q).store (asked s d q)
faithful_step s d q f w h b i c =
    let j : b < s.head.size = omega (arith, i, step_size s q f.sound w) in
    case (eqb (step s q).answer.refusal 0)
    (λ e.
    let n : refuses (step s q).answer ≡ false = rw e in
    let c' : is_current (mark_of (follows d q) b) ≡ true = rw e at c in
    rw (now_found s q false f.sound w n b, e) (faithful_follows s d q f w h (eqb-true _ _ e) b j c'))
    (λ e.
    let n : refuses (step s q).answer ≡ true = rw e in
    let c' : is_current (mark_of d b) ≡ true = rw e at c in
    rw (now_found s q true f.sound w n b, e, fed_refused s q b) (h b j c'))

-- a page brought to date
whole_found : (s : Store) → Sound s → (a : ℕ) (r : Record) → found_now s a ≡ some r → length (page_at s.slab r.place) ≡ 256
whole_found s h a r e = (found_page_lem s h a s.head.now (some r) e).0

module _ (s : Store) (d : LiveDisk) (f : Fit s d) (a : ℕ) (i : a < s.head.size) where
  fit_by : (o : Option Record) → found_now s a ≡ o → Fit s (brought_as d a s.slab o)
  fit_by none e =
      record {
        sound = f.sound;
        sized =
            record {
              bytes = f.sized.bytes;
              marks = length-set d.marks a 3 ∙ f.sized.marks;
              small = small_set d.marks a 3 (omega arith) f.sized.small;
            };
      }
  fit_by (some r) e = record { sound = f.sound; sized = put_sized f.sized a _ i (whole_found s f.sound a r e) }

  pub fit_brought : Fit s (brought s d a)
  unfolding brought
  fit_brought = fit_by (found_now s a) refl

  faithful_by : Faithful s d → (o : Option Record) → found_now s a ≡ o → Faithful s (brought_as d a s.slab o)
  unfolding page_now
  faithful_by h none e b j c =
      case (eqb b a)
      (λ g.
      let q : b ≡ a = eqb-true b a g in
      rw (q, get_or-set_same d.marks a 3 0 (omega (arith, f.sized.marks)), e))
      (λ g.
      let ne : b ≢ a = eqb-false b a g in
      let k : get_or (set d.marks a 3) b 0 ≡ mark_of d b = get_or-set_other d.marks a b 3 0 ne in
      let c' : is_current (mark_of d b) ≡ true = rw k at c in
      rw k (h b j c'))
  faithful_by h (some r) e b j c =
      case (eqb b a)
      (λ g.
      let q : b ≡ a = eqb-true b a g in
      rw (q, e) (put_same f.sized a _ i (whole_found s f.sound a r e)))
      (λ g.
      let ne : b ≢ a = eqb-false b a g in
      let c' : is_current (mark_of d b) ≡ true = rw (get_or-set_other d.marks a b 1 0 ne) at c in
      put_other f.sized a _ i (whole_found s f.sound a r e) b ne ∙ h b j c')

  pub faithful_brought : Faithful s d → Faithful s (brought s d a)
  unfolding brought
  faithful_brought h = faithful_by h (found_now s a) refl
