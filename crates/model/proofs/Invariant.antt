-- The invariant: sound tables, as statements, and a store against the reference of snapshots.
use Prim.Native.Nat.{ℕ, suc, ◌+◌, ◌*◌, ◌≤◌}
use mathlib.Core.Path.{◌≡◌, refl}
use mathlib.Core.Logic.{inl, inr}
use mathlib.Core.List.{List, [], ◌∷◌, map}
use mathlib.Core.Bool.{true, ◌&&◌, ◌||◌}
use lib.Dec.{leb, eqb}
use lib.ListN.{length, get_or}
use borrow.Author.Tests.{leb-false, lt-ltb, le-leb, eq-eqb}
use Rattle.model.specs.declared.Branch.{Branch}
use Rattle.model.specs.declared.Record.{Record}
use Rattle.model.specs.Store.{Store, newest, records, names, open_end, found_page, ◌∈◌}
use Rattle.model.specs.Lookup.{lookup, readable}
use Rattle.model.specs.Soundness.{between, sizes_allowed, in_range, chained, open_row, branches_sound, names_sound, rows_sound, ascending, by_itself, placed, used, records_sound, table_check}
use Rattle.model.specs.Reference.{Snapshot, Reference}
use Rattle.model.proofs.Base.{case, →and, →or₂}
use Rattle.model.specs.Demand3.{key}
use Rattle.model.specs.ByNumber.{Asc, Link, Chain, SoundRows, Named, Allowed, Sizes, Fits, ByItself, Sound}
use Rattle.model.proofs.Names.{→names}

-- such a store passes the table checks
pub →chained : (floor : ℕ) (bs : List Branch) → Chain floor bs → chained floor bs ≡ true
unfolding chained
→chained floor [] h = absurd h
→chained floor (b ∷ []) h = →and (eq-eqb b.start 0 h.start) (→and (eq-eqb b.cut 0 h.cut) (→and (eq-eqb b.order 0 h.order) (le-leb b.start b.end h.ordered)))
→chained floor (b ∷ c ∷ bs) h =
    let l : Link floor b c bs = h.0 in
    →and (le-leb b.start b.end l.ordered)
    (→and (lt-ltb c.end b.start l.after)
    (→and (follows l) (→and l.parent (→and (le-leb b.order 65535 l.order) (→chained floor (c ∷ bs) h.1)))))
  where
    follows : Link floor b c bs → (eqb b.start (c.end + 1) || leb b.start floor) ≡ true
    follows l =
        case (leb b.start floor)
        (λ e. →or₂ (eqb b.start (c.end + 1)) e)
        (λ e. rw (eq-eqb b.start (c.end + 1) (l.follows (leb-false b.start floor e))))

pub →open : (floor now : ℕ) (bs : List Branch) → SoundRows floor now bs → (open_row now bs && chained floor bs) ≡ true
→open floor now [] h = absurd h
→open floor now (b ∷ bs) h =
    →and (→and (eq-eqb b.end open_end h.0.still) (le-leb b.start now h.0.begun)) (→chained floor (b ∷ bs) h.1)

pub →ascending : (rs : List Record) → Asc rs → ascending rs ≡ true
unfolding ascending
→ascending [] h = refl
→ascending (r ∷ []) h = refl
→ascending (r ∷ q ∷ rs) h = →and (h.0 q (inl refl)) (→ascending (q ∷ rs) h.1)

pub →itself : (s : Store) (i : ℕ) (r : Record) → ByItself s i r → by_itself s i r ≡ true
unfolding by_itself
→itself s i r h =
    →and (lt-ltb r.address s.head.size h.fits.address)
    (→and (le-leb r.moment s.head.now h.fits.moment)
    (→and h.fits.held
    (→and (lt-ltb r.place (length s.place_rows) h.inside) (eq-eqb (get_or s.place_rows r.place 0) i h.named))))

pub →placed : (s : Store) (i : ℕ) (rs : List Record) → ((r : Record) → r ∈ rs → Fits s.head.size s.head.now (newest s) r)
    → Named s.place_rows i rs → placed s i rs ≡ true
unfolding placed
→placed s i [] f n = refl
→placed s i (r ∷ rs) f n =
    →and (→itself s i r (record { fits = f r (inl refl); inside = n.0; named = n.1 })) (→placed s (suc i) rs (λ q m. f q (inr m)) n.2)

pub →between : (lo hi n : ℕ) → lo ≤ n → n ≤ hi → between lo hi n ≡ true
→between lo hi n l h = →and (le-leb lo n l) (le-leb n hi h)

pub →sizes : (size nb nr np nn ns : ℕ) → Allowed size nb nr np nn ns → sizes_allowed size nb nr np nn ns ≡ true
unfolding sizes_allowed
→sizes size nb nr np nn ns z =
    →and (→between 1 65536 size z.size_low z.size_high)
    (→and (→between 1 4096 nb z.branches_low z.branches_high)
    (→and (→between 1 65536 nr z.records_low z.records_high)
    (→and (→between 1 65536 np z.places_low z.places_high) (→and (eq-eqb nn 32 z.name_rows) (eq-eqb ns (256 * np) z.slab)))))

pub →in_range : (s : Store) → Sizes s → in_range s ≡ true
unfolding in_range
→in_range s z =
    →and (→sizes _ _ _ _ _ _ z.allowed)
    (→and (→between 1 (length s.branch_rows) s.head.branches z.counted_low z.counted_high)
    (→and (le-leb s.head.records (length s.record_rows) z.records_counted)
    (→and (le-leb s.head.names 32 z.names_counted) (le-leb s.head.floor s.head.now z.floor_now))))

pub sound_check : (s : Store) → Sound s → table_check s ≡ 0
unfolding table_check rows_sound branches_sound records_sound
sound_check s h =
    let a : in_range s ≡ true = →in_range s h.sizes in
    let b : ((open_row s.head.now (newest s) && chained s.head.floor (newest s)) && names_sound s.head.now (newest s) (names s)) ≡ true =
    →and (→open _ _ (newest s) h.rows) (→names s.head.now (newest s) (names s) h.names) in
    let c : (ascending (records s) && (placed s 1 (records s) && eqb (used s.place_rows) s.head.records)) ≡ true =
    →and (→ascending (records s) h.ascends)
    (→and (→placed s 1 (records s) h.fits h.named) (eq-eqb (used s.place_rows) s.head.records h.in_use)) in
    rw (a, b, c)

abbrev pub Reads : Store → (ℕ → Snapshot) → Type 0
Reads s snaps = (a t : ℕ) → readable s t ≡ true → t ≤ s.head.now → found_page s.slab (lookup s a t) ≡ snaps t a

pub record Inv (s : Store) (p : Reference) : Type 0 where
  pub sound : Sound s
  pub now : s.head.now ≡ p.now
  pub floor : s.head.floor ≡ p.floor
  pub names : names s ≡ p.names
  pub held : map key (records s) ≡ p.held
  pub reads : Reads s p.snapshot

-- the reference that a store stands for, with its snapshots
abbrev pub reference_of : Store → (ℕ → Snapshot) → Reference
reference_of s snaps = record { now = s.head.now; floor = s.head.floor; names = names s; snapshot = snaps; held = map key (records s) }

pub canon : (s : Store) (p : Reference) → Inv s p → reference_of s p.snapshot ≡ p
canon s p v = λ i. record { now = v.now i; floor = v.floor i; names = v.names i; snapshot = p.snapshot; held = v.held i }
