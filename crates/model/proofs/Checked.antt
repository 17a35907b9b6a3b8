-- The other ancestry round: a store that passes the table checks is sound.
use Prim.Native.Nat.{ℕ, suc, ◌+◌, ◌*◌, ◌≤◌}
use mathlib.Core.Path.{◌≡◌}
use mathlib.Core.Logic.{inl, inr}
use mathlib.Core.List.{List, [], ◌∷◌}
use mathlib.Core.Bool.{true, ◌&&◌, ◌||◌, false≢true}
use native.Mathlib.Omega.{arith}
use lib.Dec.{leb, ltb, eqb}
use lib.ListN.{length, get_or}
use borrow.Author.Tests.{ltb-true, leb-true, eqb-true}
use Rattle.model.specs.declared.Branch.{Branch}
use Rattle.model.specs.declared.Record.{Record}
use Rattle.model.specs.Store.{Store, newest, records, names, any, open_end, ◌∈◌}
use Rattle.model.specs.Lookup.{holds}
use Rattle.model.specs.Soundness.{sizes_allowed, lent_allowed, between, in_range, chained, open_row, branches_sound, names_sound, rows_sound, precedes, ascending, by_itself, placed, used, records_sound, table_check}
use Rattle.model.proofs.Base.{case, and→, or→}
use Rattle.model.proofs.Latest.{precedes_trans}
use Rattle.model.proofs.Names.{names→}
use Rattle.model.specs.ByNumber.{Asc, Chain, SoundRows, Named, Allowed, Sizes, Fits, ByItself, Sound}

pub chained→ : (floor : ℕ) (bs : List Branch) → chained floor bs ≡ true → Chain floor bs
unfolding chained
chained→ floor [] e = absurd (false≢true e)
chained→ floor (b ∷ []) e =
    let p : (eqb b.start 0 ≡ true) × ((eqb b.cut 0 && (eqb b.order 0 && leb b.start b.end)) ≡ true) = and→ _ _ e in
    let q : (eqb b.cut 0 ≡ true) × ((eqb b.order 0 && leb b.start b.end) ≡ true) = and→ _ _ p.1 in
    let r : (eqb b.order 0 ≡ true) × (leb b.start b.end ≡ true) = and→ _ _ q.1 in
    record { start = eqb-true _ _ p.0; cut = eqb-true _ _ q.0; order = eqb-true _ _ r.0; ordered = leb-true _ _ r.1 }
chained→ floor (b ∷ c ∷ bs) e =
    let p : (leb b.start b.end ≡ true) × ((ltb c.end b.start && ((eqb b.start (c.end + 1) || leb b.start floor) && (any (λ d. holds d b.cut) (c ∷ bs) && (leb b.order 65535 && chained floor (c ∷ bs))))) ≡ true) = and→ _ _ e in
    let q : (ltb c.end b.start ≡ true) × (((eqb b.start (c.end + 1) || leb b.start floor) && (any (λ d. holds d b.cut) (c ∷ bs) && (leb b.order 65535 && chained floor (c ∷ bs)))) ≡ true) = and→ _ _ p.1 in
    let r : ((eqb b.start (c.end + 1) || leb b.start floor) ≡ true) × ((any (λ d. holds d b.cut) (c ∷ bs) && (leb b.order 65535 && chained floor (c ∷ bs))) ≡ true) = and→ _ _ q.1 in
    let t : (any (λ d. holds d b.cut) (c ∷ bs) ≡ true) × ((leb b.order 65535 && chained floor (c ∷ bs)) ≡ true) = and→ _ _ r.1 in
    let u : (leb b.order 65535 ≡ true) × (chained floor (c ∷ bs) ≡ true) = and→ _ _ t.1 in (
      record {
        ordered = leb-true _ _ p.0;
        after = ltb-true _ _ q.0;
        follows =
            λ l.
            elim (or→ (eqb b.start (c.end + 1)) (leb b.start floor) r.0) [
              | inl x ↦ eqb-true _ _ x
              | inr x ↦ let y : b.start ≤ floor = leb-true _ _ x in absurd (omega arith)
            ];
        parent = t.0;
        order = leb-true _ _ u.0;
      },
      chained→ floor (c ∷ bs) u.1,
    )

pub open→ : (floor now : ℕ) (bs : List Branch) → (open_row now bs && chained floor bs) ≡ true → SoundRows floor now bs
open→ floor now [] e = absurd (false≢true e)
open→ floor now (b ∷ bs) e =
    let p : ((eqb b.end open_end && leb b.start now) ≡ true) × (chained floor (b ∷ bs) ≡ true) = and→ _ _ e in
    let q : (eqb b.end open_end ≡ true) × (leb b.start now ≡ true) = and→ _ _ p.0 in
    (record { still = eqb-true _ _ q.0; begun = leb-true _ _ q.1 }, chained→ floor (b ∷ bs) p.1)

pub ascending→ : (rs : List Record) → ascending rs ≡ true → Asc rs
unfolding ascending
ascending→ [] e = tt
ascending→ (r ∷ []) e = (λ q m. absurd m, tt)
ascending→ (r ∷ q ∷ rs) e =
    let p : (precedes r q ≡ true) × (ascending (q ∷ rs) ≡ true) = and→ _ _ e in
    let ih : Asc (q ∷ rs) = ascending→ (q ∷ rs) p.1 in
    (λ x m. elim m [ inl d ↦ rw d p.0 | inr n ↦ precedes_trans r q x p.0 (ih.0 x n) ], ih)

pub itself→ : (s : Store) (i : ℕ) (r : Record) → by_itself s i r ≡ true → ByItself s i r
unfolding by_itself
itself→ s i r e =
    let a : (ltb r.address s.head.size ≡ true) × (_ ≡ true) = and→ _ _ e in
    let b : (leb r.moment s.head.now ≡ true) × (_ ≡ true) = and→ _ _ a.1 in
    let c : (any (λ d. holds d r.moment) (newest s) ≡ true) × (_ ≡ true) = and→ _ _ b.1 in
    let d : (ltb r.place (length s.place_rows) ≡ true) × (eqb (get_or s.place_rows r.place 0) i ≡ true) = and→ _ _ c.1 in
    record {
      fits = record { address = ltb-true _ _ a.0; moment = leb-true _ _ b.0; held = c.0 };
      inside = ltb-true _ _ d.0;
      named = eqb-true _ _ d.1;
    }

placed_row : (s : Store) (i : ℕ) (r : Record) (rs : List Record) → placed s i (r ∷ rs) ≡ true → ByItself s i r × (placed s (suc i) rs ≡ true)
unfolding placed
placed_row s i r rs e =
    let a : (by_itself s i r ≡ true) × (placed s (suc i) rs ≡ true) = and→ _ _ e in
    (itself→ s i r a.0, a.1)

pub placed→named : (s : Store) (i : ℕ) (rs : List Record) → placed s i rs ≡ true → Named s.place_rows i rs
placed→named s i [] e = tt
placed→named s i (r ∷ rs) e =
    let p : ByItself s i r × (placed s (suc i) rs ≡ true) = placed_row s i r rs e in
    (p.0.inside, p.0.named, placed→named s (suc i) rs p.1)

pub placed→fits : (s : Store) (i : ℕ) (rs : List Record) → placed s i rs ≡ true → (r : Record) → r ∈ rs → Fits s.head.size s.head.now (newest s) r
placed→fits s i [] e r x'' = elim x'' [ ]
placed→fits s i (q ∷ rs) e r (inl d) = rw d (placed_row s i q rs e).0.fits
placed→fits s i (q ∷ rs) e r (inr m) = placed→fits s (suc i) rs (placed_row s i q rs e).1 r m

pub between→ : (lo hi n : ℕ) → between lo hi n ≡ true → (lo ≤ n) × (n ≤ hi)
between→ lo hi n e =
    let p : (leb lo n ≡ true) × (leb n hi ≡ true) = and→ _ _ e in
    (leb-true _ _ p.0, leb-true _ _ p.1)

pub sizes→ : (size nb nr np nn ns : ℕ) → sizes_allowed size nb nr np nn ns ≡ true → Allowed size nb nr np nn ns
unfolding sizes_allowed
sizes→ size nb nr np nn ns e =
    let a : (between 1 65536 size ≡ true) × (_ ≡ true) = and→ _ _ e in
    let b : (between 1 4096 nb ≡ true) × (_ ≡ true) = and→ _ _ a.1 in
    let c : (between 1 65536 nr ≡ true) × (_ ≡ true) = and→ _ _ b.1 in
    let d : (between 1 65536 np ≡ true) × (_ ≡ true) = and→ _ _ c.1 in
    let f : (eqb nn 32 ≡ true) × (eqb ns (256 * np) ≡ true) = and→ _ _ d.1 in
    record {
      size_low = (between→ _ _ _ a.0).0;
      size_high = (between→ _ _ _ a.0).1;
      branches_low = (between→ _ _ _ b.0).0;
      branches_high = (between→ _ _ _ b.0).1;
      records_low = (between→ _ _ _ c.0).0;
      records_high = (between→ _ _ _ c.0).1;
      places_low = (between→ _ _ _ d.0).0;
      places_high = (between→ _ _ _ d.0).1;
      name_rows = eqb-true _ _ f.0;
      slab = eqb-true _ _ f.1;
    }

pub in_range→ : (s : Store) → s.head.now ≤ open_end → in_range s ≡ true → Sizes s
unfolding in_range
in_range→ s n e =
    let f : (lent_allowed s s.head.size ≡ true) × (_ ≡ true) = and→ _ _ e in
    let g : (between 1 (length s.branch_rows) s.head.branches ≡ true) × (_ ≡ true) = and→ _ _ f.1 in
    let h : (leb s.head.records (length s.record_rows) ≡ true) × (_ ≡ true) = and→ _ _ g.1 in
    let k : (leb s.head.names 32 ≡ true) × (leb s.head.floor s.head.now ≡ true) = and→ _ _ h.1 in
    record {
      allowed = sizes→ _ _ _ _ _ _ f.0;
      counted_low = (between→ _ _ _ g.0).0;
      counted_high = (between→ _ _ _ g.0).1;
      records_counted = leb-true _ _ h.0;
      names_counted = leb-true _ _ k.0;
      floor_now = leb-true _ _ k.1;
      now_high = n;
    }

pub record Checks (s : Store) : Type 0 where
  pub ranges : in_range s ≡ true
  pub rows : rows_sound s ≡ true
  pub tables : records_sound s ≡ true

pub checks : (s : Store) → table_check s ≡ 0 → Checks s
unfolding table_check
checks s e =
    case (in_range s)
    (λ a.
    case (rows_sound s)
    (λ b.
    case (records_sound s)
    (λ c. record { ranges = a; rows = b; tables = c })
    (λ c. let z : 3 ≡ 0 = rw (a, b, c) at e in absurd (omega arith)))
    (λ b. let z : 2 ≡ 0 = rw (a, b) at e in absurd (omega arith)))
    (λ a. let z : 1 ≡ 0 = rw a at e in absurd (omega arith))

-- now is a number of 32 bits
pub check_sound : (s : Store) → s.head.now ≤ open_end → table_check s ≡ 0 → Sound s
unfolding rows_sound branches_sound records_sound
check_sound s n e =
    let k : Checks s = checks s e in
    let c : ((open_row s.head.now (newest s) && chained s.head.floor (newest s)) ≡ true) × (names_sound s.head.now (newest s) (names s) ≡ true) = and→ _ _ k.rows in
    let a : (ascending (records s) ≡ true) × (_ ≡ true) = and→ _ _ k.tables in
    let b : (placed s 1 (records s) ≡ true) × (eqb (used s.place_rows) s.head.records ≡ true) = and→ _ _ a.1 in
    record {
      sizes = in_range→ s n k.ranges;
      rows = open→ s.head.floor s.head.now (newest s) c.0;
      names = names→ s.head.now (newest s) (names s) c.1;
      ascends = ascending→ (records s) a.0;
      fits = placed→fits s 1 (records s) b.0;
      named = placed→named s 1 (records s) b.0;
      in_use = eqb-true _ _ b.1;
    }
