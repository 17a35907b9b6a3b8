-- What a write keeps of the invariant.
use Prim.Native.Nat.{ℕ, zero, suc, ◌+◌, ◌*◌, ◌≤◌, ◌<◌}
use mathlib.Core.Path.{◌≡◌, refl, sym, ap, ap₂, ◌∙◌}
use mathlib.Core.Logic.{◌⊎◌, inl, inr, ◌≢◌}
use mathlib.Core.List.{List, [], ◌∷◌, ◌++◌, map}
use mathlib.Core.Option.{Option, some, none}
use mathlib.Core.Bool.{true, false, false≢true}
use native.Mathlib.Omega.{arith}
use lib.Dec.{ltb, eqb}
use lib.ListN.{length, get_or, set, take, drop, length-set, length-append, length-drop, length-map, take-append-drop}
use lib.Seq.{take_at, length-take-le}
use borrow.Author.Tests.{ltb-true, ltb-false, eqb-true, eqb-false}
use Rattle.model.specs.declared.Branch.{Branch}
use Rattle.model.specs.declared.Record.{Record}
use Rattle.model.specs.Store.{Store, branches, newest, records, names, any, open_end, page_at, with_page, found_page, ◌∈◌}
use Rattle.model.specs.Lookup.{holds, within, or_else, latest, lookup, readable}
use Rattle.model.specs.Soundness.{precedes}
use Rattle.model.specs.Wire.{write}
use Rattle.model.specs.Step.{unchanged, with_slab, first_free, shifted, before, put_in, inserted, do_write}
use Rattle.model.specs.Reference.{Snapshot, with_snapshot, with_page_at, hold, accept, feed}
use Rattle.model.proofs.Base.{case, absurd_test}
use Rattle.model.proofs.Latest.{case_option, Before, precedes→, →precedes, Within, not_within, latest→, latest_skip, latest_top, precedes_trans}
use Rattle.model.specs.ByNumber.{Falls, Asc, Open, SoundRows, find, Sizes, Sound}
use Rattle.model.proofs.Ancestry.{→holds, falls, any_head, find_hold, find_same, Found, find→}
use Rattle.model.proofs.Places.{named_mem, place_unique, first_free→, write_named, write_used}
use Rattle.model.proofs.Pages.{length_with_page, page_same, page_other}
use Rattle.model.specs.Demand3.{key}
use Rattle.model.specs.Packed.{SmallestFree}
use Rattle.model.proofs.Invariant.{Reads, Inv, reference_of}
use Rattle.model.proofs.Moves.{Stepping, refused_step_lem}

-- one of two records with different keys is before the other
either : (r q : Record) → (r.address ≡ q.address → r.moment ≡ q.moment → ⊥) → precedes r q ≡ false → precedes q r ≡ true
either r q ne e =
    case (ltb q.address r.address)
    (λ d. →precedes q r (inl (ltb-true _ _ d)))
    (λ d.
    let l : r.address ≤ q.address = ltb-false q.address r.address d in
    case (ltb r.address q.address)
    (λ c. absurd_test (→precedes r q (inl (ltb-true _ _ c))) e)
    (λ c.
    let g : q.address ≤ r.address = ltb-false r.address q.address c in
    let a : r.address ≡ q.address = omega arith in
    case (ltb r.moment q.moment)
    (λ b. absurd_test (→precedes r q (inr (a, ltb-true _ _ b))) e)
    (λ b.
    let i : q.moment ≤ r.moment = ltb-false r.moment q.moment b in
    let nm : r.moment ≢ q.moment = ne a in
    →precedes q r (inr (sym a, omega arith)))))

pub rows_falls : (floor now : ℕ) (bs : List Branch) → SoundRows floor now bs → Falls bs
rows_falls floor now [] h = absurd h
rows_falls floor now (b ∷ bs) h = falls floor (b ∷ bs) h.1

-- a record with_snapshot in
module _ (r : Record) where
  pub put_mem : (k : ℕ) (rs : List Record) (q : Record) → q ∈ put_in k r rs → (q ≡ r) ⊎ (q ∈ rs)
  put_mem zero rs q m = m
  put_mem (suc k) [] q m = m
  put_mem (suc k) (x ∷ rs) q (inl e) = inr (inl e)
  put_mem (suc k) (x ∷ rs) q (inr m) = elim (put_mem k rs q m) [ inl e ↦ inl e | inr n ↦ inr (inr n) ]

  mem_put : (k : ℕ) (rs : List Record) → r ∈ put_in k r rs
  mem_put zero rs = inl refl
  mem_put (suc k) [] = inl refl
  mem_put (suc k) (x ∷ rs) = inr (mem_put k rs)

  -- no record with its key
  abbrev New : List Record → Type 0
  New rs = (q : Record) → q ∈ rs → q.address ≡ r.address → q.moment ≡ r.moment → ⊥

  asc_put : (rs : List Record) → Asc rs → New rs → Asc (put_in (before r rs) r rs)
  unfolding before
  asc_put [] h n = (λ q m. absurd m, tt)
  asc_put (x ∷ rs) h n =
      case (precedes x r)
      (λ e.
      rw e (
        λ q m. elim (put_mem (before r rs) rs q m) [ inl p ↦ rw p e | inr p ↦ h.0 q p ],
        asc_put rs h.1 (λ q m. n q (inr m)),
      ))
      (λ e.
      let f : precedes r x ≡ true = either x r (n x (inl refl)) e in
      rw e (λ q m. elim m [ inl p ↦ rw p f | inr p ↦ precedes_trans r x q f (h.0 q p) ], h))

  hold_put : (rs : List Record) → New rs → map key (put_in (before r rs) r rs) ≡ hold (key r) (map key rs)
  unfolding before hold precedes
  hold_put [] n = refl
  hold_put (x ∷ rs) n =
      case (precedes x r)
      (λ e. rw (e, hold_put rs (λ q m. n q (inr m))))
      (λ e.
      let f : precedes r x ≡ true = either x r (n x (inl refl)) e in
      rw (e, f))

  pub before_le : (rs : List Record) → before r rs ≤ length rs
  unfolding before
  before_le [] = omega arith
  before_le (x ∷ rs) =
      let ih : before r rs ≤ length rs = before_le rs in
      case (precedes x r) (λ e. rw e (omega arith)) (λ e. rw e (omega arith))

precedes_irrefl : (r : Record) → precedes r r ≡ false
precedes_irrefl r =
    case (precedes r r)
    (λ e.
    let b : Before r r = precedes→ r r e in
    absurd (elim b.order [ inl p ↦ omega arith | inr p ↦ omega arith ]))
    (λ e. e)

hold_present : (r : Record) (rs : List Record) → Asc rs → r ∈ rs → hold (key r) (map key rs) ≡ map key rs
unfolding hold precedes
hold_present r [] h x'' = elim x'' [ ]
hold_present r (x ∷ rs) h (inl e) = rw (e, precedes_irrefl x)
hold_present r (x ∷ rs) h (inr m) = rw (h.0 r m, hold_present r rs h.1 m)

-- the newest row finds the record of this moment first
find_top : (rs : List Record) (a floor now : ℕ) (bs : List Branch) (r : Record) → now ≤ open_end → SoundRows floor now bs → Asc rs → r ∈ rs → r.address ≡ a → r.moment ≡ now
    → find rs a bs now ≡ some r
find_top rs a floor now [] r l h asc m ra rm = absurd h
find_top rs a floor now (b ∷ bs) r l h asc m ra rm =
    let o : Open now b = h.0 in
    let e : latest rs a b.start now ≡ some r = latest_top rs a b.start now r asc m ra rm (omega arith) in
    find_hold rs a b bs now (→holds b now (omega arith) (omega arith)) ∙ ap (λ (x : Option Record). or_else x (find rs a bs b.cut)) e

pub newest_holds : (floor now : ℕ) (bs : List Branch) → now ≤ open_end → SoundRows floor now bs → any (λ d. holds d now) bs ≡ true
newest_holds floor now [] l h = absurd h
newest_holds floor now (b ∷ bs) l h =
    let o : Open now b = h.0 in
    any_head b bs now (→holds b now (omega arith) (omega arith))

pub found_page_same : (slab slab' : List ℕ) (o : Option Record) → ((q : Record) → o ≡ some q → page_at slab' q.place ≡ page_at slab q.place) → found_page slab' o ≡ found_page slab o
found_page_same slab slab' none h = refl
found_page_same slab slab' (some q) h = ap (λ (x : List ℕ). some (record { bytes = x; moment = q.moment })) (h q refl)

-- snapshot now gets the page, and nothing else changes
write_reads : (s : Store) (snaps : ℕ → Snapshot) (a : ℕ) (page : List ℕ) (look : ℕ → ℕ → Option Record) (slab' : List ℕ) (r : Record)
    → Reads s snaps → look a s.head.now ≡ some r → page_at slab' r.place ≡ page → r.moment ≡ s.head.now
    → ((b t : ℕ) → t ≤ s.head.now → (b ≡ a → t ≡ s.head.now → ⊥) → found_page slab' (look b t) ≡ found_page s.slab (lookup s b t))
    → (b t : ℕ) → readable s t ≡ true → t ≤ s.head.now
    → found_page slab' (look b t) ≡ with_snapshot snaps s.head.now (with_page_at (snaps s.head.now) a (record { bytes = page; moment = s.head.now })) t b
write_reads s snaps a page look slab' r old hit pg rm other b t i j =
    case (eqb t s.head.now)
    (λ e.
    let et : t ≡ s.head.now = eqb-true t s.head.now e in
    case (eqb b a)
    (λ d.
    let eb : b ≡ a = eqb-true b a d in
    let l : look b t ≡ some r = ap₂ look eb et ∙ hit in
    rw (e, d, l, pg, rm))
    (λ d. rw (e, d) (other b t j (λ p q. eqb-false b a d p) ∙ (old b t i j ∙ ap (λ (x : ℕ). snaps x b) et))))
    (λ e. rw e (other b t j (λ p q. eqb-false t s.head.now e q) ∙ old b t i j))

overwrite_inv : (s : Store) (snaps : ℕ → Snapshot) (a : ℕ) (page : List ℕ) (r : Record) → Sound s → Reads s snaps → length page ≡ 256
    → latest (records s) a s.head.now s.head.now ≡ some r
    → Inv (with_slab s (with_page s.slab r.place page)) (accept (reference_of s snaps) (write a page))
unfolding accept records newest branches names lookup
overwrite_inv s snaps a page r h rd w e =
    let z : Sizes s = h.sizes in
    let l : (r ∈ records s) × Within a s.head.now s.head.now r = latest→ (records s) a _ _ r e in
    let n : (r.place < length s.place_rows) × (1 ≤ get_or s.place_rows r.place 0) = named_mem s.place_rows 1 (records s) r h.named l.0 in
    let fits : 256 * r.place + 256 ≤ length s.slab = omega arith in
    let len : length (with_page s.slab r.place page) ≡ length s.slab = length_with_page s.slab r.place page w fits in
    let ra : r.address ≡ a = l.1.at in
    let rm : r.moment ≡ s.head.now = omega (arith, l.1) in
    record {
      sound =
          record {
            sizes = omega arith;
            rows = h.rows;
            names = h.names;
            ascends = h.ascends;
            fits = h.fits;
            named = h.named;
            in_use = h.in_use;
          };
      now = refl;
      floor = refl;
      names = refl;
      held = rw (← ra, ← rm) (sym (hold_present r (records s) h.ascends l.0));
      reads =
          write_reads s snaps a page (lookup s) (with_page s.slab r.place page) r rd
          (find_top (records s) a _ _ (newest s) r z.now_high h.rows h.ascends l.0 ra rm)
          (page_same s.slab r.place page w fits)
          rm
          (λ b t j ne.
          found_page_same s.slab (with_page s.slab r.place page) (lookup s b t)
          (λ q f.
          let g : Found (records s) b t (newest s) q = find→ (records s) b (newest s) (rows_falls _ _ (newest s) h.rows) t q f in
          page_other s.slab r.place page w fits q.place
          (λ p.
          let qr : q ≡ r = place_unique s.place_rows 1 (records s) q r h.named g.counted l.0 p in
          let qa : q.address ≡ a = rw qr ra in
          let qm : q.moment ≡ s.head.now = rw qr rm in
          ne (sym g.at ∙ qa) (omega (arith, g.up_to)))));
    }

pub length_put : (k : ℕ) (r : Record) (rs : List Record) → length (put_in k r rs) ≡ suc (length rs)
length_put zero r rs = refl
length_put (suc k) r [] = refl
length_put (suc k) r (x ∷ rs) = ap suc (length_put k r rs)

pub length_records : (s : Store) → Sizes s → length (records s) ≡ s.head.records
unfolding records
length_records s z = length-take-le s.head.records s.record_rows z.records_counted

pub inserted_records : (s : Store) (r : Record) (page : List ℕ) (k : ℕ) → Sizes s → records (inserted s r page k) ≡ put_in k r (records s)
unfolding inserted records
inserted_records s r page k z =
    let l : length (put_in k r (records s)) ≡ s.head.records + 1 = omega (arith, length_put k r (records s), length_records s z) in
    take_at (put_in k r (records s)) (drop (s.head.records + 1) s.record_rows) (s.head.records + 1) l

-- a lookup that does not see the new record
find_put : (k : ℕ) (r : Record) (rs : List Record) (b t : ℕ) (bs : List Branch) → Falls bs → (b ≡ r.address → r.moment ≤ t → ⊥)
    → find (put_in k r rs) b bs t ≡ find rs b bs t
find_put k r rs b t bs f ne =
    find_same (put_in k r rs) rs b t
    (λ lo hi i.
    let w : within b lo hi r ≡ false = not_within b lo hi r (λ (x : Within b lo hi r). ne (sym x.at) (omega (arith, x.high))) in
    latest_skip (take k rs) r (drop k rs) b lo hi w ∙ ap (λ (x : List Record). latest x b lo hi) (take-append-drop k rs))
    bs f t (omega arith)

insert_inv : (s : Store) (snaps : ℕ → Snapshot) (r : Record) (page : List ℕ) (k : ℕ) → Sound s → Reads s snaps → length page ≡ 256 → r.address < s.head.size
    → r.moment ≡ s.head.now → latest (records s) r.address s.head.now s.head.now ≡ none → s.head.records < length s.record_rows
    → r.place < length s.place_rows → get_or s.place_rows r.place 0 ≡ 0 → k ≡ before r (records s)
    → records (inserted s r page k) ≡ put_in k r (records s)
    → Inv (inserted s r page k) (accept (reference_of s snaps) (write r.address page))
unfolding accept newest branches names lookup inserted
insert_inv s snaps r page k h rd w ad rm none' room' inside free ek er =
    let z : Sizes s = h.sizes in
    let fits : 256 * r.place + 256 ≤ length s.slab = omega arith in
    let len : length (with_page s.slab r.place page) ≡ length s.slab = length_with_page s.slab r.place page w fits in
    let lp : length (set (map (shifted k) s.place_rows) r.place (suc k)) ≡ length s.place_rows = simp (length-set, length-map) in
    let ln : length (records s) ≡ s.head.records = length_records s z in
    let lr : length (put_in k r (records s) ++ drop (s.head.records + 1) s.record_rows) ≡ length s.record_rows =
    omega (arith, length-append (put_in k r (records s)) (drop (s.head.records + 1) s.record_rows), length_put k r (records s), length-drop (s.head.records + 1) s.record_rows) in
    let fresh : (q : Record) → q ∈ records s → q.address ≡ r.address → q.moment ≡ r.moment → ⊥ =
    λ q m ea em.
    let e : latest (records s) r.address s.head.now s.head.now ≡ some q =
    latest_top (records s) r.address s.head.now s.head.now q h.ascends m ea (em ∙ rm) (omega arith) in
    let y : ◌≡◌ {A = ℕ} 0 1 = cc in
    omega arith in
    let asc : Asc (put_in k r (records s)) = rw ek (asc_put r (records s) h.ascends fresh) in
    let kl : k ≤ length (records s) = rw ek (before_le r (records s)) in
    let lt : 1 + length (take k (records s)) ≡ suc k = omega (arith, length-take-le k (records s) kl) in
    record {
      sound =
          record {
            sizes = omega arith;
            rows = h.rows;
            names = h.names;
            ascends = rw er asc;
            fits = rw er
                (λ q m.
                elim (put_mem r k (records s) q m) [
                  | inl e ↦
                      rw (e, rm) (record { address = ad; moment = omega arith; held = newest_holds _ _ (newest s) z.now_high h.rows })
                  | inr n ↦ h.fits q n
                ]);
            named = rw er
                (write_named s.place_rows k r.place inside free 1 (take k (records s)) r (drop k (records s)) refl (omega arith) lt
                (rw take-append-drop h.named));
            in_use = write_used s.place_rows k r.place inside free ∙ omega (arith, h.in_use);
          };
      now = refl;
      floor = refl;
      names = refl;
      held =
          rw (er, ek) (hold_put r (records s) fresh)
          ∙ ap (λ (n : ℕ). hold (record { address = r.address; moment = n }) (map key (records s))) rm;
      reads =
          write_reads s snaps r.address page (λ b t. find (records (inserted s r page k)) b (newest s) t) (with_page s.slab r.place page) r rd
          (rw er (find_top (put_in k r (records s)) r.address _ _ (newest s) r z.now_high h.rows asc (mem_put r k (records s)) refl rm))
          (page_same s.slab r.place page w fits)
          rm
          (λ b t j ne.
          rw (er, find_put k r (records s) b t (newest s) (rows_falls _ _ (newest s) h.rows) (λ p q. ne p (omega arith)))
          (found_page_same s.slab (with_page s.slab r.place page) (lookup s b t)
          (λ q f.
          let g : Found (records s) b t (newest s) q = find→ (records s) b (newest s) (rows_falls _ _ (newest s) h.rows) t q f in
          let n : (q.place < length s.place_rows) × (1 ≤ get_or s.place_rows q.place 0) =
          named_mem s.place_rows 1 (records s) q h.named g.counted in
          page_other s.slab r.place page w fits q.place
          (λ p. let c : get_or s.place_rows q.place 0 ≡ 0 = rw p free in omega arith))));
    }

pub write_step : (s : Store) (snaps : ℕ → Snapshot) (a : ℕ) (page : List ℕ) → Sound s → Reads s snaps → length page ≡ 256
    → Stepping s (reference_of s snaps) (write a page) (do_write s a page)
unfolding do_write feed inserted
write_step s snaps a page h r w =
    case (ltb a s.head.size)
    (λ e.
    case_option (latest (records s) a s.head.now s.head.now)
    (λ n.
    case (ltb s.head.records (length s.record_rows))
    (λ c.
    case_option (first_free s.place_rows)
    (λ f. rw (e, n, c, f) (no 5))
    (λ p f.
    let g : SmallestFree s.place_rows p = first_free→ s.place_rows p f in
    let q : Record = record { address = a; moment = s.head.now; place = p } in
    rw (e, n, c, f)
    (record {
      inv =
          insert_inv s snaps q page (before q (records s)) h r w (ltb-true a s.head.size e) refl n (ltb-true _ _ c) g.inside g.free refl
          (inserted_records s q page (before q (records s)) h.sizes);
      right = λ x. refl;
      size = refl;
      exact = λ x. absurd (false≢true x);
    })))
    (λ c. rw (e, n, c) (no 4)))
    (λ q f.
    rw (e, f)
    (record { inv = overwrite_inv s snaps a page q h r w f; right = λ x. refl; size = refl; exact = λ x. absurd (false≢true x) })))
    (λ e. rw e (no 3))
  where
    no : (n : ℕ) → Stepping s (reference_of s snaps) (write a page) (unchanged s (suc n))
    no n = refused_step_lem s snaps h r n (write a page) (λ x. absurd (omega arith))
