-- Laws of the write.
use mathlib.Core.Path.{◌≡◌, refl, ap, sym, ◌∙◌}
use mathlib.Core.Logic.{◌⊎◌, inl, inr}
use mathlib.Core.List.{List, [], ◌∷◌, ◌++◌, map, append_assoc}
use mathlib.Core.Option
use mathlib.Core.Option.{some, none}
use mathlib.Core.Bool.{true, false}
use Prim.Native.Nat.{ℕ, zero, suc, ◌+◌, ◌*◌, ◌-◌, ◌≤◌, ◌<◌, suc-le-suc}
use native.Mathlib.Nat.{le_of_suc-le-suc, not-suc-le-zero, le_refl}
use native.Mathlib.Decide.{dec_lt, ℕ_discrete}
use native.Mathlib.Omega.{arith}
use lib.ListN.{length, get_or, set, take, drop, length-map, get_or-eq_default}
use lib.Seq.{get_or-take, length-take-le, get_or-set_same, get_or-set_other, paste, take_all}
use borrow.Author.Tests.{lt-ltb, le-ltb}
use Rattle.model.specs.declared.Head.{Head}
use Rattle.model.specs.declared.Record.{Record}
use Rattle.model.specs.Store.{Store, records, zero_record, with_page}
use Rattle.model.specs.Lookup.{latest}
use Rattle.model.specs.Soundness.{precedes}
use Rattle.model.specs.Packed.{SmallestFree}
use Rattle.model.specs.Step.{head_with, first_free, before, shifted, put_in, inserted, written, do_write, step}
use Rattle.model.specs.Wire.{write}
use Rattle.model.proofs.Base.{case}
use Rattle.model.proofs.Latest.{precedes→, →precedes}
use Rattle.model.proofs.Places.{get_d_map_lt, shifted_low, shifted_high, first_free→}
use Rattle.rows.specs.Rows.{record_rows_of, RecordsIn, RecordsLaid}
use Rattle.rows.proofs.Laws.{branch_kind, record_kind, name_kind, record_count}
use Rattle.rows.proofs.Relaid.{laid_own, laid_rows}
use Rattle.rows.proofs.View.{within_own, leaves_all, carried}
use Rattle.rows.specs.declared.Outcome.{Outcome}
use Rattle.rows.specs.View.{Tables, with_records, with_places, with_slab, store_of, record_given, Leaves, Carried, refused_with, accepted_with}
use Rattle.model.specs.ByNumber.{Asc, Ascend, entry}
use Rattle.model.proofs.ByNumber.{asc_ascend}
use Rattle.lookup.specs.Order.{up_to}
use Rattle.lookup.proofs.Laws.{Bracket, bracket_of}
use Rattle.lookup.proofs.Walk.{Span, span_start, latest_here, latest_low, latest_other, latest_end}
use Rattle.writing.specs.Free.{NoneBelow}
use Rattle.writing.specs.Writable.{Slot}

-- the first free place
pub free_at : (ps : List ℕ) (i : ℕ) → i < length ps → ((k : ℕ) → k < i → get_or ps k 0 ≡ 0 → ⊥) → get_or ps i 0 ≡ 0 → some i ≡ first_free ps
unfolding first_free
free_at [] i l h e = absurd (not-suc-le-zero l)
free_at (zero ∷ ps) zero l h e = refl
free_at (suc x ∷ ps) zero l h e = absurd (omega (arith, e))
free_at (zero ∷ ps) (suc i) l h e = absurd (h 0 (omega arith) refl)
free_at (suc x ∷ ps) (suc i) l h e = ap (Option.map suc) (free_at ps i (le_of_suc-le-suc l) (λ k m. h (suc k) (suc-le-suc m)) e)

pub free_none : (ps : List ℕ) → ((k : ℕ) → k < length ps → get_or ps k 0 ≡ 0 → ⊥) → none ≡ first_free ps
unfolding first_free
free_none [] h = refl
free_none (zero ∷ ps) h = absurd (h 0 (omega arith) refl)
free_none (suc x ∷ ps) h = ap (Option.map suc) (free_none ps (λ k m. h (suc k) (suc-le-suc m)))

-- the search begins inside the table, and a place that is taken is not free any more
pub none_inside : (ps : List ℕ) (low : ℕ) → NoneBelow low ps → low ≤ length ps
none_inside ps low h = go (dec_lt (length ps) low)
  where
    go : Dec (length ps < low) → low ≤ length ps
    go (yes l) = absurd (h (length ps) l (get_or-eq_default ps 0 (le_refl (length ps))))
    go (no l) = omega arith

shifted_free : (at k : ℕ) → shifted at k ≡ 0 → k ≡ 0
shifted_free at k e = go (dec_lt at k)
  where
    go : Dec (at < k) → k ≡ 0
    go (yes l) = absurd (omega (arith, shifted_high at k l))
    go (no l) = omega (arith, shifted_low at k (omega arith))

pub none_taken : (ps : List ℕ) (at p : ℕ) → SmallestFree ps p → NoneBelow (p + 1) (set (map (shifted at) ps) p (at + 1))
none_taken ps at p f k l e = go (dec_lt k p)
  where
    go : Dec (k < p) → ⊥
    go (yes d) =
        let x : get_or (set (map (shifted at) ps) p (at + 1)) k 0 ≡ shifted at (get_or ps k 0) =
        get_or-set_other (map (shifted at) ps) p k (at + 1) 0 (λ z. omega (arith, z)) ∙ get_d_map_lt (shifted at) ps k (omega (arith, f.inside)) in
        f.least k d (shifted_free at (get_or ps k 0) (sym x ∙ e))
    go (no d) =
        let z : k ≡ p = omega arith in
        let x : get_or (set (map (shifted at) ps) p (at + 1)) k 0 ≡ at + 1 = rw z (get_or-set_same (map (shifted at) ps) p (at + 1) 0 (omega (arith, f.inside, length-map ps (shifted at)))) in
        omega arith

-- place rows, changed one by one
pub record Mapped (f : ℕ → ℕ) (us vs : List ℕ) (i : ℕ) : Type 0 where
  pub long : length vs ≡ length us
  pub low : (k : ℕ) → k < i → get_or vs k 0 ≡ f (get_or us k 0)
  pub high : (k : ℕ) → i ≤ k → get_or vs k 0 ≡ get_or us k 0

-- the row of a new record
before_is : (q : Record) (xs : List Record) (c : ℕ) → c ≤ length xs → ((k : ℕ) → k < c → precedes (entry xs k) q ≡ true) → (c < length xs → precedes (entry xs c) q ≡ false) → before q xs ≡ c
unfolding before
before_is q [] zero l h e = refl
before_is q [] (suc c) l h e = absurd (not-suc-le-zero l)
before_is q (x ∷ xs) zero l h e = rw (e (omega arith))
before_is q (x ∷ xs) (suc c) l h e =
    rw (h zero (omega arith)) (ap suc (before_is q xs c (le_of_suc-le-suc l) (λ k m. h (suc k) (suc-le-suc m)) (λ m. e (suc-le-suc m))))

is_before : (x q : Record) → x.address ≤ q.address → (x.address ≡ q.address → x.moment < q.moment) → precedes x q ≡ true
is_before x q a m = go (dec_lt x.address q.address)
  where
    go : Dec (x.address < q.address) → precedes x q ≡ true
    go (yes l) = →precedes x q (inl l)
    go (no l) =
        let z : x.address ≡ q.address = omega arith in
        →precedes x q (inr (z, m z))

not_before : (x q : Record) → q.address ≤ x.address → (q.address ≡ x.address → q.moment ≤ x.moment) → precedes x q ≡ false
not_before x q a m = case (precedes x q) (λ e. absurd (go (precedes→ x q e).order)) (λ e. e)
  where
    go : (x.address < q.address) ⊎ ((x.address ≡ q.address) × (x.moment < q.moment)) → ⊥
    go (inl h) = omega (arith, a)
    go (inr h) = omega (arith, m (sym h.0))

module _ (rows : List Record) (n a t c : ℕ) (room : n ≤ length rows) (up : Ascend rows n) (b : Bracket rows n a t c c) where
  span : Span rows n a c t
  span = span_start rows n a room up c t b

  pub standing_row : (q : Record) → q ≡ entry rows (c - 1) → 0 < c → q.address ≡ a → q.moment ≡ t → some q ≡ latest (take n rows) a t t
  standing_row q e h f g =
      let x : (entry rows (c - 1)).moment ≡ t = sym (ap (λ (r : Record). r.moment) e) ∙ g in
      ap some e ∙ sym (latest_here rows n a room up c t span t h (sym (ap (λ (r : Record). r.address) e) ∙ f) (omega arith) (omega arith))

  module _ (ne : 0 < c → (entry rows (c - 1)).address ≡ a → (entry rows (c - 1)).moment ≡ t → ⊥) where
    pub standing_none : none ≡ latest (take n rows) a t t
    standing_none = sym (go (dec_lt 0 c) (ℕ_discrete (entry rows (c - 1)).address a))
      where
        go : Dec (0 < c) → Dec ((entry rows (c - 1)).address ≡ a) → latest (take n rows) a t t ≡ none
        go (no h) d = latest_end rows n a room up c t span t (omega arith)
        go (yes h) (no d) = latest_other rows n a room up c t span t h d
        go (yes h) (yes d) =
            let l : (entry rows (c - 1)).moment ≤ t = (b.below (c - 1) (omega arith)).1 d in
            let f : (entry rows (c - 1)).moment ≡ t → ⊥ = ne h d in
            latest_low rows n a room up c t span t h d (omega arith)

    strict : (k : ℕ) → k < c → (entry rows k).address ≡ a → (entry rows k).moment < t
    strict k l e = go (dec_lt k (c - 1))
      where
        go : Dec (k < c - 1) → (entry rows k).moment < t
        go (yes m) =
            let i : c - 1 < n = omega (arith, b.inside) in
            let x : (entry rows k).address ≤ (entry rows (c - 1)).address = up.addresses k (c - 1) m i in
            let y : (entry rows (c - 1)).address ≤ a = (b.below (c - 1) (omega arith)).0 in
            let d : (entry rows (c - 1)).address ≡ a = omega arith in
            omega (arith, up.moments k (c - 1) m i (omega arith), (b.below (c - 1) (omega arith)).1 d)
        go (no m) =
            let z : c - 1 ≡ k = omega arith in
            let f : (entry rows k).address ≡ a → (entry rows k).moment ≡ t → ⊥ = rw z at (ne (omega arith)) in
            let g : (entry rows k).moment ≡ t → ⊥ = f e in
            omega (arith, (b.below k l).1 e)

    pub standing_slot : Slot (take n rows) a t c
    standing_slot =
        record {
          inside = omega (arith, b.inside, long);
          row = λ p.
              before_is (record { address = a; moment = t; place = p }) (take n rows) c (omega (arith, b.inside, long))
              (λ k l. rw (get_or-take n rows k zero_record (omega (arith, b.inside))) (is_before (entry rows k) (record { address = a; moment = t; place = p }) (b.below k l).0 (strict k l)))
              (λ l. let m : c < n = omega (arith, long) in
              rw (get_or-take n rows c zero_record m) (not_before (entry rows c) (record { address = a; moment = t; place = p }) (b.above c (le_refl c) m).0 (λ z. omega (arith, (b.above c (le_refl c) m).1 z))));
        }
      where
        long : length (take n rows) ≡ n
        long = length-take-le n rows room

-- a page put into the slab
pub page_end : (slab page : List ℕ) (p i : ℕ) → length page ≡ 256 → i ≡ 256 → paste slab (256 * p) page i ≡ with_page slab p page
unfolding with_page
page_end slab page p i e z =
    let t : take 256 page ≡ page = take_all 256 page (omega arith) in
    rw (z, t) (append_assoc (take (256 * p) slab) page (drop (256 * p + 256) slab))

-- what stands at (a, t) in a table whose first n records are in order, of which c are up to (a, t)
module _ (rt : List ℕ) (n a t c : ℕ) (counted : RecordsIn n rt × (c ≡ up_to a t (take n (record_rows_of rt)))) (asc : Asc (take n (record_rows_of rt))) where
  abbrev rows : List Record
  rows = record_rows_of rt

  there : n ≤ length rows
  there = omega (arith, record_count rt, counted)

  up : Ascend rows n
  up = asc_ascend rows n there asc

  pinned : Bracket rows n a t c c
  pinned = bracket_of rows n a t there up c counted.1

  pub place_inside : c ≤ n
  place_inside = pinned.inside

  pub row_stands : (q : Record) → q ≡ entry rows (c - 1) → 0 < c → q.address ≡ a → q.moment ≡ t → some q ≡ latest (take n rows) a t t
  row_stands = standing_row rows n a t c there up pinned

  abbrev pub NoneStands : Type 0
  NoneStands = (none ≡ latest (take n rows) a t t) × Slot (take n rows) a t c

  stands_not : (0 < c → (entry rows (c - 1)).address ≡ a → (entry rows (c - 1)).moment ≡ t → ⊥) → NoneStands
  stands_not ne = (standing_none rows n a t c there up pinned ne, standing_slot rows n a t c there up pinned ne)

  pub other_stands : (q : Record) → q ≡ entry rows (c - 1) → (q.address ≡ a → q.moment ≡ t → ⊥) → NoneStands
  other_stands q e ne = stands_not (λ _. rw e at ne)

  pub none_stands : c ≤ 0 → NoneStands
  none_stands h = stands_not (λ l x y. omega arith)

-- the write of a new record
module _ (head : Head) (t : Tables) (a : ℕ) (page : List ℕ) (r : Outcome) where
  abbrev S : Store
  S = store_of head t

  pub write_full : r ≡ refused_with head 5 → length (record_rows_of t.records) ≤ head.records → Leaves (written S a page none) none t r t
  write_full q h = leaves_all (rw (q, le-ltb _ _ h)) (rw q) (within_own t)

  module _ (room : head.records < length (record_rows_of t.records)) where
    pub write_none : r ≡ refused_with head 6 → first_free t.places ≡ none → Leaves (written S a page none) none t r t
    write_none q e = leaves_all (rw (q, lt-ltb _ _ room, e)) (rw q) (within_own t)

    pub write_done : (u v w : List ℕ) (p at : ℕ) → r ≡ accepted_with (head_with head head.branches (head.records + 1) head.now head.floor) head.now
        → first_free t.places ≡ some p → Slot (take head.records (record_rows_of t.records)) a head.now at
        → RecordsLaid t.records (put_in at (record { address = a; moment = head.now; place = p }) (take head.records (record_rows_of t.records)) ++ drop (head.records + 1) (record_rows_of t.records)) u
        → length u ≡ length t.records
        → v ≡ set (map (shifted at) t.places) p (at + 1)
        → w ≡ with_page t.slab p page
        → Leaves (written S a page none) none t r (with_slab w (with_places v (with_records u t)))
    unfolding inserted records
    write_done u v w p at q f s eu lu ev ew =
        let z : at + 1 ≡ suc at = omega arith in
        let x : before (record { address = a; moment = head.now; place = p }) (take head.records (record_rows_of t.records)) ≡ at = s.row p in
        let eu' : record_rows_of u ≡ put_in at (record { address = a; moment = head.now; place = p }) (take head.records (record_rows_of t.records)) ++ drop (head.records + 1) (record_rows_of t.records) =
        laid_rows record_kind eu lu in
        leaves_all (rw (q, lt-ltb _ _ room, f, x, eu', ev, ew, z)) (rw q) (record { branches = laid_own branch_kind t.branches; records = rw eu' eu; names = laid_own name_kind t.names })

  -- and the whole write
  pub write_refused : r ≡ refused_with head 4 → head.size ≤ a → Carried head t (write a page) r t
  unfolding step do_write record_given
  write_refused q h = carried head t (write a page) (rw (q, le-ltb _ _ h)) (rw q) (within_own t)

  pub write_over : (w : List ℕ) (x : Record) → r ≡ accepted_with head head.now → a < head.size
      → latest (take head.records (record_rows_of t.records)) a head.now head.now ≡ some x → w ≡ with_page t.slab x.place page
      → Carried head t (write a page) r (with_slab w t)
  unfolding step do_write record_given records
  write_over w x q h e d =
      carried head t (write a page) (rw (q, lt-ltb _ _ h, e, d)) (rw q)
      (record { branches = laid_own branch_kind t.branches; records = laid_own record_kind t.records; names = laid_own name_kind t.names })

  -- where no record stands, it is the write of a new one
  pub write_else : {u : Tables} → a < head.size → latest (take head.records (record_rows_of t.records)) a head.now head.now ≡ none
      → Leaves (written S a page none) none t r u → Carried head t (write a page) r u
  unfolding step do_write record_given records
  write_else h e l = record { leaves = rw (lt-ltb _ _ h, e) l }

-- a place is free for a new record
pub record Taking (head : Head) (rt pt : List ℕ) (at p : ℕ) : Type 0 where
  pub free : first_free pt ≡ some p
  pub smallest : SmallestFree pt p
  pub row : at ≤ head.records
  pub more : head.records < length (record_rows_of rt)

pub taking_of : (head : Head) (rt pt : List ℕ) (a at p : ℕ) → some p ≡ first_free pt → Slot (take head.records (record_rows_of rt)) a head.now at
    → head.records < length (record_rows_of rt) → Taking head rt pt at p
taking_of head rt pt a at p d s l =
    let g : first_free pt ≡ some p = sym d in
    record {
      free = g;
      smallest = first_free→ pt p g;
      row = omega (arith, s.inside, length-take-le head.records (record_rows_of rt) (omega arith));
      more = l;
    }
