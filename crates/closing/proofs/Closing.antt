-- The laws of rows that close up, one row at a time.
use mathlib.Core.Path.{◌≡◌, refl, ap, sym, ◌∙◌}
use mathlib.Core.Logic.{◌≢◌}
use mathlib.Core.List.{List, [], ◌∷◌, ◌++◌, map, append_assoc, append-nil}
use mathlib.Core.Bool.{Bool, true, false, cond}
use Prim.Native.Nat.{ℕ, zero, suc, ◌+◌, ◌-◌, ◌*◌, ◌≤◌, ◌<◌}
use native.Mathlib.Omega.{arith}
use native.Mathlib.Numerals.{add-one}
use native.Mathlib.Nat.{le-div_iff_mul-le}
use lib.Dec.{leb, eqb}
use lib.ListN.{length, get_or, set, take, drop, replicate, length-append, length-replicate, length-set, length-map}
use lib.Seq.{take-suc, drop-cons, set_at, set-append_seam, get_or_at, get_or-set_same, get_or-set_other, ext_get_or, take-take, length-take-le, get_or-take}
use borrow.Author.Tests.{leb-true, leb-false, le-leb, lt-leb, eqb-true, eqb-false}
use Rattle.model.specs.declared.Record.{Record}
use Rattle.model.specs.Store.{zero_record, keep}
use Rattle.model.proofs.Base.{case}
use Rattle.model.proofs.Places.{get_d_map_lt}
use Rattle.model.specs.Step.{closed_up, renumbered}
use Rattle.rows.specs.Rows.{rows_by, Relaid, RowSet, record_rows_of, RecordSet, RecordsIn}
use Rattle.rows.proofs.Laws.{Kind, rows_length, record_kind, record_count}
use Rattle.rows.proofs.Relaid.{laid_own, own_then, set_length, set_rows, set_own}
use Rattle.closing.specs.Closed.{marked, keep_by, renamed, ClosedRecords}
use Rattle.model.specs.ByNumber.{entry, Names}

module _ {A : Type 0} where
  keep_by_snoc : (p : ℕ → Bool) (xs : List A) (x : A) → keep_by p (xs ++ (x ∷ [])) ≡ keep_by p xs ++ cond (p (length xs)) (x ∷ []) []
  unfolding keep_by
  keep_by_snoc p [] x = case (p 0) (λ e. rw e) (λ e. rw e)
  keep_by_snoc p (y ∷ xs) x =
      let ih = keep_by_snoc (λ i. p (suc i)) xs x in
      case (p 0) (λ e. rw (e, ih)) (λ e. rw (e, ih))

  pub length_keep_by : (p : ℕ → Bool) (xs : List A) → length (keep_by p xs) ≤ length xs
  unfolding keep_by
  length_keep_by p [] = omega arith
  length_keep_by p (x ∷ xs) =
      let ih : length (keep_by (λ i. p (suc i)) xs) ≤ length xs = length_keep_by (λ i. p (suc i)) xs in
      case (p 0) (λ e. rw e (omega arith)) (λ e. rw e (omega arith))

  -- a test on indices that is a test on elements
  pub keep_by_keep : (p : ℕ → Bool) (k : A → Bool) (z : A) (xs : List A) → ((i : ℕ) → i < length xs → p i ≡ k (get_or xs i z)) → keep_by p xs ≡ keep k xs
  unfolding keep_by keep
  keep_by_keep p k z [] h = refl
  keep_by_keep p k z (x ∷ xs) h =
      rw (h 0 (omega arith), keep_by_keep (λ i. p (suc i)) k z xs (λ i l. h (suc i) (omega arith)))

  replicate_snoc : (d : ℕ) (z : A) (ys : List A) → replicate d z ++ (z ∷ ys) ≡ z ∷ (replicate d z ++ ys)
  replicate_snoc zero z ys = refl
  replicate_snoc (suc d) z ys = ap (λ (l : List A). z ∷ l) (replicate_snoc d z ys)

  module _ (z : A) (p : ℕ → Bool) (rs : List A) where
    abbrev pub up_to : ℕ → List A
    up_to i = keep_by p (take i rs)

    -- the rows when the first i are done
    abbrev pub closing : ℕ → List A
    closing i = closed_up z (up_to i) i rs

    module _ (i : ℕ) (l : i < length rs) where
      pub kept_more : p i ≡ true → up_to (suc i) ≡ up_to i ++ (get_or rs i z ∷ [])
      kept_more e =
          let n : length (take i rs) ≡ i = length-take-le i rs (omega arith) in
          rw (take-suc rs i z l, keep_by_snoc p (take i rs) (get_or rs i z), n, e)

      pub kept_less : p i ≡ false → up_to (suc i) ≡ up_to i
      kept_less e =
          let n : length (take i rs) ≡ i = length-take-le i rs (omega arith) in
          rw (take-suc rs i z l, keep_by_snoc p (take i rs) (get_or rs i z), n, e) (append-nil (up_to i))

      pub kept_count : length (up_to i) ≤ i
      kept_count =
          let n : length (take i rs) ≡ i = length-take-le i rs (omega arith) in
          omega (arith, length_keep_by p (take i rs))

      abbrev gap : ℕ
      gap = i - length (up_to i)

      front : length (up_to i ++ replicate gap z) ≡ i
      front = simp (length-append, length-replicate) (omega (arith, kept_count))

      split : closing i ≡ (up_to i ++ replicate gap z) ++ (get_or rs i z ∷ drop (suc i) rs)
      split = rw (drop-cons rs i z l) (sym (append_assoc (up_to i) (replicate gap z) (get_or rs i z ∷ drop (suc i) rs)))

      -- the next row still stands there
      pub closing_next : get_or (closing i) i z ≡ get_or rs i z
      closing_next = rw split (get_or_at (up_to i ++ replicate gap z) (get_or rs i z) (drop (suc i) rs) z i front)

      blank : set (closing i) i z ≡ up_to i ++ (z ∷ (replicate gap z ++ drop (suc i) rs))
      blank =
          rw split
          (set_at (up_to i ++ replicate gap z) (get_or rs i z) (drop (suc i) rs) z i front
          ∙ append_assoc (up_to i) (replicate gap z) (z ∷ drop (suc i) rs)
          ∙ ap (λ (t : List A). up_to i ++ t) (replicate_snoc gap z (drop (suc i) rs)))

      pub closing_drop : p i ≡ false → set (closing i) i z ≡ closing (suc i)
      closing_drop e =
          let g : suc i - length (up_to i) ≡ suc gap = omega (arith, kept_count) in
          blank ∙ rw (kept_less e, g)

      pub closing_keep : p i ≡ true → set (set (closing i) i z) (length (up_to i)) (get_or rs i z) ≡ closing (suc i)
      closing_keep e =
          let n : length (up_to i ++ (get_or rs i z ∷ [])) ≡ suc (length (up_to i)) = omega (arith, length-append (up_to i) (get_or rs i z ∷ [])) in
          let g : suc i - suc (length (up_to i)) ≡ gap = omega arith in
          rw (blank, kept_more e, n, g)
          (set-append_seam (up_to i) z (replicate gap z ++ drop (suc i) rs) (get_or rs i z)
          ∙ sym (append_assoc (up_to i) (get_or rs i z ∷ []) (replicate gap z ++ drop (suc i) rs)))

  -- how far it is: the first i of n rows are done, and w of them are kept
  pub record Going (z : A) (p : ℕ → Bool) (rs us : List A) (n i w : ℕ) : Type 0 where
    pub within : i ≤ n
    pub count : w ≡ length (keep_by p (take i rs))
    pub low : w ≤ i
    pub rows : us ≡ closing z p rs i

  module _ {z : A} {p : ℕ → Bool} {rs : List A} {n : ℕ} where
    pub going_start : Going z p rs rs n 0 0
    unfolding keep_by
    going_start = record { within = omega arith; count = refl; low = omega arith; rows = refl }

    pub going_end : {us : List A} {i w : ℕ} → Going z p rs us n i w → n ≤ i → (us ≡ closing z p rs n) × (w ≡ length (keep_by p (take n rs)))
    going_end {us} {i} {w} g l =
        let e : i ≡ n = omega arith in
        (rw e at g.rows, rw e at g.count)

    module _ {us : List A} {i w : ℕ} (g : Going z p rs us n i w) (room : n ≤ length rs) (l : i < n) where
      pub going_next : get_or us i z ≡ get_or rs i z
      going_next = rw g.rows (closing_next z p rs i (omega arith))

      pub going_drop : {vs : List A} → p i ≡ false → vs ≡ set us i z → Going z p rs vs n (i + 1) w
      going_drop {vs} e q =
          let m : i + 1 ≡ suc i = omega arith in
          record {
            within = omega arith;
            count = rw (m, kept_less z p rs i (omega arith) e) g.count;
            low = omega (arith, g.low);
            rows = rw (q, g.rows, m) (closing_drop z p rs i (omega arith) e);
          }

      pub going_keep : {vs ws : List A} {x : A} → p i ≡ true → x ≡ get_or us i z → vs ≡ set us i z → ws ≡ set vs w x → Going z p rs ws n (i + 1) (w + 1)
      going_keep {vs} {ws} {x} e d q y =
          let m : i + 1 ≡ suc i = omega arith in
          let k : length (keep_by p (take (i + 1) rs)) ≡ w + 1 =
          rw (m, kept_more z p rs i (omega arith) e) (omega (arith, length-append (keep_by p (take i rs)) (get_or rs i z ∷ []), g.count)) in
          record {
            within = omega arith;
            count = sym k;
            low = omega (arith, g.low);
            rows = y ∙ rw (d, going_next, q, g.rows, g.count, m) (closing_keep z p rs i (omega arith) e);
          }

-- of n rows of the table t the first i are done and w of them are kept; u is the table by then
pub record Closes {A : Type 0} (K : Kind A) (z : A) (p : ℕ → Bool) (t : List ℕ) (n : ℕ) (u : List ℕ) (i w : ℕ) : Type 0 where
  pub going : Going z p (rows_by K.width K.make t) (rows_by K.width K.make u) n i w
  pub laid : Relaid K.width K.fields t (rows_by K.width K.make u) u
  pub long : length u ≡ length t

-- a table that has room for n rows has n rows
rows_room : {A : Type 0} (K : Kind A) (n : ℕ) (t : List ℕ) → n * K.width ≤ length t → n ≤ length (rows_by K.width K.make t)
rows_room K n t h = rw (rows_length K t) ((le-div_iff_mul-le K.wide).1 h)

module _ {A : Type 0} (K : Kind A) {z : A} {p : ℕ → Bool} {t : List ℕ} {n : ℕ} where
  pub closes_start : Closes K z p t n t 0 0
  closes_start = record { going = going_start; laid = laid_own K t; long = refl }

  module _ (fits : n * K.width ≤ length t) {u : List ℕ} {i w : ℕ} (c : Closes K z p t n u i w) (l : i < n) {v : List ℕ} (s : RowSet K.width K.make K.fields u i z v) where
    pub closes_drop : p i ≡ false → Closes K z p t n v (i + 1) w
    closes_drop d =
        record {
          going = going_drop c.going (rows_room K n t fits) l d (set_rows K s);
          laid = own_then K c.laid c.long (set_own K s);
          long = set_length K s ∙ c.long;
        }

    pub closes_keep : {x : A} {y : List ℕ} → p i ≡ true → x ≡ get_or (rows_by K.width K.make u) i z → RowSet K.width K.make K.fields v w x y → Closes K z p t n y (i + 1) (w + 1)
    closes_keep d e r =
        record {
          going = going_keep c.going (rows_room K n t fits) l d e (set_rows K s) (set_rows K r);
          laid = own_then K (own_then K c.laid c.long (set_own K s)) (set_length K s ∙ c.long) (set_own K r);
          long = set_length K r ∙ set_length K s ∙ c.long;
        }

-- place rows, when the records up to the row i are done
abbrev pub partly : (ℕ → Bool) → List Record → ℕ → ℕ → ℕ
partly p rs i v = cond (leb v i) (renamed p rs v) v

module _ (p : ℕ → Bool) (rs : List Record) where
  pub partly_start : (ps : List ℕ) → ps ≡ map (partly p rs 0) ps
  partly_start [] = refl
  partly_start (zero ∷ ps) = ap (λ (t : List ℕ). 0 ∷ t) (partly_start ps)
  partly_start (suc v ∷ ps) = rw (lt-leb (suc v) 0 (omega arith)) (ap (λ (t : List ℕ). suc v ∷ t) (partly_start ps))

  module _ (n : ℕ) (ps : List ℕ) (h : Names rs n ps) where
    pub partly_step : (i : ℕ) → i < n → set (map (partly p rs i) ps) (get_or rs i zero_record).place (renamed p rs (suc i)) ≡ map (partly p rs (suc i)) ps
    partly_step i l =
        let q = (get_or rs i zero_record).place in
        let m : length (map (partly p rs i) ps) ≡ length ps = length-map ps (partly p rs i) in
        let m' : length (map (partly p rs (suc i)) ps) ≡ length ps = length-map ps (partly p rs (suc i)) in
        ext_get_or 0 _ _ (length-set (map (partly p rs i) ps) q (renamed p rs (suc i)) ∙ m ∙ sym m')
        (λ j b.
        let b' : j < length ps = rw (length-set, m) at b in
        rw (get_d_map_lt (partly p rs (suc i)) ps j b')
        (case (eqb j q)
        (λ e.
        let jq : j ≡ q = eqb-true j q e in
        let v : get_or ps j 0 ≡ suc i = rw jq (h.row i l) in
        rw (v, le-leb (suc i) (suc i) (omega arith), jq) (get_or-set_same (map (partly p rs i) ps) q (renamed p rs (suc i)) 0 (rw m (h.inside i l))))
        (λ e.
        let ne : j ≢ q = eqb-false j q e in
        get_or-set_other (map (partly p rs i) ps) q j (renamed p rs (suc i)) 0 ne ∙ get_d_map_lt (partly p rs i) ps j b' ∙ same (get_or ps j 0) (λ d. ne (sym (h.only j i d).1)))))
      where
        same : (v : ℕ) → v ≢ suc i → partly p rs i v ≡ partly p rs (suc i) v
        same v ne =
            case (leb v i)
            (λ e. let a : v ≤ i = leb-true v i e in rw (e, le-leb v (suc i) (omega arith)))
            (λ e. let a : i < v = leb-false v i e in rw (e, lt-leb v (suc i) (omega arith)))

    pub partly_end : map (partly p rs n) ps ≡ map (renamed p (take n rs)) ps
    partly_end =
        let m : length (map (partly p rs n) ps) ≡ length ps = length-map ps (partly p rs n) in
        let m' : length (map (renamed p (take n rs)) ps) ≡ length ps = length-map ps (renamed p (take n rs)) in
        ext_get_or 0 _ _ (m ∙ sym m')
        (λ j b.
        let b' : j < length ps = rw m at b in
        get_d_map_lt (partly p rs n) ps j b' ∙ same (get_or ps j 0) (λ v e. (h.only j v e).0) ∙ sym (get_d_map_lt (renamed p (take n rs)) ps j b'))
      where
        same : (v : ℕ) → ((u : ℕ) → v ≡ suc u → u < n) → partly p rs n v ≡ renamed p (take n rs) v
        same zero k = rw (le-leb 0 n (omega arith))
        same (suc v) k =
            let l : v < n = k v refl in
            rw (le-leb (suc v) n (omega arith), take-take v n rs (omega arith))

    -- as the model says it, where the marks are a test on records
    pub renamed_numbered : (k : Record → Bool) → ((i : ℕ) → i < n → p i ≡ k (get_or (take n rs) i zero_record)) → n ≤ length rs
        → map (renamed p (take n rs)) ps ≡ map (renumbered k (take n rs)) ps
    renamed_numbered k g room =
        let m : length (map (renamed p (take n rs)) ps) ≡ length ps = length-map ps (renamed p (take n rs)) in
        let m' : length (map (renumbered k (take n rs)) ps) ≡ length ps = length-map ps (renumbered k (take n rs)) in
        ext_get_or 0 _ _ (m ∙ sym m')
        (λ j b.
        let b' : j < length ps = rw m at b in
        get_d_map_lt (renamed p (take n rs)) ps j b' ∙ same (get_or ps j 0) (λ v e. (h.only j v e).0) ∙ sym (get_d_map_lt (renumbered k (take n rs)) ps j b'))
      where
        same : (v : ℕ) → ((u : ℕ) → v ≡ suc u → u < n) → renamed p (take n rs) v ≡ renumbered k (take n rs) v
        same zero f = refl
        same (suc v) f =
            let l : v < n = f v refl in
            let t : take v (take n rs) ≡ take v rs = take-take v n rs (omega arith) in
            let y : length (take v rs) ≡ v = length-take-le v rs (omega arith) in
            let e : keep_by p (take v rs) ≡ keep k (take v rs) =
            keep_by_keep p k zero_record (take v rs)
            (λ i b. g i (omega arith) ∙ ap k (get_or-take n rs i zero_record (omega arith) ∙ sym (get_or-take v rs i zero_record (omega arith)))) in
            rw (g v l, t, e)

-- the records of a table and the place rows, when the first i records are done
pub record ClosesRecords (ms : List ℕ) (rt ps : List ℕ) (n : ℕ) (us qs : List ℕ) (i w : ℕ) : Type 0 where
  pub rows : Closes record_kind zero_record (marked ms) rt n us i w
  pub places : qs ≡ map (partly (marked ms) (record_rows_of rt) i) ps

module _ {ms rt ps : List ℕ} {n : ℕ} where
  pub records_start : ClosesRecords ms rt ps n rt ps 0 0
  records_start = record { rows = closes_start record_kind; places = partly_start (marked ms) (record_rows_of rt) ps }

  module _ (names : Names (record_rows_of rt) n ps) {us qs : List ℕ} {i w : ℕ} (c : ClosesRecords ms rt ps n us qs i w) where
    pub records_end : n ≤ i → ClosedRecords ms n rt us ps qs w
    records_end l =
        let g = going_end c.rows.going l in
        let e : i ≡ n = omega (arith, c.rows.going.within) in
        record {
          table = rw g.0 at c.rows.laid;
          places = (rw e at c.places) ∙ partly_end (marked ms) (record_rows_of rt) n ps names;
          count = g.1;
        }

    module _ (fits : RecordsIn n rt) (l : i < n) {r : Record} (e : r ≡ entry (record_rows_of us) i) where
      place_of : r.place ≡ (entry (record_rows_of rt) i).place
      place_of = ap (λ (x : Record). x.place) (e ∙ going_next c.rows.going (rows_room record_kind n rt fits) l)

      pub records_inside : r.place < length qs
      records_inside = rw (c.places, length-map, place_of) (names.inside i l)

      module _ {vs : List ℕ} (s : RecordSet us i zero_record vs) where
        pub records_drop : marked ms i ≡ false → ClosesRecords ms rt ps n vs (set qs r.place 0) (i + 1) w
        records_drop d =
            let v : 0 ≡ renamed (marked ms) (record_rows_of rt) (suc i) = rw d in
            record {
              rows = closes_drop record_kind fits c.rows l s d;
              places = rw (c.places, add-one i, place_of) (ap (λ (x : ℕ). set (map (partly (marked ms) (record_rows_of rt) i) ps) (entry (record_rows_of rt) i).place x) v ∙ partly_step (marked ms) (record_rows_of rt) n ps names i l);
            }

        pub records_keep : {ys : List ℕ} → marked ms i ≡ true → RecordSet vs w r ys → ClosesRecords ms rt ps n ys (set qs r.place (w + 1)) (i + 1) (w + 1)
        records_keep d y =
            let v : w + 1 ≡ renamed (marked ms) (record_rows_of rt) (suc i) = rw d (omega (arith, c.rows.going.count)) in
            record {
              rows = closes_keep record_kind fits c.rows l s d e y;
              places = rw (v, c.places, add-one i, place_of) (partly_step (marked ms) (record_rows_of rt) n ps names i l);
            }

-- what is kept is no more than there was
pub count_records : {ms : List ℕ} {n : ℕ} {rt rt' ps ps' : List ℕ} {w : ℕ} → ClosedRecords ms n rt rt' ps ps' w → RecordsIn n rt → w ≤ n
count_records {ms} {n} {rt} c l =
    let n' : length (take n (record_rows_of rt)) ≡ n = length-take-le n (record_rows_of rt) (omega (arith, record_count rt)) in
    omega (arith, c.count, length_keep_by (marked ms) (take n (record_rows_of rt)))
