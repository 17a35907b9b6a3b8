-- Rows loaded into a flat table and stored out of it one after the other, over any kind of row.
--     loaded, stored               the table, or the rows, once i rows are copied
--     load_step, store_step        what a turn makes of it
use mathlib.Core.Path.{◌≡◌, sym, ap, ◌∙◌}
use mathlib.Core.List.{List, [], ◌∷◌, ◌++◌, append-nil}
use Prim.Native.Nat.{ℕ, suc, ◌+◌, ◌*◌, ◌≤◌, ◌<◌}
use native.Mathlib.Nat.{suc-mul, mul-le-mul_right, mul-mod_left, le-div_iff_mul-le, eq_of_mul-eq-mul_right}
use native.Mathlib.Numerals.{add-one}
use native.Mathlib.Omega.{arith}
use lib.ListN.{length, get_or, set, take, drop, length-append, length-drop}
use lib.Seq.{sets, sets-eq, length-take-le, take-suc, take_at, drop-cons, drop-append-add, drop-drop, set_at, append_snoc}
use Rattle.rows.specs.Rows.{rows_by, flat, relaid, RowSet}
use Rattle.rows.proofs.Laws.{Kind, rows_length, row_put}
use Rattle.rows.proofs.Relaid.{flat_append, length_flat, relaid_whole, first_rows}

module _ {A : Type 0} (K : Kind A) where
  abbrev w : ℕ
  w = K.width

  abbrev rows : List ℕ → List A
  rows = rows_by w K.make

  flat_one : (x : A) → flat K.fields (x ∷ []) ≡ K.fields x
  unfolding flat
  flat_one x = append-nil (K.fields x)

  -- the table once i rows are loaded
  abbrev pub loaded : List A → List ℕ → ℕ → List ℕ
  loaded xs t i = flat K.fields (take i xs) ++ drop (i * w) t

  -- no row is loaded yet
  pub loaded_start : (xs : List A) (t : List ℕ) → t ≡ loaded xs t 0
  unfolding flat
  loaded_start xs t = let e : 0 * w ≡ 0 = omega arith in rw e

  module _ (xs : List A) (t : List ℕ) (fits : length xs * w ≤ length t) where
    front : (i : ℕ) → i ≤ length xs → length (flat K.fields (take i xs)) ≡ i * w
    front i h = length_flat K (take i xs) ∙ rw (length-take-le i xs h)

    length_loaded : (i : ℕ) → i ≤ length xs → length (loaded xs t i) ≡ length t
    length_loaded i h = omega (arith, length-append (flat K.fields (take i xs)) (drop (i * w) t), front i h, length-drop (i * w) t, mul-le-mul_right w h)

    -- row i set in it
    pub load_step : (d : A) (i : ℕ) → i < length xs → (u : List ℕ) → RowSet w K.make K.fields (loaded xs t i) i (get_or xs i d) u → u ≡ loaded xs t (i + 1)
    load_step d i h u set-one =
        let x : A = get_or xs i d in
        let p : List ℕ = flat K.fields (take i xs) in
        let now : List ℕ = loaded xs t i in
        let lp : length p ≡ i * w = front i (omega arith) in
        let lf : length (K.fields x) ≡ w = K.full x in
        let room : i * w + w ≤ length now = omega (arith, length_loaded i (omega arith), suc-mul i w, mul-le-mul_right w h) in
        let e : u ≡ sets now (i * w) (K.fields x) = set-one.laid.table ∙ sym (row_put K now i x room).laid.table in
        let seam : i * w + length (K.fields x) ≡ length p + w = omega (arith, lp, lf) in
        let rest : drop (i * w + length (K.fields x)) now ≡ drop ((i + 1) * w) t =
        ap (λ (k : ℕ). drop k now) seam ∙ drop-append-add p (drop (i * w) t) w ∙ drop-drop w (i * w) t
        ∙ ap (λ (k : ℕ). drop k t) (sym (suc-mul i w) ∙ ap (λ (k : ℕ). k * w) (sym (add-one i))) in
        let more : flat K.fields (take (i + 1) xs) ≡ p ++ K.fields x =
        ap (λ (k : ℕ). flat K.fields (take k xs)) (add-one i) ∙ rw (take-suc xs i d h, flat_append K.fields (take i xs) (x ∷ []), flat_one x) in
        e ∙ sets-eq (K.fields x) now (i * w) (omega arith) ∙ rw (take_at p (drop (i * w) t) (i * w) lp, rest, more)

    -- the rows once i are stored out of the table
    abbrev stored : ℕ → List A
    stored i = take i (rows t) ++ drop i xs

    there : (i : ℕ) → i ≤ length xs → i ≤ length (rows t)
    there i h = rw (rows_length K t) ((le-div_iff_mul-le K.wide).1 (omega (arith, mul-le-mul_right w h)))

    pub store_step : (d : A) (i : ℕ) → i < length xs → set (stored i) i (get_or (rows t) i d) ≡ stored (i + 1)
    store_step d i h =
        let x : A = get_or (rows t) i d in
        let l : i < length (rows t) = there (suc i) h in
        ap (λ (r : List A). set (take i (rows t) ++ r) i x) (drop-cons xs i d h)
        ∙ set_at (take i (rows t)) (get_or xs i d) (drop (suc i) xs) x i (length-take-le i (rows t) (omega arith))
        ∙ sym (append_snoc (take i (rows t)) x (drop (suc i) xs))
        ∙ ap (λ (r : List A). r ++ drop (suc i) xs) (sym (take-suc (rows t) i d l))
        ∙ ap (λ (k : ℕ). take k (rows t) ++ drop k xs) (sym (add-one i))

  -- n rows laid over a table of n rows, and what follows it: the first n rows are those
  pub relaid_first : (n : ℕ) (t u rest : List ℕ) (xs : List A) → length t ≡ n * w → length u ≡ length t → u ≡ relaid w K.fields xs t → take n (rows (u ++ rest)) ≡ xs
  relaid_first n t u rest xs lt lu e =
      let front : u ≡ flat K.fields xs = e ∙ relaid_whole K t (rw lt (mul-mod_left n w)) xs in
      let count : length xs ≡ n = eq_of_mul-eq-mul_right w K.wide (length xs) n (sym (length_flat K xs) ∙ (ap length (sym front) ∙ (lu ∙ lt))) in
      rw (front, sym count) (first_rows K xs rest)
