-- Rows laid flat, and rows laid over a table, over any kind of row.
use mathlib.Core.Path.{◌≡◌, refl, sym, ap, ◌∙◌}
use mathlib.Core.List.{List, [], ◌∷◌, ◌++◌, append_assoc, append-nil}
use Prim.Native.Nat.{ℕ, zero, suc, ◌+◌, ◌*◌, ◌/◌, ◌%◌, ◌≤◌, ◌<◌}
use native.Mathlib.Nat.{suc-mul, zero-mul, mul-le-mul_right, le-div_iff_mul-le, mul-div_cancel, div-mul-le_self, div-add-mod', eq_of_mul-eq-mul_right}
use native.Mathlib.Omega.{arith}
use lib.ListN.{length, get_or, set, take, drop, length-append, length-drop, length-set, drop_of_length-le, get_or-append}
use lib.Seq.{ext_get_or, get_or-append-add, get_or-take, length-take-le, drop_at}
use Rattle.rows.specs.Rows.{tab, row_at, rows_by, flat, relaid, Relaid, RowSet}
use Rattle.rows.proofs.Tab.{tab_ext, take_tab}
use Rattle.rows.proofs.Laws.{Kind, rows_length, rows_get, relaid_own}

-- one list laid flat after the other
pub flat_append : {A : Type 0} (f : A → List ℕ) (xs ys : List A) → flat f (xs ++ ys) ≡ flat f xs ++ flat f ys
unfolding flat
flat_append f [] ys = refl
flat_append f (x ∷ xs) ys = rw (flat_append f xs ys) (sym (append_assoc (f x) (flat f xs) (flat f ys)))

-- how long they are, each w numbers
pub flat_length : {A : Type 0} (f : A → List ℕ) (w : ℕ) → ((x : A) → length (f x) ≡ w) → (xs : List A) → length (flat f xs) ≡ length xs * w
unfolding flat
flat_length f w e [] = sym (zero-mul w)
flat_length f w e (x ∷ xs) =
    length-append (f x) (flat f xs) ∙ omega (arith, e x, flat_length f w e xs, suc-mul (length xs) w)

module _ {A : Type 0} (K : Kind A) where
  abbrev w : ℕ
  w = K.width

  abbrev rows : List ℕ → List A
  rows = rows_by w K.make

  abbrev Laid : List ℕ → List A → List ℕ → Type 0
  Laid = Relaid w K.fields

  pub length_flat : (xs : List A) → length (flat K.fields xs) ≡ length xs * w
  length_flat = flat_length K.fields w K.full

  -- a column of a row is where its row begins, and so much further
  flat_get : (xs : List A) (rest : List ℕ) (i j : ℕ) (d : A) → i < length xs → j < w
      → get_or (flat K.fields xs ++ rest) (i * w + j) 0 ≡ get_or (K.fields (get_or xs i d)) j 0
  unfolding flat
  flat_get [] rest i j d h l = absurd (omega arith)
  flat_get (x ∷ xs) rest zero j d h l =
      rw (append_assoc (K.fields x) (flat K.fields xs) rest)
      (ap (λ (k : ℕ). get_or (K.fields x ++ (flat K.fields xs ++ rest)) k 0) (omega (arith, zero-mul w))
      ∙ get_or-append (K.fields x) (flat K.fields xs ++ rest) 0 j (omega (arith, K.full x)))
  flat_get (x ∷ xs) rest (suc i) j d h l =
      rw (append_assoc (K.fields x) (flat K.fields xs) rest)
      (ap (λ (k : ℕ). get_or (K.fields x ++ (flat K.fields xs ++ rest)) k 0) (omega (arith, suc-mul i w, K.full x))
      ∙ (get_or-append-add (K.fields x) (flat K.fields xs ++ rest) (i * w + j) 0 ∙ flat_get xs rest i j d (omega arith) l))

  module _ (t : List ℕ) (xs : List A) (many : length xs ≡ length t / w) where
    pub relaid_length : length (relaid w K.fields xs t) ≡ length t
    relaid_length =
        let l : length t / w * w ≤ length t = div-mul-le_self (length t) w in
        length-append (flat K.fields xs) (drop (length t / w * w) t)
        ∙ omega (arith, length_flat xs, ap (λ (n : ℕ). n * w) many, length-drop (length t / w * w) t)

    -- rows laid over a table, as many as it has, are its rows
    pub rows_relaid : rows (relaid w K.fields xs t) ≡ xs
    rows_relaid =
        let u : List ℕ = relaid w K.fields xs t in
        let n : length u / w ≡ length xs = ap (λ (k : ℕ). k / w) relaid_length ∙ sym many in
        let d : A = K.make (λ j. 0) in
        ext_get_or d _ xs (rows_length K u ∙ n)
        (λ i h.
        let i< : i < length xs = omega (arith, rows_length K u, n) in
        rows_get K u i d (omega (arith, n))
        ∙ (K.same _ _ (λ j l. flat_get xs (drop (length t / w * w) t) i j d i< l) ∙ K.back (get_or xs i d)))

  -- the first rows of a table that begins with rows laid flat
  pub first_rows : (xs : List A) (rest : List ℕ) → take (length xs) (rows (flat K.fields xs ++ rest)) ≡ xs
  first_rows xs rest =
      let u : List ℕ = flat K.fields xs ++ rest in
      let d : A = K.make (λ j. 0) in
      let n : length xs ≤ length u / w = (le-div_iff_mul-le K.wide).1 (omega (arith, length-append (flat K.fields xs) rest, length_flat xs)) in
      let l : length (take (length xs) (rows u)) ≡ length xs = length-take-le (length xs) (rows u) (rw (rows_length K u) n) in
      ext_get_or d _ xs l
      (λ i h.
      let i< : i < length xs = omega (arith, l) in
      get_or-take (length xs) (rows u) i d i<
      ∙ (rows_get K u i d (omega (arith, n)) ∙ (K.same _ _ (λ j g. flat_get xs rest i j d i< g) ∙ K.back (get_or xs i d))))

  -- the rows of the first n rows' numbers
  pub front_rows : (n : ℕ) (t : List ℕ) → n * w ≤ length t → rows (take (n * w) t) ≡ take n (rows t)
  unfolding rows_by
  front_rows n t h =
      let u : List ℕ = take (n * w) t in
      let m : length u / w ≡ n = rw (length-take-le (n * w) t h) (mul-div_cancel n K.wide) in
      let long : n ≤ length t / w = (le-div_iff_mul-le K.wide).1 h in
      ap (λ (k : ℕ). tab k (row_at w K.make u)) m
      ∙ tab_ext n _ _ (λ k g. K.same _ _ (λ j i. get_or-take (n * w) t (k * w + j) 0 (omega (arith, suc-mul k w, mul-le-mul_right w g))))
      ∙ sym (take_tab n (length t / w) (row_at w K.make t) long)

  -- over a table of whole rows, rows are all that there is
  pub relaid_whole : (t : List ℕ) → length t % w ≡ 0 → (xs : List A) → relaid w K.fields xs t ≡ flat K.fields xs
  relaid_whole t e xs =
      let long : length t ≤ length t / w * w = omega (arith, div-add-mod' (length t) w) in
      rw (drop_of_length-le t long) (append-nil (flat K.fields xs))

  -- a table's own rows
  pub laid_own : (t : List ℕ) → Laid t (rows t) t
  laid_own t = record { table = sym (relaid_own K t) }

  -- rows laid over a table that stays as long: as many as it has, in front of what is past its last whole row
  module _ {t : List ℕ} {xs : List A} {u : List ℕ} (x : Laid t xs u) (same : length u ≡ length t) where
    laid_front : length (flat K.fields xs) ≡ length t / w * w
    laid_front =
        omega (arith, ap length x.table, same, length-append (flat K.fields xs) (drop (length t / w * w) t), length-drop (length t / w * w) t, div-mul-le_self (length t) w)

    pub laid_count : length xs ≡ length t / w
    laid_count = eq_of_mul-eq-mul_right w K.wide (length xs) (length t / w) (sym (length_flat xs) ∙ laid_front)

    -- they are its rows
    pub laid_rows : rows u ≡ xs
    laid_rows = rw x.table (rows_relaid t xs laid_count)

    -- and other rows can be laid over either
    pub laid_over_lem : (ys : List A) → relaid w K.fields ys u ≡ relaid w K.fields ys t
    laid_over_lem ys =
        let rest : drop (length t / w * w) u ≡ drop (length t / w * w) t =
        rw x.table (drop_at (flat K.fields xs) (drop (length t / w * w) t) (length t / w * w) laid_front) in
        ap (λ (k : ℕ). flat K.fields ys ++ drop (k / w * w) u) same ∙ ap (λ (l : List ℕ). flat K.fields ys ++ l) rest

    pub laid_then : {ys : List A} {v : List ℕ} → Laid u ys v → Laid t ys v
    laid_then {ys} y = record { table = y.table ∙ laid_over_lem ys }

  -- the numbers past the last whole row stay, one change after the other
  pub own_then : {t u v : List ℕ} → Laid t (rows u) u → length u ≡ length t → Laid u (rows v) v → Laid t (rows v) v
  own_then x same y = laid_then x same y

  -- a row set: the table stays as long, and its rows are set
  module _ {t : List ℕ} {i : ℕ} {b : A} {u : List ℕ} (x : RowSet w K.make K.fields t i b u) where
    pub set_length : length u ≡ length t
    set_length = rw x.laid.table (relaid_length t (set (rows t) i b) (length-set (rows t) i b ∙ rows_length K t))

    pub set_rows : rows u ≡ set (rows t) i b
    set_rows = laid_rows x.laid set_length

    -- the numbers past the last whole row stay
    pub set_own : Laid t (rows u) u
    set_own = rw set_rows x.laid
