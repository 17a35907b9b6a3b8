-- Laws of rows, once over the width and the kind of row; then the three kinds.
use mathlib.Core.Path.{◌≡◌, refl, sym, ap, ap₂, ◌∙◌}
use mathlib.Core.List.{List, [], ◌∷◌, ◌++◌}
use Prim.Native.Nat.{ℕ, zero, suc, ◌+◌, ◌-◌, ◌*◌, ◌/◌, ◌≤◌, ◌<◌}
use native.Mathlib.Nat.{add-zero, suc-mul, zero-mul, mul-le-mul_right, div-mul-le_self, le-div_iff_mul-le}
use lib.Dec.{ltb}
use borrow.Author.Tests.{ltb-true, ltb-false}
use Rattle.model.proofs.Base.{case}
use native.Mathlib.Numerals.{towards_suc}
use native.Mathlib.Omega.{arith}
use lib.ListN.{length, get_or, set, take, drop, length-drop, take-append-drop, replicate, length-replicate}
use lib.Seq.{sets, length-sets, ext_get_or, get_or-take, get_or-drop, length-take-le, take-add}
use Rattle.model.specs.declared.Branch.{Branch}
use Rattle.model.specs.declared.Record.{Record}
use Rattle.model.specs.declared.Name.{Name}
use Rattle.model.specs.Store.{zero_branch, zero_record, zero_name}
use Rattle.model.specs.ByNumber.{branch, entry, name_row}
use Rattle.rows.specs.Rows.{tab, zeros, row_at, rows_by, flat, relaid, RowSet, branch_width, branch_of, branch_fields, branch_rows_of, record_width, record_of, record_fields, record_rows_of, name_width, name_of, name_fields, name_rows_of, BranchSet, RecordSet, NameSet, BranchesIn, RecordsIn, NamesIn}
use Rattle.rows.proofs.Tab.{length_tab, get_d_tab, tab_ext, tab_set}
use Rattle.rows.proofs.Runs.{sets_in, sets_out}

-- a kind of row: its width, the row that w numbers make, and the numbers of a row
pub record Kind (A : Type 0) : Type 0 where
  pub width : ℕ
  pub wide : 0 < width
  pub make : (ℕ → ℕ) → A
  pub fields : A → List ℕ
  pub full : (x : A) → length (fields x) ≡ width
  pub back : (x : A) → make (λ j. get_or (fields x) j 0) ≡ x
  pub column : (f : ℕ → ℕ) (j : ℕ) → j < width → get_or (fields (make f)) j 0 ≡ f j
  pub same : (f g : ℕ → ℕ) → ((j : ℕ) → j < width → f j ≡ g j) → make f ≡ make g

-- a fact of each of three columns
pub three : (P : ℕ → Type 0) → P 0 → P 1 → P 2 → (j : ℕ) → j < 3 → P j
three P a b c zero h = a
three P a b c (suc zero) h = b
three P a b c (suc (suc zero)) h = c
three P a b c (suc (suc (suc j))) h = absurd (omega arith)

-- and of each of four
pub four : (P : ℕ → Type 0) → P 0 → P 1 → P 2 → P 3 → (j : ℕ) → j < 4 → P j
four P a b c d zero h = a
four P a b c d (suc j) h = three (λ k. P (suc k)) b c d j (omega arith)

get_d_replicate : (n i : ℕ) → get_or {A = ℕ} (replicate n 0) i 0 ≡ 0
get_d_replicate zero i = refl
get_d_replicate (suc n) zero = refl
get_d_replicate (suc n) (suc i) = get_d_replicate n i

zero_tab : {A : Type 0} (n : ℕ) (f : ℕ → A) (z : A) → ((k : ℕ) → k < n → f k ≡ z) → tab n f ≡ replicate n z
unfolding tab
zero_tab {A = A} zero f z h = refl
zero_tab {A = A} (suc n) f z h = ap₂ (λ (x : A) (l : List A). x ∷ l) (h 0 (omega arith)) (zero_tab n (λ k. f (suc k)) z (λ k l. h (suc k) (omega arith)))

-- a number that lies in row i by its place, and in row k by its column, is of one row
between_rows : (w k i j : ℕ) → j < w → i * w ≤ k * w + j → k * w + j < i * w + w → k ≡ i
between_rows w k i j h a c =
    case (ltb k i)
    (λ e. absurd (omega (arith, suc-mul k w, mul-le-mul_right w (ltb-true k i e))))
    (λ e.
    case (ltb i k)
    (λ d. absurd (omega (arith, suc-mul i w, mul-le-mul_right w (ltb-true i k d))))
    (λ d. omega (arith, ltb-false k i e, ltb-false i k d)))

module _ {A : Type 0} (K : Kind A) where
  abbrev rows : List ℕ → List A
  rows = rows_by K.width K.make

  pub rows_length : (t : List ℕ) → length (rows t) ≡ length t / K.width
  unfolding rows_by
  rows_length t = length_tab (length t / K.width) (row_at K.width K.make t)

  pub rows_get : (t : List ℕ) (i : ℕ) (d : A) → i < length t / K.width → get_or (rows t) i d ≡ row_at K.width K.make t i
  unfolding rows_by
  rows_get t i d h = get_d_tab (length t / K.width) (row_at K.width K.make t) i d h

  -- the numbers of a row stored in its place: that row is set, and no other
  pub rows_put : (t : List ℕ) (i : ℕ) (b : A) → i * K.width + K.width ≤ length t → rows (sets t (i * K.width) (K.fields b)) ≡ set (rows t) i b
  unfolding rows_by
  rows_put t i b l =
      let n : length (K.fields b) ≡ K.width = K.full b in
      let u : List ℕ = sets t (i * K.width) (K.fields b) in
      rw (length-sets t (i * K.width) (K.fields b))
      (tab_set (length t / K.width) (row_at K.width K.make t) (row_at K.width K.make u) i b
      (K.same _ _ (λ j h. sets_in (K.fields b) t (i * K.width) j (omega arith) (omega arith)) ∙ K.back b)
      (λ k _ ne. K.same _ _ (λ j h. sets_out (K.fields b) t (i * K.width) (k * K.width + j) (λ a c. ne (between_rows K.width k i j h a (omega arith))))))

  -- the rows of a table laid flat are its numbers up to the last whole row
  flat_tab : (n : ℕ) (t : List ℕ) → n * K.width ≤ length t → flat K.fields (tab n (row_at K.width K.make t)) ≡ take (n * K.width) t
  unfolding flat tab
  flat_tab zero t l = rw (zero-mul K.width)
  flat_tab (suc n) t l =
      let w : ℕ = K.width in
      let m : suc n * w ≡ w + n * w = suc-mul n w ∙ omega arith in
      let first : K.fields (row_at w K.make t 0) ≡ take w t =
      ext_get_or 0 _ _ (K.full _ ∙ sym (length-take-le w t (omega arith)))
      (λ j h.
      let h' : j < w = omega (arith, K.full (row_at w K.make t 0)) in
      K.column _ j h' ∙ (ap (λ (x : ℕ). get_or t x 0) (omega arith) ∙ sym (get_or-take w t j 0 h'))) in
      let rest : tab n (λ k. row_at w K.make t (suc k)) ≡ tab n (row_at w K.make (drop w t)) =
      tab_ext n _ _
      (λ k h. K.same _ _ (λ j i. ap (λ (x : ℕ). get_or t x 0) (omega (arith, suc-mul k w)) ∙ sym (get_or-drop w t (k * w + j) 0))) in
      rw (first, rest, flat_tab n (drop w t) (omega (arith, length-drop w t)), m) (sym (take-add w (n * w) t))

  -- a table's own rows laid over it change nothing
  pub relaid_own : (t : List ℕ) → relaid K.width K.fields (rows t) t ≡ t
  unfolding rows_by
  relaid_own t =
      let l : length t / K.width * K.width ≤ length t = div-mul-le_self (length t) K.width in
      rw (flat_tab (length t / K.width) t l) (take-append-drop (length t / K.width * K.width) t)

  -- the numbers of a row stored in its place: the table with that row set
  pub row_put : (t : List ℕ) (i : ℕ) (b : A) → i * K.width + K.width ≤ length t → RowSet K.width K.make K.fields t i b (sets t (i * K.width) (K.fields b))
  row_put t i b l =
      let w : ℕ = K.width in
      let u : List ℕ = sets t (i * w) (K.fields b) in
      let whole : ℕ = length t / w * w in
      let same : length u ≡ length t = length-sets t (i * w) (K.fields b) in
      let room : suc i ≤ length t / w = (le-div_iff_mul-le K.wide).1 (omega (arith, suc-mul i w)) in
      let inside : i * w + length (K.fields b) ≤ whole =
      omega (arith, K.full b, suc-mul i w, mul-le-mul_right w room) in
      let past : drop whole u ≡ drop whole t =
      ext_get_or 0 _ _ (length-drop whole u ∙ (ap (λ (n : ℕ). n - whole) same ∙ sym (length-drop whole t)))
      (λ j h. get_or-drop whole u j 0 ∙ (sets_out (K.fields b) t (i * w) (whole + j) (λ a c. omega arith) ∙ sym (get_or-drop whole t j 0))) in
      let table : u ≡ relaid w K.fields (set (rows t) i b) t =
      sym (relaid_own u)
      ∙ (ap (λ (xs : List A). relaid w K.fields xs u) (rows_put t i b l)
      ∙ (ap (λ (n : ℕ). flat K.fields (set (rows t) i b) ++ drop (n / w * w) u) same ∙ ap (λ (x : List ℕ). flat K.fields (set (rows t) i b) ++ x) past)) in
      record { laid = record { table = table } }

-- rows of branches
abbrev pub branch_kind : Kind Branch
branch_kind =
    record {
      width = branch_width;
      wide = omega arith;
      make = branch_of;
      fields = branch_fields;
      full = λ b. refl;
      back = λ b. refl;
      column = λ f. four (λ j. get_or (branch_fields (branch_of f)) j 0 ≡ f j) refl refl refl refl;
      same = λ f g h k. record { start = h 0 (omega arith) k; end = h 1 (omega arith) k; cut = h 2 (omega arith) k; order = h 3 (omega arith) k };
    }

-- rows of records
abbrev pub record_kind : Kind Record
record_kind =
    record {
      width = record_width;
      wide = omega arith;
      make = record_of;
      fields = record_fields;
      full = λ r. refl;
      back = λ r. refl;
      column = λ f. three (λ j. get_or (record_fields (record_of f)) j 0 ≡ f j) refl refl refl;
      same = λ f g h k. record { address = h 0 (omega arith) k; moment = h 1 (omega arith) k; place = h 2 (omega arith) k };
    }

-- rows of names
abbrev pub name_kind : Kind Name
name_kind =
    record {
      width = name_width;
      wide = omega arith;
      make = name_of;
      fields = name_fields;
      full = λ n. refl;
      back = λ n. refl;
      column = λ f. three (λ j. get_or (name_fields (name_of f)) j 0 ≡ f j) refl refl refl;
      same = λ f g h k. record { high = h 0 (omega arith) k; low = h 1 (omega arith) k; moment = h 2 (omega arith) k };
    }

-- how many rows a table has
pub branch_count : (t : List ℕ) → length (branch_rows_of t) ≡ length t / branch_width
branch_count t = rows_length branch_kind t

pub record_count : (t : List ℕ) → length (record_rows_of t) ≡ length t / record_width
record_count t = rows_length record_kind t

pub name_count : (t : List ℕ) → length (name_rows_of t) ≡ length t / name_width
name_count t = rows_length name_kind t

-- three numbers stored one after the other
three_sets : (t : List ℕ) (p a b c : ℕ) {u v x : List ℕ} → u ≡ set t p a → v ≡ set u (p + 1) b → x ≡ set v (p + 2) c → x ≡ sets t p (a ∷ b ∷ c ∷ [])
three_sets t p a b c e₁ e₂ e₃ =
    let e : set (set (set t p a) (p + 1) b) (p + 2) c ≡ sets t p (a ∷ b ∷ c ∷ []) = simp towards_suc in
    rw (e₃, e₂, e₁, e)

-- and a fourth behind them
four_sets : (t : List ℕ) (p a b c d : ℕ) {x y : List ℕ} → x ≡ sets t p (a ∷ b ∷ c ∷ []) → y ≡ set x (p + 3) d → y ≡ sets t p (a ∷ b ∷ c ∷ d ∷ [])
four_sets t p a b c d e₃ e₄ =
    let e : set (sets t p (a ∷ b ∷ c ∷ [])) (p + 3) d ≡ sets t p (a ∷ b ∷ c ∷ d ∷ []) = simp towards_suc in
    rw (e₄, e₃, e)

-- a row read and a row stored, as the code does it
module _ (t : List ℕ) (i : ℕ) where
  pub branch_get : BranchesIn (suc i) t
      → branch (branch_rows_of t) i
      ≡ record { start = get_or t (i * branch_width) 0; end = get_or t (i * branch_width + 1) 0; cut = get_or t (i * branch_width + 2) 0; order = get_or t (i * branch_width + 3) 0 }
  branch_get l = rows_get branch_kind t i zero_branch (omega arith) ∙ rw (add-zero (i * branch_width))

  pub branch_put : BranchesIn (suc i) t → (b : Branch) {u v x y : List ℕ} → u ≡ set t (i * branch_width) b.start → v ≡ set u (i * branch_width + 1) b.end → x ≡ set v (i * branch_width + 2) b.cut
      → y ≡ set x (i * branch_width + 3) b.order → BranchSet t i b y
  branch_put l b e₁ e₂ e₃ e₄ = rw (four_sets t (i * branch_width) _ _ _ _ (three_sets t (i * branch_width) _ _ _ e₁ e₂ e₃) e₄) (row_put branch_kind t i b (omega arith))

  pub record_get : RecordsIn (suc i) t
      → entry (record_rows_of t) i
      ≡ record { address = get_or t (i * record_width) 0; moment = get_or t (i * record_width + 1) 0; place = get_or t (i * record_width + 2) 0 }
  record_get l = rows_get record_kind t i zero_record (omega arith) ∙ rw (add-zero (i * record_width))

  pub record_put : RecordsIn (suc i) t → (r : Record) {u v x : List ℕ} → u ≡ set t (i * record_width) r.address → v ≡ set u (i * record_width + 1) r.moment → x ≡ set v (i * record_width + 2) r.place
      → RecordSet t i r x
  record_put l r e₁ e₂ e₃ = rw (three_sets t (i * record_width) _ _ _ e₁ e₂ e₃) (row_put record_kind t i r (omega arith))

  pub name_get : NamesIn (suc i) t
      → name_row (name_rows_of t) i
      ≡ record { high = get_or t (i * name_width) 0; low = get_or t (i * name_width + 1) 0; moment = get_or t (i * name_width + 2) 0 }
  name_get l = rows_get name_kind t i zero_name (omega arith) ∙ rw (add-zero (i * name_width))

  pub name_put : NamesIn (suc i) t → (n : Name) {u v x : List ℕ} → u ≡ set t (i * name_width) n.high → v ≡ set u (i * name_width + 1) n.low → x ≡ set v (i * name_width + 2) n.moment
      → NameSet t i n x
  name_put l n e₁ e₂ e₃ = rw (three_sets t (i * name_width) _ _ _ e₁ e₂ e₃) (row_put name_kind t i n (omega arith))

-- a table of zeros: its length, and its rows
pub length_zeros : (n : ℕ) → length (zeros n) ≡ n
unfolding zeros
length_zeros n = length-replicate {A = ℕ} n 0

pub zero_rows_lem : {A : Type 0} (K : Kind A) (z : A) → K.make (λ j. 0) ≡ z → (n : ℕ) → rows_by K.width K.make (zeros n) ≡ replicate (n / K.width) z
unfolding rows_by zeros
zero_rows_lem K z e n =
    rw (length_zeros n) (zero_tab (n / K.width) (row_at K.width K.make (replicate n 0)) z (λ k h. K.same _ _ (λ j i. get_d_replicate n (k * K.width + j)) ∙ e))
