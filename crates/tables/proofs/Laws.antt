-- The loops over a table, and its lengths.
use Prim.Native.Nat.{ℕ, suc, ◌+◌, ◌*◌, ◌/◌, ◌%◌, ◌^◌, ◌≤◌, ◌<◌}
use mathlib.Core.Path.{◌≡◌, sym, ap, ap₂, ◌∙◌}
use mathlib.Core.List.{List, [], ◌∷◌, ◌++◌, append-nil}
use mathlib.Core.Bool.{true, false}
use native.Mathlib.Omega.{arith}
use lib.Dec.{eqb}
use lib.ListN.{length, get_or, set, take, drop, drop_of_length-le, length-drop}
use lib.Seq.{length-take-le, get_or-drop, take-suc, take-suc-set, take_all}
use borrow.Author.Tests.{eqb-true, eq-eqb, leb-true, le-leb}
use Rattle.model.specs.Wire.{number, bytes}
use Rattle.model.proofs.Base.{case, and→, →and}
use Rattle.rows.specs.Rows.{flat, branch_width, record_width, name_width}
use Rattle.rows.proofs.Tab.{get_d_tab}
use Rattle.wire.specs.Front.{in_front}
use Rattle.tables.specs.Numbers.{spelled_at, spelled, numbers_of, bytes_of}
use Rattle.tables.specs.Tables.{rows_fit, lengths_fit}
use Rattle.model.proofs.Bytes.{number_fits, take_fits}
use Rattle.rows.proofs.Relaid.{flat_append}
use Rattle.tables.proofs.Spelling.{length_flat, length_spelled}

one : (src : List ℕ) (i : ℕ) → i < length src / 4 → get_or (numbers_of src) i 0 ≡ spelled_at 4 src i
unfolding spelled
one src i h = get_d_tab (length src / 4) (spelled_at 4 src) i 0 h

-- four bytes spell a number of 32 bits
pub spelled_fits : (src : List ℕ) (i : ℕ) → i * 4 + 4 ≤ length src → ((k : ℕ) → get_or src k 0 < 256) → spelled_at 4 src i < 4294967296
spelled_fits src i l h =
    let part : List ℕ = drop (i * 4) src in
    let n : length (take 4 part) ≡ 4 = length-take-le 4 part (omega (arith, length-drop (i * 4) src)) in
    let fits : number 0 (take 4 part) < 256 ^ length (take 4 part) = number_fits (take 4 part) (take_fits 4 part (λ k. rw (get_or-drop (i * 4) src k 0) (h (i * 4 + k)))) in
    rw n at fits

-- i numbers stand, and the next is stored
pub number_next : (src dst : List ℕ) (i v : ℕ) → length src ≡ length dst * 4 → i < length dst → take i dst ≡ take i (numbers_of src)
    → v ≡ spelled_at 4 src i → take (suc i) (set dst i v) ≡ take (suc i) (numbers_of src)
number_next src dst i v l h e f =
    let n : length (numbers_of src) ≡ length dst = length_spelled 4 (omega arith) src ∙ omega arith in
    take-suc-set dst i v h
    ∙ (ap₂ (λ (xs : List ℕ) (x : ℕ). xs ++ (x ∷ [])) e (f ∙ sym (one src i (omega arith))) ∙ sym (take-suc (numbers_of src) i 0 (omega arith)))

-- all numbers stand
pub numbers_all : (src dst : List ℕ) (i : ℕ) → length src ≡ length dst * 4 → length dst ≤ i → take i dst ≡ take i (numbers_of src) → dst ≡ numbers_of src
numbers_all src dst i l h e =
    let n : length (numbers_of src) ≡ length dst = length_spelled 4 (omega arith) src ∙ omega arith in
    sym (take_all i dst h) ∙ (e ∙ take_all i (numbers_of src) (omega arith))

-- the bytes of i numbers stand in front, and those of the next follow
pub bytes_next : (src : List ℕ) (i : ℕ) → i < length src → bytes_of (take i src) ++ bytes 4 (get_or src i 0) ≡ bytes_of (take (suc i) src)
unfolding flat
bytes_next src i h =
    sym (ap bytes_of (take-suc src i 0 h) ∙ (flat_append (bytes 4) (take i src) (get_or src i 0 ∷ []) ∙ ap (λ (xs : List ℕ). bytes_of (take i src) ++ xs) (append-nil (bytes 4 (get_or src i 0)))))

-- the bytes of all numbers stand
pub bytes_all : (src dst : List ℕ) (i : ℕ) → length dst ≡ length src * 4 → length src ≤ i → in_front (bytes_of (take i src)) dst ≡ bytes_of src
bytes_all src dst i l h =
    let n : length (bytes_of src) ≡ length dst = length_flat 4 (omega arith) src ∙ sym l in
    let m : length dst ≤ length (bytes_of src) = omega arith in
    rw (take_all i src h, drop_of_length-le dst m) (append-nil (bytes_of src))

-- the lengths that may be lent, as statements
pub record Lengths (h b r p n : ℕ) : Type 0 where
  pub head : h ≡ 24
  pub branches : b % (branch_width * 4) ≡ 0
  pub branches_most : b ≤ branch_width * 4 * 4096
  pub records : r % (record_width * 4) ≡ 0
  pub records_most : r ≤ record_width * 4 * 65536
  pub places : p % 4 ≡ 0
  pub places_most : p ≤ 4 * 65536
  pub names : n ≡ 32 * name_width * 4

module _ {h b r p n : ℕ} where
  pub lengths→ : lengths_fit h b r p n ≡ true → Lengths h b r p n
  unfolding lengths_fit
  lengths→ e =
      let x = and→ (eqb h 24) _ e in
      let y = and→ (rows_fit branch_width 4096 b) _ x.1 in
      let z = and→ (rows_fit record_width 65536 r) _ y.1 in
      let k = and→ (eqb (b % (branch_width * 4)) 0) _ y.0 in
      let l = and→ (eqb (r % (record_width * 4)) 0) _ z.0 in
      let u = and→ (rows_fit 1 65536 p) _ z.1 in
      let m = and→ (eqb (p % 4) 0) _ u.0 in
      record {
        head = eqb-true _ _ x.0;
        branches = eqb-true _ _ k.0;
        branches_most = leb-true _ _ k.1;
        records = eqb-true _ _ l.0;
        records_most = leb-true _ _ l.1;
        places = eqb-true _ _ m.0;
        places_most = leb-true _ _ m.1;
        names = eqb-true _ _ u.1;
      }

  pub →lengths : Lengths h b r p n → true ≡ lengths_fit h b r p n
  unfolding lengths_fit
  →lengths z =
      sym (→and (eq-eqb _ _ z.head) (→and (→and (eq-eqb _ _ z.branches) (le-leb _ _ z.branches_most))
      (→and (→and (eq-eqb _ _ z.records) (le-leb _ _ z.records_most)) (→and (→and (eq-eqb _ _ z.places) (le-leb _ _ z.places_most)) (eq-eqb _ _ z.names)))))

  pub lengths_no : (Lengths h b r p n → ⊥) → false ≡ lengths_fit h b r p n
  lengths_no f = case (lengths_fit h b r p n) (λ e. absurd (f (lengths→ e))) (λ e. sym e)
