-- Numbers to bytes and back, for any width.
use Prim.Native.Nat.{ℕ, zero, suc, ◌+◌, ◌*◌, ◌/◌, ◌%◌, ◌^◌, ◌≤◌, ◌<◌}
use mathlib.Core.Path.{◌≡◌, sym, ap, ap₂, ◌∙◌}
use mathlib.Core.List.{List, [], ◌∷◌, ◌++◌}
use native.Mathlib.Omega.{arith}
use native.Mathlib.Numerals.{add-one}
use native.Mathlib.Nat.{suc-mul, zero-mul, mod-eq_of_lt, add-div_left, div-add-mod', zero-div}
use lib.ListN.{length, get_or, take, drop, length-append, length-drop, take-append-drop}
use lib.Seq.{take_at, drop_at, drop-drop, length-take-le, get_or-drop}
use Rattle.model.specs.Wire.{number, bytes}
use Rattle.model.proofs.Packing.{number_bytes, length_bytes}
use Rattle.model.proofs.Bytes.{bytes_number, take_fits}
use Rattle.rows.specs.Rows.{tab, flat}
use Rattle.rows.proofs.Tab.{length_tab, tab_ext}
use Rattle.rows.proofs.Relaid.{flat_length}
use Rattle.tables.specs.Numbers.{spelled_at, spelled}

module _ (w : ℕ) (wide : 0 < w) where
  pub length_spelled : (bs : List ℕ) → length (spelled w bs) ≡ length bs / w
  unfolding spelled
  length_spelled bs = length_tab (length bs / w) (spelled_at w bs)

  pub length_flat : (xs : List ℕ) → length (flat (bytes w) xs) ≡ length xs * w
  length_flat = flat_length (bytes w) w (length_bytes w)

  spelled_none : spelled w [] ≡ []
  unfolding spelled tab
  spelled_none = rw (zero-div w)

  -- the first number, and what the bytes past it spell
  spelled_front : (front rest : List ℕ) → length front ≡ w → spelled w (front ++ rest) ≡ number 0 front ∷ spelled w rest
  unfolding spelled tab
  spelled_front front rest l =
      let n : length (front ++ rest) / w ≡ suc (length rest / w) =
      ap (λ (x : ℕ). x / w) (length-append front rest ∙ ap (λ (x : ℕ). x + length rest) l) ∙ (add-div_left (length rest) wide ∙ add-one (length rest / w)) in
      let first : take w (drop (0 * w) (front ++ rest)) ≡ front =
      rw (zero-mul w) (take_at front rest w l) in
      let more : (k : ℕ) → drop (suc k * w) (front ++ rest) ≡ drop (k * w) rest =
      λ k.
      let e : suc k * w ≡ w + k * w = suc-mul k w ∙ omega arith in
      ap (λ (x : ℕ). drop x (front ++ rest)) e ∙ (sym (drop-drop (k * w) w (front ++ rest)) ∙ ap (drop (k * w)) (drop_at front rest w l)) in
      rw n (ap₂ (λ (x : ℕ) (t : List ℕ). x ∷ t) (ap (number 0) first)
      (tab_ext (length rest / w) (λ k. spelled_at w (front ++ rest) (suc k)) (spelled_at w rest) (λ k _. ap (λ (t : List ℕ). number 0 (take w t)) (more k))))

  -- numbers to bytes and back
  pub spelled_flat : (xs : List ℕ) → ((k : ℕ) → get_or xs k 0 < 256 ^ w) → spelled w (flat (bytes w) xs) ≡ xs
  unfolding flat
  spelled_flat [] h = spelled_none
  spelled_flat (x ∷ xs) h =
      spelled_front (bytes w x) (flat (bytes w) xs) (length_bytes w x)
      ∙ ap₂ (λ (y : ℕ) (t : List ℕ). y ∷ t) (number_bytes w 0 x ∙ (omega (arith, zero-mul (256 ^ w)) ∙ mod-eq_of_lt (h 0))) (spelled_flat xs (λ k. h (suc k)))

  -- bytes to numbers and back
  whole_back : (n : ℕ) (bs : List ℕ) → length bs ≡ n * w → ((k : ℕ) → get_or bs k 0 < 256) → flat (bytes w) (spelled w bs) ≡ bs
  unfolding flat
  whole_back zero [] l h = ap (flat (bytes w)) spelled_none
  whole_back zero (b ∷ bs) l h = absurd (omega (arith, zero-mul w))
  whole_back (suc n) bs l h =
      let m : w ≤ length bs = omega (arith, suc-mul n w) in
      let front : List ℕ = take w bs in
      let f : length front ≡ w = length-take-le w bs m in
      let own : bytes w (number 0 front) ≡ front =
      rw f at (bytes_number front (take_fits w bs h)) in
      let e : spelled w bs ≡ number 0 front ∷ spelled w (drop w bs) =
      rw (take-append-drop w bs) at (spelled_front front (drop w bs) f) in
      ap (flat (bytes w)) e
      ∙ (ap₂ (λ (s t : List ℕ). s ++ t) own (whole_back n (drop w bs) (omega (arith, length-drop w bs, suc-mul n w)) (λ k. rw (get_or-drop w bs k 0) (h (w + k))))
      ∙ take-append-drop w bs)

  pub flat_spelled : (bs : List ℕ) → length bs % w ≡ 0 → ((k : ℕ) → get_or bs k 0 < 256) → flat (bytes w) (spelled w bs) ≡ bs
  flat_spelled bs e h = whole_back (length bs / w) bs (omega (arith, div-add-mod' (length bs) w)) h
