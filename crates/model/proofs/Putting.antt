-- A record put in at row k: the rows before it stay, those from there on move by one.
use mathlib.Core.Path.{◌≡◌, ap, sym, ◌∙◌}
use mathlib.Core.List.{List, ◌∷◌}
use Prim.Native.Nat.{ℕ, suc, ◌+◌, ◌-◌, ◌≤◌, ◌<◌}
use native.Mathlib.Decide.{dec_lt}
use native.Mathlib.Omega.{arith}
use lib.ListN.{length, get_or, take, drop, length-drop, length-append, get_or-append}
use lib.Seq.{get_or-take, get_or-drop, length-take-le, ext_get_or, get_or_at, get_or-append-add}
use Rattle.model.specs.declared.Record.{Record}
use Rattle.model.specs.Step.{put_in}

module _ (xs : List Record) (k : ℕ) (r d : Record) (h : k ≤ length xs) where
  front : length (take k xs) ≡ k
  front = length-take-le k xs h

  pub put_length : length (put_in k r xs) ≡ length xs + 1
  put_length = omega (arith, length-append (take k xs) (r ∷ drop k xs), front, length-drop k xs)

  pub put_before : (i : ℕ) → i < k → get_or (put_in k r xs) i d ≡ get_or xs i d
  put_before i l = get_or-append (take k xs) (r ∷ drop k xs) d i (omega (arith, front)) ∙ get_or-take k xs i d l

  pub put_here : get_or (put_in k r xs) k d ≡ r
  put_here = get_or_at (take k xs) r (drop k xs) d k front

  pub put_after : (i : ℕ) → k ≤ i → get_or (put_in k r xs) (i + 1) d ≡ get_or xs i d
  put_after i l =
      let a : i + 1 ≡ length (take k xs) + suc (i - k) = omega (arith, front) in
      let b : k + (i - k) ≡ i = omega arith in
      rw a (get_or-append-add (take k xs) (r ∷ drop k xs) (suc (i - k)) d ∙ (get_or-drop k xs (i - k) d ∙ ap (λ (x : ℕ). get_or xs x d) b))

  -- what pins the result
  pub put_is : (ys : List Record) → length ys ≡ length xs + 1 → ((i : ℕ) → i < k → get_or ys i d ≡ get_or xs i d) → get_or ys k d ≡ r
      → ((i : ℕ) → k ≤ i → i < length xs → get_or ys (i + 1) d ≡ get_or xs i d) → ys ≡ put_in k r xs
  put_is ys l b e a = ext_get_or d ys (put_in k r xs) (l ∙ sym put_length) (λ i m. go i m (dec_lt i k) (dec_lt k i))
    where
      go : (i : ℕ) → i < length ys → Dec (i < k) → Dec (k < i) → get_or ys i d ≡ get_or (put_in k r xs) i d
      go i m (yes p) q = b i p ∙ sym (put_before i p)
      go i m (no p) (yes q) =
          let z : i ≡ (i - 1) + 1 = omega arith in
          rw z (a (i - 1) (omega arith) (omega arith) ∙ sym (put_after (i - 1) (omega arith)))
      go i m (no p) (no q) =
          let z : i ≡ k = omega arith in
          rw z (e ∙ sym put_here)
