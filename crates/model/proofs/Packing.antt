-- Numbers as bytes and packed fields, for any width.
use Prim.Native.Nat.{ℕ, zero, suc, ◌+◌, ◌*◌, ◌-◌, ◌/◌, ◌%◌, ◌^◌, ◌≤◌, ◌<◌}
use mathlib.Core.Path.{◌≡◌, refl, sym, ap, ◌∙◌}
use mathlib.Core.List.{List, [], ◌∷◌, ◌++◌}
use native.Mathlib.Omega.{arith}
use native.Mathlib.Nat.{add-mul, suc-mul, mul_assoc, mul_comm, mul-le-mul_right, mod-lt, mod-one, mod-eq_of_lt, div-add-mod', add-mul-mod_self_right, mul-add-mod_self_right, mul-add-div_right, div-div-eq-div-mul, div-eq_of_lt, pow-suc}
use lib.Pow.{pow_pos, pow-add}
use lib.ListN.{length}
use Rattle.model.specs.Wire.{number, bytes, Field, packed, field}

-- a remainder of a product, digit by digit
pub mod_digits : (n b c : ℕ) → 0 < b → 0 < c → n % (c * b) ≡ n / b % c * b + n % b
mod_digits n b c hb hc =
    let q : ℕ = n / b in
    let low : ℕ = q % c * b + n % b in
    let e : n ≡ low + q / c * (c * b) =
    sym (div-add-mod' n b)
    ∙ (ap (λ (x : ℕ). x * b + n % b) (sym (div-add-mod' q c))
    ∙ (ap (λ (x : ℕ). x + n % b) (add-mul (q / c * c) (q % c) b ∙ ap (λ (x : ℕ). x + q % c * b) (mul_assoc (q / c) c b)) ∙ regroup (q / c * (c * b)) (q % c * b) (n % b))) in
    let l : suc (q % c) * b ≤ c * b = mul-le-mul_right b (mod-lt q hc) in
    let d : suc (q % c) * b ≡ q % c * b + b = suc-mul (q % c) b in
    let h : low < c * b = omega (arith, mod-lt n hb) in
    ap (λ (x : ℕ). x % (c * b)) e ∙ (add-mul-mod_self_right low (q / c) (c * b) ∙ mod-eq_of_lt h)
  where
    regroup : (x y z : ℕ) → x + y + z ≡ y + z + x
    regroup x y z = omega arith

pub bytes_pos : (count : ℕ) → 0 < 256 ^ count
bytes_pos zero = omega arith
bytes_pos (suc count) = omega (arith, bytes_pos count, pow-suc 256 count)

-- `count` bytes of n spell n's last 8 × count bits
pub number_bytes : (count acc n : ℕ) → number acc (bytes count n) ≡ acc * 256 ^ count + n % 256 ^ count
unfolding number bytes
number_bytes zero acc n = omega (arith, mod-one n)
number_bytes (suc count) acc n =
    let p : 0 < 256 ^ count = bytes_pos count in
    let x : ℕ = n / 256 ^ count % 256 in
    let e : (acc * 256 + x) * 256 ^ count ≡ acc * 256 * 256 ^ count + x * 256 ^ count = add-mul (acc * 256) x (256 ^ count) in
    let f : acc * 256 * 256 ^ count ≡ acc * 256 ^ suc count = mul_assoc acc 256 (256 ^ count) ∙ ap (λ (y : ℕ). acc * y) (mul_comm 256 (256 ^ count) ∙ sym (pow-suc 256 count)) in
    let g : n % 256 ^ suc count ≡ x * 256 ^ count + n % 256 ^ count =
    ap (λ (y : ℕ). n % y) (pow-suc 256 count ∙ mul_comm (256 ^ count) 256) ∙ mod_digits n (256 ^ count) 256 p (omega arith) in
    number_bytes count (acc * 256 + x) n ∙ omega arith

pub length_bytes : (count n : ℕ) → length (bytes count n) ≡ count
unfolding bytes
length_bytes zero n = refl
length_bytes (suc count) n = ap suc (length_bytes count n)

-- each value fits its width
abbrev pub Fit : List Field → Type 0
Fit [] = Unit {0}
Fit (f ∷ fs) = (f.value < 2 ^ f.width) × Fit fs

-- the bits of all fields
abbrev pub bits : List Field → ℕ
bits [] = 0
bits (f ∷ fs) = f.width + bits fs

pub packed_append : (n : ℕ) (xs ys : List Field) → packed n (xs ++ ys) ≡ packed (packed n xs) ys
unfolding packed
packed_append n [] ys = refl
packed_append n (f ∷ xs) ys = packed_append (n * 2 ^ f.width + f.value) xs ys

-- what stands before the fields stands above them
pub packed_above : (n : ℕ) (fs : List Field) → packed n fs ≡ n * 2 ^ bits fs + packed 0 fs
unfolding packed
packed_above n [] = omega arith
packed_above n (f ∷ fs) =
    let w : ℕ = 2 ^ f.width in
    let b : ℕ = 2 ^ bits fs in
    let e : (n * w + f.value) * b ≡ n * w * b + f.value * b = add-mul (n * w) f.value b in
    let g : n * w * b ≡ n * 2 ^ (f.width + bits fs) = mul_assoc n w b ∙ ap (λ (y : ℕ). n * y) (sym (pow-add 2 f.width (bits fs))) in
    let z : 0 * w + f.value ≡ f.value = omega arith in
    let h : packed (0 * w + f.value) fs ≡ f.value * b + packed 0 fs = ap (λ (x : ℕ). packed x fs) z ∙ packed_above f.value fs in
    packed_above (n * w + f.value) fs ∙ omega arith

pub packed_fits : (fs : List Field) → Fit fs → packed 0 fs < 2 ^ bits fs
unfolding packed
packed_fits [] h = omega arith
packed_fits (f ∷ fs) h =
    let b : ℕ = 2 ^ bits fs in
    let ih : packed 0 fs < b = packed_fits fs h.1 in
    let z : 0 * 2 ^ f.width + f.value ≡ f.value = omega arith in
    let e : packed (0 * 2 ^ f.width + f.value) fs ≡ f.value * b + packed 0 fs = ap (λ (x : ℕ). packed x fs) z ∙ packed_above f.value fs in
    let l : suc f.value * b ≤ 2 ^ f.width * b = mul-le-mul_right b h.0 in
    let d : suc f.value * b ≡ f.value * b + b = suc-mul f.value b in
    let g : 2 ^ (f.width + bits fs) ≡ 2 ^ f.width * b = pow-add 2 f.width (bits fs) in
    omega arith

-- the number above fields that fit is read by leaving their bits away
pub packed_div : (n : ℕ) (fs : List Field) → Fit fs → packed n fs / 2 ^ bits fs ≡ n
packed_div n fs h =
    let p : 0 < 2 ^ bits fs = pow_pos (bits fs) in
    ap (λ (x : ℕ). x / 2 ^ bits fs) (packed_above n fs)
    ∙ (mul-add-div_right p n (packed 0 fs) ∙ omega (arith, div-eq_of_lt (packed_fits fs h)))

-- a field put in is the field read back, whatever stands before and after it
pub field_read : (n : ℕ) (xs : List Field) (f : Field) (ys : List Field) → Fit (f ∷ ys) → field (packed n (xs ++ (f ∷ ys))) (bits ys) f.width ≡ f.value
unfolding packed
field_read n xs f ys h =
    ap (λ (x : ℕ). x / 2 ^ bits ys % 2 ^ f.width) (packed_append n xs (f ∷ ys))
    ∙ (ap (λ (x : ℕ). x % 2 ^ f.width) (packed_div (packed n xs * 2 ^ f.width + f.value) ys h.1)
    ∙ (mul-add-mod_self_right (packed n xs) (2 ^ f.width) f.value ∙ mod-eq_of_lt h.0))

-- what stands above fields that fit is read above them
pub field_above : (n : ℕ) (fs : List Field) (k w : ℕ) → Fit fs → field (packed n fs) (bits fs + k) w ≡ field n k w
field_above n fs k w h =
    let e : packed n fs / 2 ^ (bits fs + k) ≡ n / 2 ^ k =
    ap (λ (x : ℕ). packed n fs / x) (pow-add 2 (bits fs) k)
    ∙ (sym (div-div-eq-div-mul (packed n fs) (2 ^ bits fs) (2 ^ k)) ∙ ap (λ (x : ℕ). x / 2 ^ k) (packed_div n fs h)) in
    ap (λ (x : ℕ). x % 2 ^ w) e

-- a field within the last fields does not depend on what stands above them
pub field_below : (n : ℕ) (fs : List Field) (k w : ℕ) → k + w ≤ bits fs → field (packed n fs) k w ≡ field (packed 0 fs) k w
field_below n fs k w l =
    let r : ℕ = bits fs - (k + w) in
    let b : bits fs ≡ r + w + k = omega arith in
    let p : 2 ^ bits fs ≡ 2 ^ r * 2 ^ w * 2 ^ k = ap (λ (x : ℕ). 2 ^ x) b ∙ (pow-add 2 (r + w) k ∙ ap (λ (x : ℕ). x * 2 ^ k) (pow-add 2 r w)) in
    let m : n * 2 ^ bits fs ≡ n * 2 ^ r * 2 ^ w * 2 ^ k =
    ap (λ (x : ℕ). n * x) p ∙ (sym (mul_assoc n (2 ^ r * 2 ^ w) (2 ^ k)) ∙ ap (λ (x : ℕ). x * 2 ^ k) (sym (mul_assoc n (2 ^ r) (2 ^ w)))) in
    let e : packed n fs / 2 ^ k ≡ n * 2 ^ r * 2 ^ w + packed 0 fs / 2 ^ k =
    ap (λ (x : ℕ). x / 2 ^ k) (packed_above n fs ∙ ap (λ (x : ℕ). x + packed 0 fs) m)
    ∙ mul-add-div_right (pow_pos k) (n * 2 ^ r * 2 ^ w) (packed 0 fs) in
    ap (λ (x : ℕ). x % 2 ^ w) e ∙ mul-add-mod_self_right (n * 2 ^ r) (2 ^ w) (packed 0 fs / 2 ^ k)

-- another value in one field leaves the fields beside it untouched: those above, and those below
module _ (n : ℕ) (xs : List Field) (f g : Field) (ys : List Field) (k w : ℕ) where
  pub beside_above : f.width ≡ g.width → Fit (f ∷ ys) → Fit (g ∷ ys)
      → field (packed n (xs ++ (f ∷ ys))) (bits (f ∷ ys) + k) w ≡ field (packed n (xs ++ (g ∷ ys))) (bits (f ∷ ys) + k) w
  beside_above e hf hg =
      let b : bits (f ∷ ys) + k ≡ bits (g ∷ ys) + k = ap (λ (x : ℕ). x + bits ys + k) e in
      ap (λ (x : ℕ). field x (bits (f ∷ ys) + k) w) (packed_append n xs (f ∷ ys))
      ∙ (field_above (packed n xs) (f ∷ ys) k w hf
      ∙ (sym (field_above (packed n xs) (g ∷ ys) k w hg)
      ∙ (ap (λ (x : ℕ). field x (bits (g ∷ ys) + k) w) (sym (packed_append n xs (g ∷ ys)))
      ∙ ap (λ (x : ℕ). field (packed n (xs ++ (g ∷ ys))) x w) (sym b))))

  pub beside_below : k + w ≤ bits ys → field (packed n (xs ++ (f ∷ ys))) k w ≡ field (packed n (xs ++ (g ∷ ys))) k w
  unfolding packed
  beside_below l =
      ap (λ (x : ℕ). field x k w) (packed_append n xs (f ∷ ys))
      ∙ (field_below (packed n xs * 2 ^ f.width + f.value) ys k w l
      ∙ (sym (field_below (packed n xs * 2 ^ g.width + g.value) ys k w l)
      ∙ ap (λ (x : ℕ). field x k w) (sym (packed_append n xs (g ∷ ys)))))
