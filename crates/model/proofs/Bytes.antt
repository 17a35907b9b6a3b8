-- Numbers as bytes and back, and packed fields cut into whole bytes, for any count of bytes.
use Prim.Native.Nat.{ℕ, zero, suc, ◌+◌, ◌*◌, ◌/◌, ◌%◌, ◌^◌, ◌≤◌, ◌<◌}
use mathlib.Core.Path.{◌≡◌, refl, sym, ap, ◌∙◌}
use mathlib.Core.List.{List, [], ◌∷◌, ◌++◌}
use native.Mathlib.Omega.{arith}
use native.Mathlib.Nat.{add-mul, suc-mul, mul_assoc, mul_comm, mul-le-mul_right, mod-eq_of_lt, mul-add-mod_self_right, mul-add-div_right, div-eq_of_lt, div-div-eq-div-mul, pow-suc, pow-succ', zero-add, suc-add, div-one}
use lib.Pow.{pow-add}
use lib.ListN.{length, get_or, take}
use Rattle.model.specs.Wire.{number, bytes, Field, packed}
use Rattle.model.proofs.Packing.{bytes_pos, Fit, bits, packed_append, packed_above, packed_fits}

-- what stands above `count` bytes is not in them
pub bytes_low : (count m n : ℕ) → bytes count (m * 256 ^ count + n) ≡ bytes count n
unfolding bytes
bytes_low zero m n = refl
bytes_low (suc count) m n =
    let b : ℕ = 256 ^ count in
    let e : m * 256 ^ suc count ≡ m * 256 * b = ap (λ (x : ℕ). m * x) (pow-succ' 256 count) ∙ sym (mul_assoc m 256 b) in
    let d : (m * 256 ^ suc count + n) / b % 256 ≡ n / b % 256 =
    ap (λ (x : ℕ). (x + n) / b % 256) e
    ∙ (ap (λ (x : ℕ). x % 256) (mul-add-div_right (bytes_pos count) (m * 256) n) ∙ mul-add-mod_self_right m 256 (n / b)) in
    let t : bytes count (m * 256 ^ suc count + n) ≡ bytes count n = ap (λ (x : ℕ). bytes count (x + n)) e ∙ bytes_low count (m * 256) n in
    λ j. d j ∷ t j

-- the bytes of a number above n bytes, then those
pub bytes_join : (m n high low : ℕ) → low < 256 ^ n → bytes (m + n) (high * 256 ^ n + low) ≡ bytes m high ++ bytes n low
unfolding bytes
bytes_join zero n high low h = rw (zero-add n) (bytes_low n high low)
bytes_join (suc m) n high low h =
    let b : ℕ = 256 ^ n in
    let e : 256 ^ (m + n) ≡ b * 256 ^ m = pow-add 256 m n ∙ mul_comm (256 ^ m) b in
    let q : (high * b + low) / b ≡ high = mul-add-div_right (bytes_pos n) high low ∙ omega (arith, div-eq_of_lt h) in
    let d : (high * b + low) / 256 ^ (m + n) % 256 ≡ high / 256 ^ m % 256 =
    ap (λ (x : ℕ). (high * b + low) / x % 256) e
    ∙ (ap (λ (x : ℕ). x % 256) (sym (div-div-eq-div-mul (high * b + low) b (256 ^ m))) ∙ ap (λ (x : ℕ). x / 256 ^ m % 256) q) in
    let t : bytes (m + n) (high * b + low) ≡ bytes m high ++ bytes n low = bytes_join m n high low h in
    rw (suc-add m n) (λ j. d j ∷ t j)

-- fields of m bytes and fields of n bytes are packed apart
pub packed_join : (m n : ℕ) (fs gs : List Field) → Fit gs → 2 ^ bits gs ≡ 256 ^ n
    → bytes (m + n) (packed 0 (fs ++ gs)) ≡ bytes m (packed 0 fs) ++ bytes n (packed 0 gs)
packed_join m n fs gs h e =
    let p : packed 0 (fs ++ gs) ≡ packed 0 fs * 256 ^ n + packed 0 gs =
    packed_append 0 fs gs ∙ (packed_above (packed 0 fs) gs ∙ ap (λ (x : ℕ). packed 0 fs * x + packed 0 gs) e) in
    ap (bytes (m + n)) p ∙ bytes_join m n (packed 0 fs) (packed 0 gs) (rw e at (packed_fits gs h))

-- what bytes spell after acc, and alone
pub number_above : (acc : ℕ) (bs : List ℕ) → number acc bs ≡ acc * 256 ^ length bs + number 0 bs
unfolding number
number_above acc [] = omega arith
number_above acc (b ∷ bs) =
    let p : ℕ = 256 ^ length bs in
    let e : (acc * 256 + b) * p ≡ acc * 256 * p + b * p = add-mul (acc * 256) b p in
    let f : acc * 256 * p ≡ acc * 256 ^ suc (length bs) = mul_assoc acc 256 p ∙ ap (λ (y : ℕ). acc * y) (mul_comm 256 p ∙ sym (pow-suc 256 (length bs))) in
    omega (arith, number_above (acc * 256 + b) bs, number_above (0 * 256 + b) bs, ap (λ (x : ℕ). x * p) (plain b))
  where
    plain : (b : ℕ) → 0 * 256 + b ≡ b
    plain b = omega arith

-- n bytes spell a number of n bytes
pub number_fits : (bs : List ℕ) → ((k : ℕ) → get_or bs k 0 < 256) → number 0 bs < 256 ^ length bs
unfolding number
number_fits [] h = omega arith
number_fits (b ∷ bs) h =
    let p : ℕ = 256 ^ length bs in
    let m : suc b * p ≤ 256 * p = mul-le-mul_right p (h 0) in
    let r : number 0 bs < p = number_fits bs (λ k. h (suc k)) in
    let a : number (0 * 256 + b) bs ≡ (0 * 256 + b) * p + number 0 bs = number_above (0 * 256 + b) bs in
    let z : (0 * 256 + b) * p ≡ b * p = ap (λ (x : ℕ). x * p) (omega arith) in
    omega (arith, suc-mul b p, pow-suc 256 (length bs), mul_comm 256 p)

-- bytes are those of the number that they spell
pub bytes_number : (bs : List ℕ) → ((k : ℕ) → get_or bs k 0 < 256) → bytes (length bs) (number 0 bs) ≡ bs
unfolding number bytes
bytes_number [] h = refl
bytes_number (b ∷ bs) h =
    let n : ℕ = length bs in
    let e : number (0 * 256 + b) bs ≡ b * 256 ^ n + number 0 bs =
    number_above (0 * 256 + b) bs ∙ ap (λ (x : ℕ). x * 256 ^ n + number 0 bs) (omega arith) in
    let first : b / 1 % 256 ≡ b = ap (λ (x : ℕ). x % 256) (div-one b) ∙ mod-eq_of_lt (h 0) in
    let o : 1 + n ≡ suc n = omega arith in
    let split : bytes (suc n) (b * 256 ^ n + number 0 bs) ≡ bytes 1 b ++ bytes n (number 0 bs) =
    rw o at (bytes_join 1 n b (number 0 bs) (number_fits bs (λ k. h (suc k)))) in
    rw e (split ∙ (λ j. first j ∷ bytes_number bs (λ k. h (suc k)) j))

-- a part of bytes is bytes
pub take_fits : (n : ℕ) (bs : List ℕ) → ((k : ℕ) → get_or bs k 0 < 256) → (k : ℕ) → get_or (take n bs) k 0 < 256
take_fits zero bs h k = omega arith
take_fits (suc n) [] h k = omega arith
take_fits (suc n) (b ∷ bs) h zero = h 0
take_fits (suc n) (b ∷ bs) h (suc k) = take_fits n bs (λ j. h (suc j)) k
