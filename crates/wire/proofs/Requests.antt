-- The request reader's cases, and what its result says of the input.
use Prim.Native.Nat.{ℕ, ◌+◌, ◌/◌, ◌%◌, ◌≤◌, ◌<◌}
use mathlib.Core.Path.{◌≡◌, refl, sym, ap, ◌∙◌}
use mathlib.Core.List.{List, [], ◌∷◌}
use mathlib.Core.Bool.{Bool, true, false, cond, ◌&&◌}
use native.Mathlib.Omega.{arith}
use native.Mathlib.Nat.{div-one}
use borrow.Author.Tests.{eqb-true, eq-eqb, leb-true, le-leb, lt-leb}
use lib.Dec.{leb, eqb}
use lib.ListN.{length, take, drop, length-take, length-drop}
use Rattle.model.specs.Wire.{number, give, withdraw, end, stop, one, high_of, low_of, named_of, of_word, parse}
use Rattle.model.specs.Wire.{Request as Model, Parsed as Read}
use Rattle.model.specs.ByNumber.{Whole}
use Rattle.model.proofs.Base.{case, and→, →and, same_test}
use Rattle.wire.specs.declared.Request.{Request}
use Rattle.wire.specs.declared.Request.TheVariants.{Write, Give, Withdraw}
use Rattle.wire.specs.declared.Parsed.{Parsed}
use Rattle.wire.specs.declared.Parsed.TheVariants.{Stop, One}
use Rattle.wire.specs.Requests.{request_of, parsed_of, Spells}

-- a sum is zero exactly where both are
pub sum_zero : (x y : ℕ) → eqb (x + y) 0 ≡ (eqb x 0 && eqb y 0)
sum_zero x y =
    same_test (eqb (x + y) 0) (eqb x 0 && eqb y 0)
    (λ e.
    let s : x + y ≡ 0 = eqb-true (x + y) 0 e in
    →and (eq-eqb x 0 (omega arith)) (eq-eqb y 0 (omega arith)))
    (λ e.
    let p = and→ (eqb x 0) (eqb y 0) e in
    eq-eqb (x + y) 0 (omega (arith, eqb-true x 0 p.0, eqb-true y 0 p.1)))

pub sum_three : (x y z : ℕ) → eqb (x + y + z) 0 ≡ (eqb x 0 && (eqb y 0 && eqb z 0))
sum_three x y z =
    let e : x + y + z ≡ x + (y + z) = omega arith in
    rw (e, sum_zero x (y + z), sum_zero y z)

parsed_if : (part : List ℕ) (b : Bool) (x y : Parsed) → parsed_of part (cond b x y) ≡ cond b (parsed_of part x) (parsed_of part y)
parsed_if part true x y = refl
parsed_if part false x y = refl

-- a request of seven bytes, by whether what it does not use is zero
pub short_is : (part : List ℕ) (q : Request) (unused : ℕ) (b : Bool) → eqb unused 0 ≡ b
    → parsed_of part (cond (eqb unused 0) (One q 7) (Stop 13)) ≡ cond b (one (request_of part q) 7) (stop 13)
short_is part q unused b e = rw e (parsed_if part b (One q 7) (Stop 13))

-- a request that more bytes follow
pub followed_is : (part : List ℕ) (q : Request) (unused left more : ℕ) (b : Bool) → eqb unused 0 ≡ b → length part ≡ 7 + left
    → parsed_of part (cond (eqb unused 0) (cond (leb more left) (One q (7 + more)) (Stop 11)) (Stop 13))
    ≡ cond b (cond (leb more (length (drop 7 part))) (one (request_of part q) (7 + more)) (stop 11)) (stop 13)
followed_is part q unused left more b e l =
    let n : length (drop 7 part) ≡ left = omega (arith, length-drop 7 part) in
    rw (e, parsed_if part b (cond (leb more left) (One q (7 + more)) (Stop 11)) (Stop 13), parsed_if part (leb more left) (One q (7 + more)) (Stop 11), n)

-- the two numbers of the name that 8 bytes spell
pub spells : (part : List ℕ) (n : ℕ) → (15 ≤ length part → n ≡ number 0 (take 8 (drop 7 part))) → Spells part (n / 4294967296 % 4294967296) (n % 4294967296)
unfolding high_of low_of
spells part n f =
    record {
      high_is = λ k. rw (← f k);
      low_is = λ k. rw (← f k) (ap (λ (x : ℕ). x % 4294967296) (sym (div-one n)));
    }

-- a name that follows: what was spelled is used only where it is there
module _ (part : List ℕ) (high low left unused : ℕ) (b : Bool) (z : eqb unused 0 ≡ b) (l : length part ≡ 7 + left) (s : Spells part high low) where
  named : (x y : Model) → (15 ≤ length part → x ≡ y) → named_of x (drop 7 part) ≡ named_of y (drop 7 part)
  named x y f =
      case (leb 8 (length (drop 7 part)))
      (λ e.
      let k : 8 ≤ length (drop 7 part) = leb-true 8 (length (drop 7 part)) e in
      rw (e, f (omega (arith, length-drop 7 part))))
      (λ e. rw e)

  pub give_is : (m : ℕ) → parsed_of part (cond (eqb unused 0) (cond (leb 8 left) (One (Give (record { high = high; low = low; moment = m })) 15) (Stop 11)) (Stop 13))
      ≡ cond b (named_of (give (record { high = high_of (drop 7 part); low = low_of (drop 7 part); moment = m })) (drop 7 part)) (stop 13)
  give_is m =
      followed_is part (Give (record { high = high; low = low; moment = m })) unused left 8 b z l
      ∙ ap (λ (x : Read). cond b x (stop 13)) (named _ _ (λ k j. give (record { high = s.high_is k j; low = s.low_is k j; moment = m })))

  pub withdraw_is : parsed_of part (cond (eqb unused 0) (cond (leb 8 left) (One (Withdraw high low) 15) (Stop 11)) (Stop 13))
      ≡ cond b (named_of (withdraw (high_of (drop 7 part)) (low_of (drop 7 part))) (drop 7 part)) (stop 13)
  withdraw_is =
      followed_is part (Withdraw high low) unused left 8 b z l
      ∙ ap (λ (x : Read). cond b x (stop 13)) (named _ _ (λ k j. withdraw (s.high_is k j) (s.low_is k j)))

-- the three lengths of an input
pub parse_none : (part : List ℕ) → length part ≡ 0 → parse part ≡ end
unfolding parse
parse_none [] l = refl
parse_none (b ∷ bs) l = absurd (omega arith)

pub parse_short : (part : List ℕ) → (length part ≡ 0 → ⊥) → length part < 7 → parse part ≡ stop 11
unfolding parse
parse_short [] l h = absurd (l refl)
parse_short (b ∷ bs) l h = rw (lt-leb 7 (length (b ∷ bs)) h)

pub parse_whole : (part : List ℕ) → 7 ≤ length part → parse part ≡ of_word (number 0 (take 7 part)) (drop 7 part)
unfolding parse
parse_whole [] h = absurd (omega arith)
parse_whole (b ∷ bs) h = rw (le-leb 7 (length (b ∷ bs)) h)

-- a page that is whole has room behind seven bytes
pub page_room : (part : List ℕ) → length (take 256 (drop 7 part)) ≡ 256 → 263 ≤ length part
page_room part e = omega (arith, length-take 256 (drop 7 part), length-drop 7 part)

-- a write that is whole has a page of 256 bytes
pub whole_page : (part : List ℕ) (q : Request) (a : ℕ) → q ≡ Write a → Whole (request_of part q) → length (take 256 (drop 7 part)) ≡ 256
whole_page part q a e h = rw e at h
