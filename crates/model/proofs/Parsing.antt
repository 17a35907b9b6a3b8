-- What can be read at the front of an input.
use Prim.Native.Nat.{ℕ, ◌+◌, ◌≤◌, ◌<◌}
use mathlib.Core.Path.{◌≡◌, refl}
use mathlib.Core.List.{List, [], ◌∷◌}
use mathlib.Core.Bool.{◌&&◌}
use native.Mathlib.Omega.{arith}
use native.Mathlib.Nat.{mod-lt}
use lib.Dec.{leb, eqb}
use lib.ListN.{length, take, drop, length-drop}
use lib.Seq.{length-take-le}
use borrow.Author.Tests.{leb-true}
use Rattle.model.specs.Wire.{Request, give, withdraw, Parsed, end, stop, one, number, field, write_of, high_of, low_of, named_of, by_operation, of_word, parse}
use Rattle.model.specs.ByNumber.{Whole}
use Rattle.model.proofs.Base.{case, both}

-- of `size` bytes: a stop is 11, 12 or 13, and a request is whole, takes 7 bytes or more and no more than there are
abbrev pub Reads : ℕ → Parsed → Type 0
Reads size end = size ≡ 0
Reads size (stop n) = (11 ≤ n) × (n ≤ 13)
Reads size (one q n) = Whole q × (7 ≤ n) × (n ≤ size)

reads_write : (a : ℕ) (rest : List ℕ) → Reads (7 + length rest) (write_of a rest)
reads_write a rest =
    case (leb 256 (length rest))
    (λ e.
    let l : 256 ≤ length rest = leb-true 256 (length rest) e in
    rw e (length-take-le 256 rest l, omega arith, omega arith))
    (λ e. rw e (omega arith, omega arith))

-- the numbers of a name have 32 bits
high_fits : (rest : List ℕ) → high_of rest < 4294967296
unfolding high_of
high_fits rest = mod-lt _ (omega arith)

low_fits : (rest : List ℕ) → low_of rest < 4294967296
unfolding low_of
low_fits rest = mod-lt _ (omega arith)

reads_name : (q : Request) (rest : List ℕ) → Whole q → Reads (7 + length rest) (named_of q rest)
reads_name q rest w =
    case (leb 8 (length rest))
    (λ e.
    let l : 8 ≤ length rest = leb-true 8 (length rest) e in
    rw e (w, omega arith, omega arith))
    (λ e. rw e (omega arith, omega arith))

operation_reads : (o a m spare : ℕ) (rest : List ℕ) → a ≤ 65535 → Reads (7 + length rest) (by_operation o a m spare rest)
unfolding by_operation
operation_reads o a m spare rest w =
    both P (eqb o 1) (both P (eqb m 0 && eqb spare 0) (reads_write a rest) no)
    (both P (eqb o 2) (both P (eqb a 0 && (eqb m 0 && eqb spare 0)) yes no)
    (both P (eqb o 3) (both P (eqb spare 0) (w, omega arith, omega arith) no)
    (both P (eqb o 4) (both P (eqb spare 0) yes no)
    (both P (eqb o 5) (both P (eqb a 0 && eqb spare 0) yes no)
    (both P (eqb o 6) (both P (eqb a 0 && eqb spare 0) (reads_name (give (record { high = high_of rest; low = low_of rest; moment = m })) rest (high_fits rest, low_fits rest)) no)
    (both P (eqb o 7) (both P (eqb a 0 && (eqb m 0 && eqb spare 0)) (reads_name (withdraw (high_of rest) (low_of rest)) rest tt) no) (omega arith, omega arith)))))))
  where
    P : Parsed → Type 0
    P = Reads (7 + length rest)

    yes : Unit {0} × (7 ≤ 7) × (7 ≤ 7 + length rest)
    yes = (tt, omega arith, omega arith)

    no : (11 ≤ 13) × (13 ≤ 13)
    no = (omega arith, omega arith)

-- a work order has 16 bits
address_fits : (w : ℕ) → field w 37 16 ≤ 65535
address_fits w = let l : field w 37 16 < 65536 = mod-lt _ (omega arith) in omega arith

word_reads : (w : ℕ) (rest : List ℕ) → Reads (7 + length rest) (of_word w rest)
word_reads w rest = operation_reads (field w 53 3) (field w 37 16) (field w 5 32) (field w 0 5) rest (address_fits w)

pub parse_reads : (input : List ℕ) → Reads (length input) (parse input)
unfolding parse
parse_reads [] = refl
parse_reads (b ∷ bs) =
    case (leb 7 (length (b ∷ bs)))
    (λ e.
    let l : 7 ≤ length (b ∷ bs) = leb-true 7 (length (b ∷ bs)) e in
    let d : 7 + length (drop 7 (b ∷ bs)) ≡ length (b ∷ bs) = omega (arith, length-drop 7 (b ∷ bs)) in
    rw e (rw d at (word_reads (number 0 (take 7 (b ∷ bs))) (drop 7 (b ∷ bs)))))
    (λ e. rw e (omega arith, omega arith))

pub case_parsed : {C : Type 0} (x : Parsed) → (x ≡ end → C) → ((n : ℕ) → x ≡ stop n → C) → ((q : Request) (n : ℕ) → x ≡ one q n → C) → C
case_parsed end f g h = f refl
case_parsed (stop n) f g h = g n refl
case_parsed (one q n) f g h = h q n refl
