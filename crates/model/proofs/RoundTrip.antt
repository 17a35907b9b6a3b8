-- Requests and answers: what is sent is what is read.
use Prim.Native.Nat.{ℕ, ◌+◌, ◌*◌, ◌/◌, ◌%◌, ◌^◌, ◌<◌, ◌≤◌}
use mathlib.Core.Path.{◌≡◌, refl, ap, ◌∙◌}
use mathlib.Core.List.{List, [], ◌∷◌, ◌++◌, append_assoc}
use mathlib.Core.Option.{Option, some, none}
use mathlib.Core.Bool.{true}
use native.Mathlib.Omega.{arith}
use native.Mathlib.Nat.{mod-eq_of_lt, zero-add}
use lib.Dec.{leb}
use lib.ListN.{length, get_or, take, drop, length-append}
use lib.Seq.{take_at, drop_at, take-length}
use borrow.Author.Tests.{le-leb}
use Rattle.model.specs.Store.{Page, open_end}
use Rattle.model.specs.Wire.{number, bytes, Field, packed, field, Request, write, mark, revert, read_at, reclaim, give, withdraw, request_head, name_bytes, request_bytes, one, high_of, low_of, by_operation, of_word, parse, Answer, present, page_bytes, answer_bytes}
use Rattle.model.proofs.Packing.{number_bytes, length_bytes, Fit, bits, packed_fits, field_read}
use Rattle.model.proofs.Bytes.{packed_join, number_fits, bytes_number}

-- the fields of a request, and of an answer
abbrev request_fields : ℕ → ℕ → ℕ → ℕ → List Field
request_fields o a m z =
    record { width = 3; value = o } ∷ record { width = 16; value = a } ∷ record { width = 32; value = m } ∷ record { width = 5; value = z } ∷ []

-- bytes enough for the fields spell their number again
pub spelled : (count : ℕ) (fs : List Field) → Fit fs → 2 ^ bits fs ≡ 256 ^ count → number 0 (bytes count (packed 0 fs)) ≡ packed 0 fs
spelled count fs h e =
    number_bytes count 0 (packed 0 fs) ∙ (omega arith ∙ mod-eq_of_lt (rw e at (packed_fits fs h)))

parse_seven : (xs rest : List ℕ) → length xs ≡ 7 → parse (xs ++ rest) ≡ of_word (number 0 xs) rest
unfolding parse
parse_seven [] rest l = absurd (omega arith)
parse_seven (x ∷ xs) rest l =
    let h : leb 7 (length (x ∷ (xs ++ rest))) ≡ true = le-leb 7 (length (x ∷ (xs ++ rest))) (omega (arith, length-append xs rest)) in
    let t : take 7 (x ∷ (xs ++ rest)) ≡ x ∷ xs = take_at (x ∷ xs) rest 7 l in
    let d : drop 7 (x ∷ (xs ++ rest)) ≡ rest = drop_at (x ∷ xs) rest 7 l in
    rw (h, t, d)

-- the fields that are sent are the fields that are read
pub parse_head : (o a m z : ℕ) (rest : List ℕ) → o < 8 → a < 65536 → m < 4294967296 → z < 32
    → parse (request_head o a m z ++ rest) ≡ by_operation o a m z rest
parse_head o a m z rest ho ha hm hz =
    let fit : Fit (request_fields o a m z) = (ho, (ha, (hm, (hz, tt)))) in
    let w : ℕ = packed 0 (request_fields o a m z) in
    let e : number 0 (request_head o a m z) ≡ w = spelled 7 (request_fields o a m z) fit refl in
    let fo : field w 53 3 ≡ o = field_read 0 [] (record { width = 3; value = o }) _ fit in
    let fa : field w 37 16 ≡ a = field_read 0 (record { width = 3; value = o } ∷ []) (record { width = 16; value = a }) _ fit.1 in
    let fm : field w 5 32 ≡ m = field_read 0 (record { width = 3; value = o } ∷ record { width = 16; value = a } ∷ []) (record { width = 32; value = m }) _ fit.1.1 in
    let fz : field w 0 5 ≡ z = field_read 0 (record { width = 3; value = o } ∷ record { width = 16; value = a } ∷ record { width = 32; value = m } ∷ []) (record { width = 5; value = z }) [] fit.1.1.1 in
    parse_seven (request_head o a m z) rest (length_bytes 7 w) ∙ rw (e, fo, fa, fm, fz)

-- the fields of a name
abbrev name_fields : ℕ → ℕ → List Field
name_fields high low = record { width = 32; value = high } ∷ record { width = 32; value = low } ∷ []

pub length_name : (high low : ℕ) → length (name_bytes high low) ≡ 8
unfolding name_bytes
length_name high low = length_bytes 8 (packed 0 (name_fields high low))

-- the 8 bytes are those of the two numbers, four each: as they stand in a name row
pub name_halves : (high low : ℕ) → low < 4294967296 → name_bytes high low ≡ bytes 4 high ++ bytes 4 low
unfolding name_bytes packed
name_halves high low l =
    packed_join 4 4 (record { width = 32; value = high } ∷ []) (record { width = 32; value = low } ∷ []) (l, tt) refl ∙ rw (zero-add high, zero-add low)

-- the 8 bytes that are read are those of the name
pub name_kept : (xs : List ℕ) → length xs ≡ 8 → ((k : ℕ) → get_or xs k 0 < 256) → name_bytes (high_of xs) (low_of xs) ≡ xs
unfolding name_bytes high_of low_of packed
name_kept xs l h =
    let n : ℕ = number 0 xs in
    let t : take 8 xs ≡ xs = rw l at (take-length xs) in
    let small : n < 18446744073709551616 = rw l at (number_fits xs h) in
    let e : n / 4294967296 % 4294967296 * 4294967296 + n % 4294967296 ≡ n = omega arith in
    rw t (ap (bytes 8) (omega (arith, e)) ∙ rw l at (bytes_number xs h))

-- a name that is sent is the name that is read, whatever follows
record NameRead (high low : ℕ) (xs : List ℕ) : Type 0 where
  long : leb 8 (length xs) ≡ true
  high_read : high_of xs ≡ high
  low_read : low_of xs ≡ low

name_read : (high low : ℕ) (rest : List ℕ) → high < 4294967296 → low < 4294967296 → NameRead high low (name_bytes high low ++ rest)
unfolding name_bytes high_of low_of
name_read high low rest hh hl =
    let w : ℕ = packed 0 (name_fields high low) in
    let fit : Fit (name_fields high low) = (hh, (hl, tt)) in
    let t : take 8 (bytes 8 w ++ rest) ≡ bytes 8 w = take_at (bytes 8 w) rest 8 (length_bytes 8 w) in
    let e : number 0 (bytes 8 w) ≡ w = spelled 8 (name_fields high low) fit refl in
    record {
      long = le-leb 8 (length (bytes 8 w ++ rest)) (omega (arith, length-append (bytes 8 w) rest, length_bytes 8 w));
      high_read = rw (t, e) (field_read 0 [] (record { width = 32; value = high }) _ fit);
      low_read = rw (t, e) (field_read 0 (record { width = 32; value = high } ∷ []) (record { width = 32; value = low }) [] fit.1);
    }

-- a request that can be sent: its fields fit, and its page is whole
abbrev pub Sendable : Request → Type 0
Sendable (write a page) = (a < 65536) × (length page ≡ 256)
Sendable mark = Unit {0}
Sendable (revert m w) = (w < 65536) × (m < 4294967296)
Sendable (read_at a m) = (a < 65536) × (m < 4294967296)
Sendable (reclaim m) = m < 4294967296
Sendable (give n) = (n.high < 4294967296) × (n.low < 4294967296) × (n.moment < 4294967296)
Sendable (withdraw high low) = (high < 4294967296) × (low < 4294967296)

pub length_head : (o a m z : ℕ) → length (request_head o a m z) ≡ 7
length_head o a m z = length_bytes 7 (packed 0 (request_fields o a m z))

length_named : (o m high low : ℕ) → length (request_head o 0 m 0 ++ name_bytes high low) ≡ 15
length_named o m high low = omega (arith, length-append (request_head o 0 m 0) (name_bytes high low), length_head o 0 m 0, length_name high low)

-- a request that is sent is the request that is read, with its length, whatever follows
pub request_round : (q : Request) (rest : List ℕ) → Sendable q → parse (request_bytes q ++ rest) ≡ one q (length (request_bytes q))
unfolding request_bytes by_operation bytes
request_round (write a page) rest h =
    let l : length page ≡ 256 = h.1 in
    let n : length (request_head 1 a 0 0 ++ page) ≡ 263 = omega (arith, length-append (request_head 1 a 0 0) page, length_head 1 a 0 0) in
    let i : leb 256 (length (page ++ rest)) ≡ true = le-leb 256 (length (page ++ rest)) (omega (arith, length-append page rest)) in
    let t : take 256 (page ++ rest) ≡ page = take_at page rest 256 l in
    ap parse (append_assoc (request_head 1 a 0 0) page rest)
    ∙ (parse_head 1 a 0 0 (page ++ rest) (omega arith) h.0 (omega arith) (omega arith) ∙ rw (i, t, n))
request_round mark rest h = parse_head 2 0 0 0 rest (omega arith) (omega arith) (omega arith) (omega arith)
request_round (revert m w) rest h = parse_head 3 w m 0 rest (omega arith) h.0 h.1 (omega arith)
request_round (read_at a m) rest h = parse_head 4 a m 0 rest (omega arith) h.0 h.1 (omega arith)
request_round (reclaim m) rest h = parse_head 5 0 m 0 rest (omega arith) (omega arith) h (omega arith)
request_round (give n) rest h =
    let name : List ℕ = name_bytes n.high n.low in
    let r : NameRead n.high n.low (name ++ rest) = name_read n.high n.low rest h.0 h.1 in
    ap parse (append_assoc (request_head 6 0 n.moment 0) name rest)
    ∙ (parse_head 6 0 n.moment 0 (name ++ rest) (omega arith) (omega arith) h.2 (omega arith)
    ∙ rw (r.long, r.high_read, r.low_read, length_named 6 n.moment n.high n.low))
request_round (withdraw high low) rest h =
    let r : NameRead high low (name_bytes high low ++ rest) = name_read high low rest h.0 h.1 in
    ap parse (append_assoc (request_head 7 0 0 0) (name_bytes high low) rest)
    ∙ (parse_head 7 0 0 0 (name_bytes high low ++ rest) (omega arith) (omega arith) (omega arith) (omega arith)
    ∙ rw (r.long, r.high_read, r.low_read, length_named 7 0 high low))

-- the four fields of an answer's head
abbrev pub answer_fields : Answer → List Field
answer_fields x =
    record { width = 6; value = x.refusal } ∷ record { width = 1; value = present x.page } ∷ record { width = 1; value = 0 }
    ∷ record { width = 32; value = x.value } ∷ []

pub present_fits : (o : Option Page) → present o < 2
present_fits none = omega arith
present_fits (some p) = omega arith

pub length_answer : (x : Answer) → length (answer_bytes x) ≡ 5 + length (page_bytes x.page)
unfolding answer_bytes
length_answer x = length-append (bytes 5 (packed 0 (answer_fields x))) (page_bytes x.page) ∙ ap (λ (n : ℕ). n + length (page_bytes x.page)) (length_bytes 5 (packed 0 (answer_fields x)))

-- 5 bytes without a page; with a page, of 256 bytes, 265: what refusal 14 measures
module _ (x : Answer) where
  sized : (o : Option Page) → x.page ≡ o → length (answer_bytes x) ≡ 5 + length (page_bytes o)
  sized o e = length_answer x ∙ ap (λ (p : Option Page). 5 + length (page_bytes p)) e

  pub size_absent : x.page ≡ none → length (answer_bytes x) ≡ 5
  size_absent e = sized none e

  pub size_found : (p : Page) → x.page ≡ some p → length p.bytes ≡ 256 → length (answer_bytes x) ≡ 265
  size_found p e w = omega (arith, simp (length-append, length_bytes) at (sized (some p) e))

-- what a receiver reads behind the five bytes: the date in four, then the page; nothing where none is present
abbrev pub PageRead : Option Page → List ℕ → Type 0
PageRead none rest = rest ≡ []
PageRead (some p) rest = (number 0 (take 4 rest) ≡ p.moment) × (drop 4 rest ≡ p.bytes)

-- the date of a page, where there is one, is at most a moment
abbrev pub DatedUpTo : ℕ → Option Page → Type 0
DatedUpTo t none = Unit {0}
DatedUpTo t (some p) = p.moment ≤ t

pub page_round : (o : Option Page) → DatedUpTo open_end o → PageRead o (page_bytes o)
page_round none h = refl
page_round (some p) h =
    let date : List ℕ = bytes 4 p.moment in
    let fits : p.moment < 4294967296 = omega arith in (
      rw (take_at date p.bytes 4 (length_bytes 4 p.moment)) (number_bytes 4 0 p.moment ∙ (omega arith ∙ mod-eq_of_lt fits)),
      drop_at date p.bytes 4 (length_bytes 4 p.moment),
    )

-- what a receiver reads of an answer: the four fields of the first five bytes, then the date and the page
pub record AnswerRead (x : Answer) : Type 0 where
  pub refusal : field (number 0 (take 5 (answer_bytes x))) 34 6 ≡ x.refusal
  pub present_bit : field (number 0 (take 5 (answer_bytes x))) 33 1 ≡ present x.page
  pub spare : field (number 0 (take 5 (answer_bytes x))) 32 1 ≡ 0
  pub value : field (number 0 (take 5 (answer_bytes x))) 0 32 ≡ x.value
  pub page : PageRead x.page (drop 5 (answer_bytes x))

pub answer_round : (x : Answer) → x.refusal < 64 → x.value < 4294967296 → DatedUpTo open_end x.page → AnswerRead x
unfolding answer_bytes
answer_round x hr hv hd =
    let fit : Fit (answer_fields x) = (hr, (present_fits x.page, (omega arith, (hv, tt)))) in
    let w : ℕ = packed 0 (answer_fields x) in
    let t : take 5 (bytes 5 w ++ page_bytes x.page) ≡ bytes 5 w = take_at (bytes 5 w) (page_bytes x.page) 5 (length_bytes 5 w) in
    let e : number 0 (bytes 5 w) ≡ w = spelled 5 (answer_fields x) fit refl in
    record {
      refusal = rw (t, e) (field_read 0 [] (record { width = 6; value = x.refusal }) _ fit);
      present_bit = rw (t, e) (field_read 0 (record { width = 6; value = x.refusal } ∷ []) (record { width = 1; value = present x.page }) _ fit.1);
      spare =
          rw (t, e)
          (field_read 0 (record { width = 6; value = x.refusal } ∷ record { width = 1; value = present x.page } ∷ []) (record { width = 1; value = 0 })
          _ fit.1.1);
      value =
          rw (t, e)
          (field_read 0 (record { width = 6; value = x.refusal } ∷ record { width = 1; value = present x.page } ∷ record { width = 1; value = 0 } ∷ [])
          (record { width = 32; value = x.value }) [] fit.1.1.1);
      page = rw (drop_at (bytes 5 w) (page_bytes x.page) 5 (length_bytes 5 w)) (page_round x.page hd);
    }
