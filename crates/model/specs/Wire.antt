-- Requests and answers as bytes.
use Rattle.std.specs.Prelude.{ℕ, zero, suc, ◌+◌, ◌*◌, ◌/◌, ◌%◌, ◌^◌, List, [], ◌∷◌, ◌++◌, cond, ◌&&◌, leb, eqb, length, take, drop}
use Rattle.std.proofs.Math.Option.{Option, some, none}
use Rattle.model.specs.declared.Name.{Name}
use Rattle.model.specs.Store.{Page}

-- the number that bytes spell after n, most significant first
unfoldable pub number : ℕ → List ℕ → ℕ
number n [] = n
number n (b ∷ bs) = number (n * 256 + b) bs

-- n as `count` bytes, most significant first
unfoldable pub bytes : ℕ → ℕ → List ℕ
bytes zero n = []
bytes (suc count) n = n / 256 ^ count % 256 ∷ bytes count n

-- a packed field: its value, and its width in bits
pub record Field : Type 0 where
  pub width : ℕ
  pub value : ℕ

-- packed fields, most significant first, behind the number n
unfoldable pub packed : ℕ → List Field → ℕ
packed n [] = n
packed n (f ∷ fs) = packed (n * 2 ^ f.width + f.value) fs

-- the field of `width` bits that has `below` bits under it
abbrev pub field : ℕ → ℕ → ℕ → ℕ
field n below width = n / 2 ^ below % 2 ^ width

-- the seven requests; a revert is to a moment, with a work order; a name is given by the row that it gets, and withdrawn by its two numbers
pub data Request : Type 0 where
  write : ℕ → List ℕ → Request
  mark : Request
  revert : ℕ → ℕ → Request
  read_at : ℕ → ℕ → Request
  reclaim : ℕ → Request
  give : Name → Request
  withdraw : ℕ → ℕ → Request

-- the seven bytes of a request: operation 3 bits, address 16, moment 32, spare 5; a revert has its work order in place of an address
abbrev pub request_head : ℕ → ℕ → ℕ → ℕ → List ℕ
request_head operation address moment spare =
    bytes 7
    (packed 0
    (record { width = 3; value = operation } ∷ record { width = 16; value = address } ∷ record { width = 32; value = moment }
    ∷ record { width = 5; value = spare } ∷ []))

-- the 8 bytes of a name: its two numbers, 32 bits each
unfoldable pub name_bytes : ℕ → ℕ → List ℕ
name_bytes high low = bytes 8 (packed 0 (record { width = 32; value = high } ∷ record { width = 32; value = low } ∷ []))

-- a request as it is sent: fields that an operation does not use are zero; a write's page follows, and a name
unfoldable pub request_bytes : Request → List ℕ
request_bytes (write a page) = request_head 1 a 0 0 ++ page
request_bytes mark = request_head 2 0 0 0
request_bytes (revert m w) = request_head 3 w m 0
request_bytes (read_at a m) = request_head 4 a m 0
request_bytes (reclaim m) = request_head 5 0 m 0
request_bytes (give n) = request_head 6 0 n.moment 0 ++ name_bytes n.high n.low
request_bytes (withdraw high low) = request_head 7 0 0 0 ++ name_bytes high low

-- what is read at the front of an input: its end, a stop with its number, or a request with its length in bytes
pub data Parsed : Type 0 where
  end : Parsed
  stop : ℕ → Parsed
  one : Request → ℕ → Parsed

-- a write's page, of what follows the seven bytes
abbrev pub write_of : ℕ → List ℕ → Parsed
write_of a rest = cond (leb 256 (length rest)) (one (write a (take 256 rest)) 263) (stop 11)

-- the two numbers of the name in what follows the seven bytes
unfoldable pub high_of : List ℕ → ℕ
high_of rest = field (number 0 (take 8 rest)) 32 32

unfoldable pub low_of : List ℕ → ℕ
low_of rest = field (number 0 (take 8 rest)) 0 32

-- a request that the 8 bytes of a name follow, 11 where they are cut short
abbrev pub named_of : Request → List ℕ → Parsed
named_of q rest = cond (leb 8 (length rest)) (one q 15) (stop 11)

-- the request of an operation, 12 where there is none; a field that it does not use counts as spare, 13 where one is set
unfoldable pub by_operation : ℕ → ℕ → ℕ → ℕ → List ℕ → Parsed
by_operation o a m spare rest =
    cond (eqb o 1) (cond (eqb m 0 && eqb spare 0) (write_of a rest) (stop 13))
    (cond (eqb o 2) (cond (eqb a 0 && (eqb m 0 && eqb spare 0)) (one mark 7) (stop 13))
    (cond (eqb o 3) (cond (eqb spare 0) (one (revert m a) 7) (stop 13))
    (cond (eqb o 4) (cond (eqb spare 0) (one (read_at a m) 7) (stop 13))
    (cond (eqb o 5) (cond (eqb a 0 && eqb spare 0) (one (reclaim m) 7) (stop 13))
    (cond (eqb o 6) (cond (eqb a 0 && eqb spare 0) (named_of (give (record { high = high_of rest; low = low_of rest; moment = m })) rest) (stop 13))
    (cond (eqb o 7) (cond (eqb a 0 && (eqb m 0 && eqb spare 0)) (named_of (withdraw (high_of rest) (low_of rest)) rest) (stop 13))
    (stop 12)))))))

-- by the fields of the 56 bits
abbrev pub of_word : ℕ → List ℕ → Parsed
of_word w rest = by_operation (field w 53 3) (field w 37 16) (field w 5 32) (field w 0 5) rest

-- the request at the front of an input; 11 where fewer than 7 bytes are left, but some
unfoldable pub parse : List ℕ → Parsed
parse [] = end
parse (b ∷ bs) = cond (leb 7 (length (b ∷ bs))) (of_word (number 0 (take 7 (b ∷ bs))) (drop 7 (b ∷ bs))) (stop 11)

-- an answer: a refusal's number or 0, the number, and a read's page with the moment of its write
pub record Answer : Type 0 where
  pub refusal : ℕ
  pub value : ℕ
  pub page : Option Page

-- a refusal has number 0
abbrev pub refused : ℕ → Answer
refused n = record { refusal = n; value = 0; page = none }

abbrev pub accepted : ℕ → Answer
accepted n = record { refusal = 0; value = n; page = none }

-- page present
abbrev pub present : Option Page → ℕ
present (some p) = 1
present none = 0

-- a found page as it is sent: its date, which is the moment of its write, in 32 bits, and then its bytes
abbrev pub page_bytes : Option Page → List ℕ
page_bytes (some p) = bytes 4 p.moment ++ p.bytes
page_bytes none = []

-- an answer as it is sent: refusal 6 bits, page present 1, spare 1, number 32; a present page's date and bytes follow
unfoldable pub answer_bytes : Answer → List ℕ
answer_bytes x =
    bytes 5
    (packed 0
    (record { width = 6; value = x.refusal } ∷ record { width = 1; value = present x.page } ∷ record { width = 1; value = 0 }
    ∷ record { width = 32; value = x.value } ∷ []))
    ++ page_bytes x.page
