-- A batch: requests one after the other, each on the store that the last one left.
use Rattle.std.specs.Prelude.{ℕ, zero, suc, ◌+◌, ◌-◌, List, [], ◌∷◌, ◌++◌, true, false, ltb, length, drop}
use Rattle.model.specs.Store.{Store}
use Rattle.model.specs.Soundness.{table_check}
use Rattle.model.specs.Wire.{Request, end, stop, one, parse, Answer, answer_bytes}
use Rattle.model.specs.Step.{step}

-- a request with its answer
pub record Answered : Type 0 where
  pub request : Request
  pub answer : Answer

-- what a batch leaves: the store, the stop number, the requests answered in order, their bytes, and the bytes of their answers
pub record Run : Type 0 where
  pub store : Store
  pub stop : ℕ
  pub log : List Answered
  pub taken : ℕ
  pub out : List ℕ

-- three of the counts that a batch reports; the fourth is rows_read of the store that it is given
abbrev pub answered_count : Run → ℕ
answered_count r = length r.log

abbrev pub request_count : Run → ℕ
request_count r = r.taken

abbrev pub answer_count : Run → ℕ
answer_count r = length r.out

-- the answer area: the answers in front, what is past them untouched
abbrev pub area_after : Run → List ℕ → List ℕ
area_after r area = r.out ++ drop (length r.out) area

-- the bytes of answers, one behind the other
unfoldable pub answers_of : List Answered → List ℕ
answers_of [] = []
answers_of (e ∷ es) = answer_bytes e.answer ++ answers_of es

-- a batch that ends here
abbrev pub ended : Store → ℕ → Run
ended s n = record { store = s; stop = n; log = []; taken = 0; out = [] }

-- a request of n bytes answered, before the rest
abbrev pub and_then : Request → Answer → ℕ → Run → Run
and_then q x n r =
    record {
      store = r.store;
      stop = r.stop;
      log = record { request = q; answer = x } ∷ r.log;
      taken = n + r.taken;
      out = answer_bytes x ++ r.out;
    }

-- the requests of an input, with `space` bytes for answers; 14 where an answer does not fit, and the request is not carried out.
-- `fuel` is above the number of requests: each takes at least 7 bytes
unfoldable pub run : ℕ → Store → List ℕ → ℕ → Run
run zero s input space = ended s 0
run (suc fuel) s input space =
    elim (parse input) [
      | end ↦ ended s 0
      | stop n ↦ ended s n
      | one q n ↦
          let st = step s q in
          elim (ltb space (length (answer_bytes st.answer))) [
            | true ↦ ended s 14
            | false ↦ and_then q st.answer n (run fuel st.store (drop n input) (space - length (answer_bytes st.answer)))
          ]
    ]

-- the tables are checked once; 1, 2 or 3 is then the stop number, and nothing is done
unfoldable pub batch : Store → List ℕ → ℕ → Run
batch s input space = serve (table_check s)
  where
    serve : ℕ → Run
    serve zero = run (suc (length input)) s input space
    serve (suc n) = ended s (suc n)
