-- What the batch program sends: the answers, then one byte, the stop number.
use Rattle.std.specs.Prelude.{◌≡◌, List, [], ◌∷◌, ◌++◌, ℕ, zero, suc, ◌*◌, ◌≤◌, length, drop}
use Rattle.model.specs.Store.{Store}
use Rattle.model.specs.Fresh.{program_store}
use Rattle.model.specs.Batch.{Run, batch, answer_count, area_after}
use Rattle.rows.specs.Rows.{zeros, branch_width, record_width, name_width}
use Rattle.rows.specs.View.{Tables}
use Rattle.program.specs.declared.Reply.{Reply}

-- the numbers of the program's tables, and the bytes of its slab: 16 branches, 128 records, 128 places, 32 names
pub record TableLengths (t : Tables) : Type 0 where
  pub branches : length t.branches ≡ 16 * branch_width
  pub records : length t.records ≡ 128 * record_width
  pub places : length t.places ≡ 128
  pub names : length t.names ≡ 32 * name_width
  pub slab : length t.slab ≡ 128 * 256

-- the store that a session starts with
abbrev pub at_start : Store
at_start = program_store (zeros (128 * 256))

-- the bytes of the answers, the stop number and the answer area are those of a run
pub record Sends (run : Run) (area : List ℕ) (r : Reply) (area' : List ℕ) : Type 0 where
  pub sent : r.sent ≡ answer_count run
  pub stop : r.stop ≡ run.stop
  pub answers : area' ≡ area_after run area

-- the output of a session with an area of n bytes for it, of which one is for the stop number
unfoldable pub session_of : List ℕ → ℕ → List ℕ
session_of input zero = []
session_of input (suc space) = let run = batch at_start input space in run.out ++ (run.stop ∷ [])

-- what a session leaves: how many bytes its output has, and the output in front of the area, what is past it untouched
pub record SessionLeaves (input area : List ℕ) (sent : ℕ) (area' : List ℕ) : Type 0 where
  pub sent_bytes : sent ≡ length (session_of input (length area))
  pub output : area' ≡ session_of input (length area) ++ drop (length (session_of input (length area))) area

-- n bytes is how long the output of a session is, on some input of up to 65,536 bytes, with an answer area of 65,536
pub record SomeSession (n : ℕ) : Type 0 where
  pub input : List ℕ
  pub short : length input ≤ 65536
  pub sent_bytes : n ≡ length (session_of input 65537)
