-- A batch on tables of bytes.
use Rattle.std.specs.Prelude.{◌≡◌, List, ℕ, length}
use Rattle.model.specs.declared.Head.{Head}
use Rattle.model.specs.Batch.{Run, answered_count, request_count, answer_count, area_after, batch}
use Rattle.rows.specs.View.{Tables, store_of, laid}
use Rattle.live.specs.Live.{LiveDisk, played}
use Rattle.soundness.specs.Check.{read_of}
use Rattle.disk_check.specs.Check.{live_check_of, live_finding_of}
use Rattle.tables.specs.Tables.{numbers_in, Saved}
use Rattle.batch.specs.declared.Done.{Done}
use Rattle.batch_tables.specs.declared.Tried.{Tried}
use Rattle.batch_tables.specs.declared.Tried.TheVariants.{Refused, Served}

-- a run on tables of bytes b with an answer area: what it reports, and what it leaves in their place
pub record RunSaved (run : Run) (b : Tables) (area : List ℕ) (d : Done) (b' : Tables) (area' : List ℕ) : Type 0 where
  pub stop : d.stop ≡ run.stop
  pub answered : d.answered ≡ answered_count run
  pub taken : d.taken ≡ request_count run
  pub sent : d.sent ≡ answer_count run
  pub head : d.head ≡ run.store.head
  pub tables : Saved (laid run.store (numbers_in b)) b'
  pub slab : b'.slab ≡ run.store.slab
  pub answers : area' ≡ area_after run area

-- a batch on tables of bytes b and a live disk d: refused by the checks with nothing changed, or run
abbrev pub TriedOn : Head → Tables → LiveDisk → List ℕ → List ℕ → Tried → Tables → LiveDisk → List ℕ → Type 0
TriedOn h b d input area (Refused f) b' d' area' =
    (f ≡ live_finding_of h (numbers_in b) d) × (f.refusal ≡ 0 → ⊥) × (b' ≡ b) × (d' ≡ d) × (area' ≡ area)
TriedOn h b d input area (Served s) b' d' area' =
    (live_check_of h (numbers_in b) d ≡ 0)
    × (s.rows ≡ read_of h (numbers_in b))
    × RunSaved (batch (store_of h (numbers_in b)) input (length area)) b area s.done b' area'
    × (d' ≡ played d (batch (store_of h (numbers_in b)) input (length area)).log)
