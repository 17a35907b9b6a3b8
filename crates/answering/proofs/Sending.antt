-- The answer of every request on a sound store can be sent: its refusal fits six bits, and its page is whole.
use Prim.Native.Nat.{ℕ, ◌*◌, ◌<◌}
use mathlib.Core.Path.{◌≡◌, ap}
use mathlib.Core.List.{List}
use mathlib.Core.Option.{Option, some, none}
use native.Mathlib.Omega.{arith}
use lib.ListN.{drop, length-take, length-drop}
use Rattle.model.specs.declared.Record.{Record}
use Rattle.model.specs.Store.{Store, page_at, found_page}
use Rattle.model.specs.Wire.{Request, Answer}
use Rattle.model.specs.Step.{step}
use Rattle.model.specs.ByNumber.{Sound}
use Rattle.model.proofs.Steps.{WholePage, step_answers}
use Rattle.rows.specs.declared.Outcome.{Outcome}
use Rattle.rows.specs.View.{found_of, answer_of}
use Rattle.answering.specs.Answers.{Lies}

-- a page that is whole lies in the slab
lies : (o : Option Record) (slab : List ℕ) → WholePage (found_page slab o) → Lies o slab
unfolding page_at
lies none slab w = tt
lies (some r) slab w = omega (arith, w, length-take 256 (drop (256 * r.place) slab), length-drop (256 * r.place) slab)

-- what `put_answer` requires of an outcome, from the step that it is
pub outcome_sends : (r : Outcome) (slab : List ℕ) (s : Store) (q : Request) → Sound s → answer_of r slab ≡ (step s q).answer
    → (r.refusal < 64) × Lies (found_of r.found) slab
outcome_sends r slab s q h e =
    let w = step_answers s q h in
    (rw (ap (λ (x : Answer). x.refusal) e) (omega (arith, w.small)), lies (found_of r.found) slab (rw (ap (λ (x : Answer). x.page) e) w.whole))
