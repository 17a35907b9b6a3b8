-- What is sent for an outcome: its head, and the date and page of the record that was found.
use Prim.Native.Nat.{ℕ, ◌+◌, ◌*◌, ◌≤◌}
use mathlib.Core.Path.{◌≡◌}
use mathlib.Core.List.{List, ◌++◌, append-nil}
use lib.ListN.{length}
use Rattle.model.specs.declared.Record.{Record}
use Rattle.model.specs.Store.{page_at, page_of}
use Rattle.model.proofs.Pages.{length_page}
use Rattle.model.specs.Wire.{bytes, answer_bytes}
use Rattle.model.proofs.Packing.{length_bytes}
use Rattle.model.proofs.RoundTrip.{size_absent, size_found}
use Rattle.rows.specs.declared.Found.TheVariants.{Row, Nothing}
use Rattle.rows.specs.declared.Outcome.{Outcome}
use Rattle.rows.specs.View.{found_of, answer_of}
use Rattle.answering.specs.Answers.{head_bytes, Lies, sent}

pub length_head : (refusal present value : ℕ) → length (head_bytes refusal present value) ≡ 5
unfolding head_bytes
length_head refusal present value = length_bytes 5 _

module _ (r : Outcome) (slab : List ℕ) where
  pub sent_none : r.found ≡ Nothing → sent r slab ≡ head_bytes r.refusal 0 r.value
  unfolding head_bytes answer_bytes
  sent_none e = rw e (append-nil (head_bytes r.refusal 0 r.value))

  pub size_none : r.found ≡ Nothing → length (sent r slab) ≡ 5
  size_none e = size_absent (answer_of r slab) (rw e)

  module _ (x : Record) (e : r.found ≡ Row x) where
    pub sent_page : sent r slab ≡ head_bytes r.refusal 1 r.value ++ (bytes 4 x.moment ++ page_at slab x.place)
    unfolding head_bytes answer_bytes
    sent_page = rw e

    pub page_lies : Lies (found_of r.found) slab → 256 * x.place + 256 ≤ length slab
    page_lies h = rw e at h

    pub size_page : Lies (found_of r.found) slab → length (sent r slab) ≡ 265
    size_page h = size_found (answer_of r slab) (page_of slab x) (rw e) (length_page slab x.place (page_lies h))
