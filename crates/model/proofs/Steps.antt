-- Each request keeps a store sound, and against the reference.
use Prim.Native.Nat.{ℕ, suc, ◌+◌, ◌*◌, ◌≤◌, ◌<◌}
use mathlib.Core.List.{List}
use mathlib.Core.Option.{Option, some, none}
use native.Mathlib.Omega.{arith}
use lib.Dec.{leb, ltb}
use lib.ListN.{length}
use Rattle.model.specs.declared.Record.{Record}
use mathlib.Core.Path.{◌≡◌, refl, subst}
use Rattle.model.specs.Store.{Store, newest, records, open_end, Page, found_page}
use Rattle.model.specs.Lookup.{lookup, readable}
use Rattle.model.specs.Soundness.{table_check}
use Rattle.model.specs.Wire.{Request, write, mark, revert, read_at, reclaim, give, withdraw, accepted}
use Rattle.model.specs.Step.{Stepped, unchanged, standing, first_free, into_free, written, do_write, do_mark, do_revert, do_read, do_reclaim, step}
use Rattle.model.specs.Reference.{Snapshot, Reference}
use Rattle.model.proofs.Base.{both}
use Rattle.model.proofs.Ancestry.{Found, find→}
use Rattle.model.proofs.Places.{named_mem}
use Rattle.model.proofs.Pages.{length_page}
use Rattle.model.proofs.Invariant.{sound_check, Reads, Inv, reference_of, canon}
use Rattle.model.specs.ByNumber.{Sound, Whole}
use Rattle.model.proofs.Moves.{Stepping, mark_step, revert_step}
use Rattle.model.proofs.Writing.{rows_falls, write_step}
use Rattle.model.proofs.Reclaiming.{reclaim_step}
use Rattle.model.proofs.Reading.{read_step}
use Rattle.model.proofs.Naming.{give_cases, withdraw_cases, give_step, withdraw_step}
use Rattle.model.proofs.RoundTrip.{DatedUpTo, AnswerRead, answer_round}

step_canon : (s : Store) (snaps : ℕ → Snapshot) (q : Request) → Sound s → Reads s snaps → Whole q → Stepping s (reference_of s snaps) q (step s q)
unfolding step
step_canon s snaps (write a page) h r w = write_step s snaps a page h r w
step_canon s snaps mark h r w = mark_step s snaps h r
step_canon s snaps (revert m o) h r w = revert_step s snaps m o w h r
step_canon s snaps (read_at a m) h r w = read_step s snaps a m h r
step_canon s snaps (reclaim m) h r w = reclaim_step s snaps m h r
step_canon s snaps (give n) h r w = give_step s snaps n h r
step_canon s snaps (withdraw high low) h r w = withdraw_step s snaps high low h r

pub step_inv : (s : Store) (p : Reference) (q : Request) → Inv s p → Whole q → Stepping s p q (step s q)
step_inv s p q v w = subst (λ (x : Reference). Stepping s x q (step s q)) (canon s p v) (step_canon s p.snapshot q v.sound v.reads w)

-- a sound store stays sound, and so passes the table checks again
pub step_sound : (s : Store) (q : Request) → Sound s → Whole q → Sound (step s q).store
step_sound s q h w = (step_canon s (λ t a. found_page s.slab (lookup s a t)) q h (λ a t i j. refl) w).inv.sound

pub step_check : (s : Store) (q : Request) → Sound s → Whole q → table_check (step s q).store ≡ 0
step_check s q h w = sound_check (step s q).store (step_sound s q h w)

-- a page of 256 bytes, where there is one
abbrev pub WholePage : Option Page → Type 0
WholePage none = Unit {0}
WholePage (some p) = length p.bytes ≡ 256

-- a request's own refusals are at most 17, an answer with a page leaves the store, a page is whole, and its date is at most the
-- answer's number, which is the moment asked
pub record Answers (s : Store) (st : Stepped) : Type 0 where
  pub small : st.answer.refusal ≤ 17
  pub leaves : (st.answer.page ≡ none → ⊥) → st.store ≡ s
  pub whole : WholePage st.answer.page
  pub dated : DatedUpTo st.answer.value st.answer.page

refused_answers : (s : Store) (n : ℕ) → n ≤ 17 → Answers s (unchanged s n)
refused_answers s n l = record { small = l; leaves = λ e. refl; whole = tt; dated = tt }

accepted_answers : (s u : Store) (n : ℕ) → Answers s (record { store = u; answer = accepted n })
accepted_answers s u n = record { small = omega arith; leaves = λ e. absurd (e refl); whole = tt; dated = tt }

written_answers : (s : Store) (a : ℕ) (page : List ℕ) (o : Option Record) → Answers s (written s a page o)
written_answers s a page (some r) = accepted_answers s _ _
written_answers s a page none =
    both (Answers s) (ltb s.head.records (length s.record_rows)) (free_answers (first_free s.place_rows)) (refused_answers s 5 (omega arith))
  where
    free_answers : (o : Option ℕ) → Answers s (into_free s a page o)
    free_answers none = refused_answers s 6 (omega arith)
    free_answers (some p) = accepted_answers s _ _

-- the record found is a counted one, up to the moment asked
found_counted : (s : Store) → Sound s → (a t : ℕ) (r : Record) → lookup s a t ≡ some r → Found (records s) a t (newest s) r
unfolding lookup
found_counted s h a t r e = find→ (records s) a (newest s) (rows_falls _ _ (newest s) h.rows) t r e

-- its place is in the place table, so that its page is in the slab
pub found_inside : (s : Store) → Sound s → (a t : ℕ) (r : Record) → lookup s a t ≡ some r → 256 * r.place + 256 ≤ length s.slab
found_inside s h a t r e =
    omega (arith, named_mem s.place_rows 1 (records s) r h.named (found_counted s h a t r e).counted, h.sizes.allowed.slab)

pub found_page_lem : (s : Store) → Sound s → (a t : ℕ) (o : Option Record) → lookup s a t ≡ o
    → WholePage (found_page s.slab o) × DatedUpTo t (found_page s.slab o)
found_page_lem s h a t none e = (tt, tt)
found_page_lem s h a t (some r) e = (length_page s.slab r.place (found_inside s h a t r e), (found_counted s h a t r e).up_to)

pub step_answers : (s : Store) (q : Request) → Sound s → Answers s (step s q)
unfolding step do_write do_mark do_revert do_read do_reclaim
step_answers s (write a page) h = both (Answers s) (ltb a s.head.size) (written_answers s a page (standing s a)) (refused_answers s 4 (omega arith))
step_answers s mark h = both (Answers s) (ltb s.head.now open_end) (accepted_answers s _ _) (refused_answers s 10 (omega arith))
step_answers s (revert m w) h =
    both (Answers s) (readable s m)
    (both (Answers s) (leb s.head.now m) (refused_answers s 9 (omega arith))
    (both (Answers s) (leb open_end s.head.now) (refused_answers s 10 (omega arith))
    (both (Answers s) (leb (length s.branch_rows) s.head.branches) (refused_answers s 7 (omega arith)) (accepted_answers s _ _))))
    (refused_answers s 8 (omega arith))
step_answers s (read_at a m) h =
    both (Answers s) (ltb a s.head.size)
    (both (Answers s) (readable s m)
    (both (Answers s) (ltb s.head.now m) (refused_answers s 9 (omega arith))
    (let f = found_page_lem s h a m (lookup s a m) refl in
    record { small = omega arith; leaves = λ e. refl; whole = f.0; dated = f.1 }))
    (refused_answers s 8 (omega arith)))
    (refused_answers s 4 (omega arith))
step_answers s (reclaim m) h =
    both (Answers s) (ltb m s.head.floor) (refused_answers s 8 (omega arith))
    (both (Answers s) (ltb s.head.now m) (refused_answers s 9 (omega arith)) (accepted_answers s _ _))
step_answers s (give n) h = give_cases (Answers s) s n (λ k i j. refused_answers s (suc k) (omega arith)) (λ g. accepted_answers s _ _)
step_answers s (withdraw high low) h = withdraw_cases (Answers s) s high low (λ e. refused_answers s 17 (omega arith)) (λ n e. accepted_answers s _ _)

dated_later : (t u : ℕ) (o : Option Page) → t ≤ u → DatedUpTo t o → DatedUpTo u o
dated_later t u none l h = tt
dated_later t u (some p) l h = omega arith

-- what a receiver reads of an answer is the answer: where its number has 32 bits, so has the date
pub step_round : (s : Store) (q : Request) → Sound s → (step s q).answer.value < 4294967296 → AnswerRead (step s q).answer
step_round s q h v =
    let w = step_answers s q h in
    answer_round (step s q).answer (omega (arith, w.small)) v (dated_later (step s q).answer.value open_end (step s q).answer.page (omega arith) w.dated)
