-- A read answers as the reference does, and changes nothing.
use Prim.Native.Nat.{ℕ, ◌≤◌, ◌<◌}
use mathlib.Core.Path.{◌≡◌, refl, ap}
use mathlib.Core.Bool.{true, false≢true}
use native.Mathlib.Omega.{arith}
use lib.Dec.{ltb}
use borrow.Author.Tests.{ltb-true, ltb-false, lt-ltb, le-ltb}
use Rattle.model.specs.Store.{Store}
use Rattle.model.specs.Wire.{read_at}
use Rattle.model.specs.Step.{step, do_read}
use Rattle.model.specs.Lookup.{readable}
use Rattle.model.specs.Reference.{Snapshot, accept, feed}
use Rattle.model.specs.Demand3.{Readable, read_answer}
use Rattle.model.proofs.Base.{case, absurd_test}
use Rattle.model.proofs.Invariant.{Reads, reference_of}
use Rattle.model.specs.ByNumber.{Sound}
use Rattle.model.proofs.Moves.{Stepping, refused_step_lem, same_inv}

pub read_answer_lem : (s : Store) (snaps : ℕ → Snapshot) (a m : ℕ) → Reads s snaps → a < s.head.size → readable s m ≡ true → m ≤ s.head.now
    → (do_read s a m).answer ≡ read_answer m (snaps m a)
unfolding do_read
read_answer_lem s snaps a m r i j l =
    rw (lt-ltb a s.head.size i, j, le-ltb s.head.now m l) (ap (read_answer m) (r a m j l))

pub read_step : (s : Store) (snaps : ℕ → Snapshot) (a m : ℕ) → Sound s → Reads s snaps → Stepping s (reference_of s snaps) (read_at a m) (do_read s a m)
unfolding do_read feed accept
read_step s snaps a m h r =
    case (ltb a s.head.size)
    (λ e₁.
    case (readable s m)
    (λ e₂.
    case (ltb s.head.now m)
    (λ e. rw (e₁, e₂, e) (refused_step_lem s snaps h r 8 (read_at a m) (λ i (j : Readable (reference_of s snaps) m). let x : s.head.now < m = ltb-true s.head.now m e in absurd (omega arith))))
    (λ e₃.
    rw (e₁, e₂, e₃)
    (record {
      inv = same_inv s snaps h r;
      right = λ i j. ap (read_answer m) (r a m j.low j.high);
      size = refl;
      exact = λ x. absurd (false≢true x);
    })))
    (λ e. rw (e₁, e) (refused_step_lem s snaps h r 7 (read_at a m) (λ i (j : Readable (reference_of s snaps) m). absurd_test j.low e))))
    (λ e. rw e (refused_step_lem s snaps h r 3 (read_at a m) (λ i j. let x : s.head.size ≤ a = ltb-false a s.head.size e in absurd (omega arith))))

-- a read leaves the store
pub read_leaves : (s : Store) (a m : ℕ) → (step s (read_at a m)).store ≡ s
unfolding step do_read
read_leaves s a m =
    case (ltb a s.head.size)
    (λ e₁. case (readable s m) (λ e₂. case (ltb s.head.now m) (λ e. rw (e₁, e₂, e)) (λ e. rw (e₁, e₂, e))) (λ e. rw (e₁, e)))
    (λ e. rw e)
