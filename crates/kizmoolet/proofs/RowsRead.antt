-- Change request Five of kizmoolet_batch: the model's claim, by what the stop number says of the table checks.
use Prim.Native.Nat.{ℕ, zero, suc, ◌≤◌}
use mathlib.Core.Path.{◌≡◌, refl, subst, ◌∙◌}
use mathlib.Core.Logic.{◌⊎◌, ⊎_elim, inr}
use mathlib.Core.List.{List}
use mathlib.Core.Bool.{true, false}
use native.Mathlib.Omega.{arith}
use lib.Dec.{eqb}
use lib.ListN.{length}
use borrow.Author.Tests.{eqb-true, eqb-false}
use Rattle.model.specs.Store.{Store}
use Rattle.model.specs.Soundness.{table_check, rows_read}
use Rattle.model.specs.Batch.{batch}
use Rattle.model.specs.RowsRead.{RowsTold}
use Rattle.model.proofs.Orders.{check_most}
use Rattle.model.proofs.Base.{case}
use Rattle.model.proofs.Running.{batch_run, run_stops}
use Rattle.model.proofs.RowsRead.{rows_tell}
use Rattle.live.specs.Live.{LiveDisk, live_check}
use Rattle.live.proofs.Behind.{checks_two, tables_are, disk_first}
use Rattle.live.proofs.LiveDemand.{batch_is}
use Rattle.areas.specs.Lent.{Lent, fits, store_in, live_in}
use Rattle.batch_areas.specs.Batch.{BatchLeft, check_in, read_in, batch_bytes}
use Rattle.kizmoolet.specs.RowsRead.{RowsToldIn, RowsTell}
use Rattle.batch_areas.proofs.Batch.{bytes_served, bytes_refused, batch_unfit}

-- a run does not stop with such a number
apart : {n k : ℕ} → (n ≡ 0) ⊎ (11 ≤ n) → n ≡ suc k → k ≤ 2 → ⊥
apart o e b = ⊎_elim (λ x. omega (arith, x, e)) (λ x. omega (arith, x, e)) o

module _ (l : Lent) (d : LiveDisk) (input area : List ℕ) where
  unfit : fits l ≡ false → RowsToldIn l (batch_bytes l d input area)
  unfit e =
      subst (RowsToldIn l) (batch_unfit l d input area e).all
      (record { most = omega arith; unread = λ _. refl; broken = λ x. absurd (omega (arith, x)); served = λ o. absurd (apart o refl (omega arith)) })

  -- lengths that fit
  module _ (fit : fits l ≡ true) where
    abbrev s : Store
    s = store_in l

    told : RowsTold s
    told = rows_tell s

    check_is : check_in l d ≡ live_check (live_in l d)
    unfolding check_in
    check_is = rw fit

    read_is : read_in l ≡ rows_read s
    unfolding read_in
    read_is = rw fit

    -- the tables passed: a run, or 18
    passed : table_check s ≡ 0 → (left : BatchLeft) → left.rows_read ≡ rows_read s → (left.stop ≡ 0) ⊎ (11 ≤ left.stop) → RowsToldIn l left
    passed e left r stops =
        record {
          most = rw r told.most;
          unread = λ o. absurd (⊎_elim (λ x. apart stops x (omega arith)) (λ x. apart stops x (omega arith)) o);
          broken = λ x. absurd (apart stops x (omega arith));
          served = λ _. r ∙ told.passed e;
        }

    carried : live_check (live_in l d) ≡ 0 → RowsToldIn l (batch_bytes l d input area)
    carried e =
        let t : table_check s ≡ 0 = (checks_two (live_in l d) e).0 in
        let stops : ((batch s input (length area)).stop ≡ 0) ⊎ (11 ≤ (batch s input (length area)).stop) = rw (batch_run s input (length area) t) (run_stops (suc (length input)) s input (length area)) in
        rw (bytes_served l d input area (check_is ∙ e), read_is, batch_is (live_in l d) input (length area) e) (passed t _ refl stops)

    refused : (n : ℕ) → live_check (live_in l d) ≡ suc n → RowsToldIn l (batch_bytes l d input area)
    refused n e =
        rw (bytes_refused l d input area (suc n) (check_is ∙ e) (λ z. omega arith), read_is)
        (case (eqb (table_check s) 0)
        (λ z. let t : table_check s ≡ 0 = eqb-true _ 0 z in passed t _ refl (inr (omega (arith, disk_first (live_in l d) (suc n) t e (λ o. omega arith)))))
        (λ z.
        let t : table_check s ≡ suc n = tables_are (live_in l d) (eqb-false _ 0 z) ∙ e in
        record {
          most = told.most;
          unread = λ o. told.unread (rw t o);
          broken = λ x. told.broken (t ∙ x);
          served = λ o. absurd (apart o refl (omega (arith, check_most s, t)));
        }))

    by_check : (n : ℕ) → live_check (live_in l d) ≡ n → RowsToldIn l (batch_bytes l d input area)
    by_check zero e = carried e
    by_check (suc n) e = refused n e

pub rows_tell_bytes : RowsTell
rows_tell_bytes l d input area =
    case (fits l) (λ fit. by_check l d input area fit (live_check (live_in l d)) refl) (λ e. unfit l d input area e)
