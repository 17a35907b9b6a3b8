-- A batch stops with 14 at most, so that its stop number is one byte.
use mathlib.Core.Path.{◌≡◌, refl}
use mathlib.Core.List.{List}
use Prim.Native.Nat.{ℕ, zero, suc, ◌≤◌}
use native.Mathlib.Omega.{arith}
use lib.Dec.{ltb}
use lib.ListN.{length, drop}
use Rattle.model.specs.Store.{Store}
use Rattle.model.specs.Soundness.{table_check}
use Rattle.model.specs.Wire.{stop, parse, answer_bytes}
use Rattle.model.specs.Step.{step}
use Rattle.model.specs.Batch.{run, batch}
use Rattle.model.proofs.Orders.{check_most}
use Rattle.model.proofs.Base.{case}
use Rattle.model.proofs.Parsing.{Reads, parse_reads, case_parsed}
use Rattle.model.proofs.Running.{run_end, run_stop, run_full, run_one, batch_run, batch_refused}

run_small : (fuel : ℕ) (s : Store) (input : List ℕ) (space : ℕ) → (run fuel s input space).stop ≤ 14
unfolding run
run_small zero s input space = omega arith
run_small (suc fuel) s input space =
    case_parsed (parse input)
    (λ e. rw (run_end fuel s input space e) (omega arith))
    (λ n e.
    let w : Reads (length input) (stop n) = rw e at (parse_reads input) in
    rw (run_stop fuel s input space n e) (omega arith))
    (λ q n e.
    case (ltb space (length (answer_bytes (step s q).answer)))
    (λ d. rw (run_full fuel s input space q n e d) (omega arith))
    (λ d. rw (run_one fuel s input space q n e d) (run_small fuel (step s q).store (drop n input) _)))

pub batch_small : (s : Store) (input : List ℕ) (space : ℕ) → (batch s input space).stop ≤ 14
batch_small s input space = by_check (table_check s) refl
  where
    by_check : (n : ℕ) → table_check s ≡ n → (batch s input space).stop ≤ 14
    by_check zero e = rw (batch_run s input space e) (run_small (suc (length input)) s input space)
    by_check (suc n) e = rw (batch_refused s input space (suc n) e (λ z. omega arith)) (omega (arith, check_most s))
