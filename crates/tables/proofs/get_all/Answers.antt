use Prim.Native.Nat.{ℕ, ◌-◌, ◌+◌, ◌*◌}
use mathlib.Core.Path.{◌≡◌, ap, ◌∙◌}
use native.Mathlib.Omega.{arith}
use native.Mathlib.Numerals.{add-one}
use lib.ListN.{take, drop, length-set}
use Rattle.model.specs.Wire.{number}
use Rattle.tables.specs.Numbers.{spelled_at}
use Rattle.tables.proofs.Laws.{spelled_fits, number_next, numbers_all}
use Rattle.tables.proofs.get_all.Goals as goal
use Rattle.tables.proofs.get_all.Goals.{After-get_number}

-- what is read is the number that the next four bytes spell
spelled : (c : After-get_number) → c.get_number.result ≡ spelled_at 4 c.args.src.now c.loop-i.i
spelled c =
    let n : c.loop-i.i * 4 + 4 - c.loop-i.i * 4 ≡ 4 = omega arith in
    c.get_number.ensures ∙ ap (λ (x : ℕ). number 0 (take x (drop (c.loop-i.i * 4) c.args.src.now))) n

pub overflow_cast-dst : goal.overflow_cast-dst
overflow_cast-dst c =
    omega (
      arith,
      spelled (goal.at.overflow_cast-dst c).After-get_number,
      spelled_fits c.args.src.now c.loop-i.i (omega (arith, c)) (λ k. (c.type_inv.src k).fits),
    )

pub loop-i-preserved : goal.loop-i-preserved
loop-i-preserved c = (
  omega arith,
  simp length-set c.loop-i.invariant.1,
  rw (add-one c.loop-i.i) (number_next c.args.src.now c.loop-i.dst c.loop-i.i c.get_number.result (omega arith) (omega arith) c.loop-i.invariant.2 (spelled (goal.at.loop-i-preserved c).After-get_number)),
)

pub returns : goal.returns
returns c =
    numbers_all c.args.src.now c.loop-i.dst c.loop-i.i (omega arith) (omega arith) c.loop-i.invariant.2
