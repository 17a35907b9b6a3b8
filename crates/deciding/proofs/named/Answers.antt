use mathlib.Core.Path.{ap}
use native.Mathlib.Omega.{arith}
use Rattle.model.specs.declared.Name.{Name}
use Rattle.rows.specs.Rows.{name_rows_of}
use Rattle.rows.proofs.Laws.{name_count}
use Rattle.deciding.proofs.Keeping.{behind_step}
use Rattle.deciding.proofs.named.Goals as goal

pub loop-j-preserved : goal.loop-j-preserved
loop-j-preserved c =
    behind_step (name_rows_of c.args.nt.now) c.args.c c.loop-j.j c.loop-j.invariant (omega (arith, name_count c.args.nt.now)) (omega arith) (ap (λ (n : Name). n.moment) c.name_at-n.ensures)
