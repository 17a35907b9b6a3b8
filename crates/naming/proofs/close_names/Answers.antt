use mathlib.Core.Path.{sym, ◌∙◌}
use Rattle.naming.proofs.Laws.{names_start, names_end, names_drop, names_keep}
use Rattle.naming.proofs.close_names.Goals as goal
use Rattle.naming.proofs.close_names.Goals.{then-not-is_called, else-not-is_called}

pub loop-i-init : goal.loop-i-init
loop-i-init c = names_start

pub loop-i-preserved : goal.loop-i-preserved
loop-i-preserved c =
    elim c.if-not-is_called.branch [
      | then-not-is_called w ↦ rw (w.nt-is, w.w-is) (names_keep c.loop-i.invariant c.requires c.loop-i.auto.nt c.loop-i-test.true c.name_at-x.ensures c.set_name.ensures (sym c.is_called.ensures ∙ w.if-not-is_called.true) w.set_name-then-not-is_called.ensures)
      | else-not-is_called w ↦ rw (w.nt-is, w.w-is) (names_drop c.loop-i.invariant c.requires c.loop-i.auto.nt c.loop-i-test.true c.name_at-x.ensures c.set_name.ensures (sym c.is_called.ensures ∙ w.if-not-is_called.false))
    ]

pub returns : goal.returns
returns c = names_end c.loop-i.invariant c.requires c.loop-i-test.false
