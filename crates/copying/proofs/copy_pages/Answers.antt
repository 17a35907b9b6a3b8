use Rattle.copying.proofs.Laws.{going_current, going_stale, going_full, going_end}
use Rattle.copying.proofs.copy_pages.Goals as goal

pub returns-then-budget-count : goal.returns-then-budget-count
returns-then-budget-count c = going_full c.loop-a.invariant c.if-budget-count.true

pub loop-a-preserved-then-mark-eq1 : goal.loop-a-preserved-then-mark-eq1
loop-a-preserved-then-mark-eq1 c = going_current c.loop-a.invariant c.loop-a-test.true c.if-mark-eq1.true

pub loop-a-preserved : goal.loop-a-preserved
loop-a-preserved c = going_stale c.loop-a.invariant c.loop-a-test.true c.if-budget-count.false c.if-mark-eq1.false c.bring.ensures

pub returns : goal.returns
returns c = going_end c.loop-a.invariant c.loop-a-test.false
