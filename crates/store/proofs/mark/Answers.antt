use Rattle.store.proofs.Laws.{mark_late, mark_done}
use Rattle.store.proofs.mark.Goals as goal

pub returns-then-current-ge-OPEN_END : goal.returns-then-current-ge-OPEN_END
returns-then-current-ge-OPEN_END c =
    mark_late c.args.head c.refused.result c.refused.ensures c.if-current-ge-OPEN_END.true

pub returns : goal.returns
returns c =
    mark_done c.args.head c.accepted.result c.accepted.ensures c.if-current-ge-OPEN_END.false
