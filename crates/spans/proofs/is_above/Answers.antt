use Rattle.std.proofs.Common.{sym, ◌∙◌, arith}
use Rattle.spans.proofs.Framing.{more_above, tried}
use Rattle.spans.proofs.is_above.Goals.{else-c-ne-via-then-c-ne+else-m-keys, else-c-ne-via-else-c-ne}
use Rattle.spans.proofs.is_above.Goals as goal

pub returns-then-m-keys : goal.returns-then-m-keys
returns-then-m-keys c = sym (more_above c.args.keys.now c.args.ne c.args.m c.args.c c.if-c-ne.true c.if-m-keys.true)

pub returns : goal.returns
returns c =
    c.reaches.ensures
    ∙ tried c.requires.falling c.args.m c.args.c c.requires.ne_in_bounds.1
    (λ l. elim c.else-c-ne.branch [ else-c-ne-via-then-c-ne+else-m-keys w ↦ w.if-m-keys.false | else-c-ne-via-else-c-ne w ↦ absurd (omega (arith, w.if-c-ne.false)) ])
