use mathlib.Core.Path.{sym, ◌∙◌}
use native.Mathlib.Nat.{div-one}
use native.Mathlib.Omega.{arith}
use Rattle.wire.proofs.Requests.{spells, parse_none, parse_short, parse_whole}
use Rattle.wire.proofs.read_request.Goals as goal

pub returns-then-part-eq0 : goal.returns-then-part-eq0
returns-then-part-eq0 c = sym (parse_none c.args.part.now c.if-part-eq0.true)

pub returns-then-part-lt7 : goal.returns-then-part-lt7
returns-then-part-lt7 c = sym (parse_short c.args.part.now c.if-part-eq0.false c.if-part-lt7.true)

pub returns : goal.returns
returns c =
    let part = c.args.part.now in
    c.by_operation.ensures part (omega arith) (spells part c.name_number-name.result c.name_number-name.ensures)
    ∙ sym (parse_whole part (omega arith) ∙ rw (← c.get_number-n.ensures, div-one c.get_number-n.result))
