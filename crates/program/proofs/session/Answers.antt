use Rattle.std.proofs.Common.{◌<◌, length, arith}
use Rattle.program.proofs.Serving.{no_area, session_leaves}
use Rattle.program.proofs.session.Goals as goal

pub returns-then-out-eq0 : goal.returns-then-out-eq0
returns-then-out-eq0 c = no_area c.if-out-eq0.true

-- the area has a byte for the stop number
pub returns : goal.returns
returns c =
    let some : 0 < length c.args.out.now = omega arith in
    session_leaves c.args.input.now c.args.out.now some c.serve-reply.ensures c.serve-reply.auto.answers
