use native.Mathlib.Omega.{arith}
use Rattle.naming.proofs.Laws.{give_low, give_open, give_twice, give_full, give_done}
use Rattle.naming.proofs.give.Goals as goal

pub returns-then-not-ok : goal.returns-then-not-ok
returns-then-not-ok c =
    give_low c.args.head c.args.nt.now c.args.n c.readable-ok.result c.readable-ok.ensures _ c.refused.ensures c.if-not-ok.true

pub returns-then-head-n : goal.returns-then-head-n
returns-then-head-n c =
    give_open c.args.head c.args.nt.now c.args.n c.readable-ok.result c.readable-ok.ensures c.if-not-ok.false _ c.refused-then-head-n.ensures c.if-head-n.true

pub returns-then-twice : goal.returns-then-twice
returns-then-twice c =
    give_twice c.args.head c.args.nt.now c.args.n c.readable-ok.result c.readable-ok.ensures c.if-not-ok.false (omega (arith, c.if-head-n.false)) c.is_given-twice.result c.is_given-twice.ensures _ c.refused-then-twice.ensures c.if-twice.true

pub returns-then-k-ge32 : goal.returns-then-k-ge32
returns-then-k-ge32 c =
    give_full c.args.head c.args.nt.now c.args.n c.readable-ok.result c.readable-ok.ensures c.if-not-ok.false (omega (arith, c.if-head-n.false)) c.is_given-twice.result c.is_given-twice.ensures c.if-twice.false _ c.refused-then-k-ge32.ensures c.if-k-ge32.true

pub returns : goal.returns
returns c =
    give_done c.args.head c.args.nt.now c.args.n c.readable-ok.result c.readable-ok.ensures c.if-not-ok.false (omega (arith, c.if-head-n.false)) c.is_given-twice.result c.is_given-twice.ensures c.if-twice.false _ _ (rw c.with_names.ensures at c.accepted.ensures) (omega (arith, c.if-k-ge32.false)) c.set_name.ensures
