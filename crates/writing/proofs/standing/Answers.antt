use native.Mathlib.Omega.{arith}
use Rattle.writing.proofs.Laws.{place_inside, row_stands, other_stands, none_stands}
use Rattle.writing.proofs.standing.Goals as goal

pub record_at-q-requires : goal.record_at-q-requires
record_at-q-requires c =
    omega (arith, place_inside c.args.rt.now c.args.n c.args.a c.args.t c.args.c c.requires.records_in c.requires.asc, c.requires.records_in.0, c.if-c-gt0)

pub returns-then-q-t-clause-result_value : goal.returns-then-q-t-clause-result_value
returns-then-q-t-clause-result_value c =
    row_stands c.args.rt.now c.args.n c.args.a c.args.t c.args.c c.requires.records_in c.requires.asc c.record_at-q.result c.record_at-q.ensures c.if-c-gt0.true c.if-q-a.true c.if-q-t.true

pub returns-else-q-t : goal.returns-else-q-t
returns-else-q-t c =
    let x = other_stands c.args.rt.now c.args.n c.args.a c.args.t c.args.c c.requires.records_in c.requires.asc c.record_at-q.result c.record_at-q.ensures (λ _ y. c.if-q-t.false y) in
    record { result_value = x.0; slot = λ _. x.1 }

pub returns-else-q-a : goal.returns-else-q-a
returns-else-q-a c =
    let x = other_stands c.args.rt.now c.args.n c.args.a c.args.t c.args.c c.requires.records_in c.requires.asc c.record_at-q.result c.record_at-q.ensures (λ y _. c.if-q-a.false y) in
    record { result_value = x.0; slot = λ _. x.1 }

pub returns-else-c-gt0 : goal.returns-else-c-gt0
returns-else-c-gt0 c =
    let x = none_stands c.args.rt.now c.args.n c.args.a c.args.t c.args.c c.requires.records_in c.requires.asc c.if-c-gt0.false in
    record { result_value = x.0; slot = λ _. x.1 }
