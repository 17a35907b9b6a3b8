use mathlib.Core.Path.{◌≡◌, sym}
use mathlib.Core.Option.{some}
use native.Mathlib.Omega.{arith}
use lib.ListN.{take}
use Rattle.model.specs.Lookup.{latest}
use Rattle.model.proofs.Latest.{latest→}
use Rattle.rows.specs.Rows.{record_rows_of}
use Rattle.writing.proofs.Laws.{write_refused, write_over, write_else}
use Rattle.writing.proofs.write.Goals as goal

pub returns-then-head-a-clause-carried : goal.returns-then-head-a-clause-carried
returns-then-head-a-clause-carried c = λ t. write_refused c.args.head _ c.args.a c.args.page.now c.refused.result c.refused.ensures c.if-head-a.true

pub put_page-requires : goal.put_page-requires
put_page-requires c =
    let rs = take c.args.head.records (record_rows_of c.args.rt.now) in
    let q = c.in-Row.q in
    let e : latest rs c.args.a c.args.head.now c.args.head.now ≡ some q = sym c.in-Row.ensures.result_value in
    omega (arith, c.requires.writable.placed q (latest→ rs c.args.a c.args.head.now c.args.head.now q e).0, c.requires.writable.room.places, c.requires.writable.room.pages, c.requires.page_len)

pub returns-in-Row-clause-carried : goal.returns-in-Row-clause-carried
returns-in-Row-clause-carried c =
    λ t.
    write_over c.args.head _ c.args.a c.args.page.now c.accepted.result _ c.in-Row.q c.accepted.ensures c.if-head-a.false
    (sym c.in-Row.ensures.result_value) c.put_page.ensures

pub returns-in-Nothing-clause-carried : goal.returns-in-Nothing-clause-carried
returns-in-Nothing-clause-carried c =
    λ t.
    write_else c.args.head _ c.args.a c.args.page.now c.write_new.result c.if-head-a.false
    (sym c.in-Nothing.ensures.result_value) (c.write_new.ensures.leaves t)
