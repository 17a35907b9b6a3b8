use mathlib.Core.Path.{◌≡◌, ap, sym, ◌∙◌}
use mathlib.Core.Option.{none}
use mathlib.Core.List.{List}
use Prim.Native.Nat.{ℕ, ◌+◌}
use native.Mathlib.Omega.{arith}
use lib.ListN.{length, set, length-map}
use Rattle.model.specs.Step.{first_free, shifted}
use Rattle.model.proofs.Places.{first_free_none}
use Rattle.rows.proofs.Laws.{record_count}
use Rattle.writing.specs.Free.{free_of}
use Rattle.writing.proofs.Laws.{Taking, taking_of, none_taken, write_full, write_none, write_done}
use Rattle.writing.proofs.write_new.Goals as goal
use Rattle.writing.proofs.write_new.Goals.{In-Some, In_default}

-- there is a row for a new record, and a place
taking : (c : In-Some) → Taking c.args.head c.args.rt.now c.args.pt.now c.args.at c.in-Some.p
taking c =
    taking_of c.args.head c.args.rt.now c.args.pt.now c.args.a c.args.at c.in-Some.p c.in-Some.ensures c.requires.page_len.1
    (omega (arith, c.if-record_rows-n.false, c.record_rows.ensures))

-- there is no place
none_free : (c : In_default) → first_free c.args.pt.now ≡ none
none_free c = sym c.first_free-free.ensures ∙ ap free_of c.in_default.is

pub returns-then-record_rows-n-clause-leaves : goal.returns-then-record_rows-n-clause-leaves
returns-then-record_rows-n-clause-leaves c =
    λ t. write_full c.args.head _ c.args.a c.args.page.now c.refused.result c.refused.ensures (omega (arith, c.if-record_rows-n.true, c.record_rows.ensures))

pub returns-in_default : goal.returns-in_default
returns-in_default c =
    let e = none_free (goal.at.returns-in_default c).In_default in
    record {
      leaves = λ t. write_none c.args.head _ c.args.a c.args.page.now c.refused-in_default.result (omega (arith, c.if-record_rows-n.false, c.record_rows.ensures)) c.refused-in_default.ensures e;
      none_below_2 = first_free_none c.args.pt.now e;
    }

pub overflow_cast-r : goal.overflow_cast-r
overflow_cast-r c = omega (arith, (taking (goal.at.overflow_cast-r c).In-Some).smallest.inside, c.requires.room.places)

pub insert_row-requires : goal.insert_row-requires
insert_row-requires c =
    omega (arith, taking (goal.at.insert_row-requires c).In-Some, c.requires.room, record_count c.args.rt.now)

pub offset_bounds-pt-p : goal.offset_bounds-pt-p
offset_bounds-pt-p c =
    omega (arith, (taking (goal.at.offset_bounds-pt-p c).In-Some).smallest.inside, c.requires.room.places)

pub bounds-pt-p : goal.bounds-pt-p
bounds-pt-p c =
    omega (arith, (taking (goal.at.bounds-pt-p c).In-Some).smallest.inside, ap length c.shift_places.ensures, length-map c.args.pt.now (shifted c.args.at))

pub overflow_add-low : goal.overflow_add-low
overflow_add-low c = omega (arith, (taking (goal.at.overflow_add-low c).In-Some).smallest.inside, c.requires.room.places)

pub put_page-requires : goal.put_page-requires
put_page-requires c =
    omega (arith, (taking (goal.at.put_page-requires c).In-Some).smallest.inside, c.requires.room.places, c.requires.room.pages, c.requires.page_len.0)

pub returns : goal.returns
returns c =
    let p = c.in-Some.p in
    let k = taking (goal.at.returns c).In-Some in
    let v = ap (λ (y : List ℕ). set y p (c.args.at + 1)) c.shift_places.ensures in record {
      leaves = λ t. write_done c.args.head _ c.args.a c.args.page.now c.accepted.result k.more _ _ _ p c.args.at c.accepted.ensures k.free c.requires.page_len.1
          c.insert_row.ensures c.insert_row.auto.rt v c.put_page.ensures;
      none_below_2 = rw v (none_taken c.args.pt.now c.args.at p k.smallest);
    }
