use Prim.Native.Nat.{ℕ, ◌≤◌, ◌-◌}
use mathlib.Core.Path.{◌≡◌, sym, ap, ◌∙◌}
use mathlib.Core.List.{List, ◌++◌, append_assoc}
use native.Mathlib.Omega.{arith}
use lib.ListN.{length, take, drop, length-append, length-take, length-drop}
use Rattle.model.specs.Store.{page_at}
use Rattle.model.specs.Wire.{bytes}
use Rattle.model.proofs.Packing.{length_bytes}
use Rattle.answering.specs.Answers.{head_bytes}
use Rattle.wire.specs.Front.{in_front}
use Rattle.wire.proofs.Front.{front_then, length_front}
use Rattle.answering.proofs.Answers.{length_head, sent_none, size_none, sent_page, page_lies, size_page}
use Rattle.answering.proofs.put_answer.Goals as goal
use Rattle.answering.proofs.put_answer.Goals.{In-Row}

-- where a page is sent, the area has room for all of the answer
room : (c : In-Row) → 265 ≤ length c.args.out.now
room c = omega (arith, size_page c.args.r c.args.slab.now _ c.in-Row.is c.requires.1, c.requires.2)

-- the head, and the date behind it
abbrev head : In-Row → List ℕ
head c = head_bytes c.args.r.refusal 1 c.args.r.value

abbrev date : In-Row → List ℕ
date c = bytes 4 c.in-Row.row.moment

five : (c : In-Row) → length (head c) ≡ 5
five c = length_head c.args.r.refusal 1 c.args.r.value

nine : (c : In-Row) → length (head c ++ date c) ≡ 9
nine c = omega (arith, length-append (head c) (date c), five c, length_bytes 4 c.in-Row.row.moment)

-- with the head in front the area is as long as it was
headed_room : (c : In-Row) (out : List ℕ) → out ≡ in_front (head c) c.args.out.now → 265 ≤ length out
headed_room c out e =
    let fits : 265 ≤ length c.args.out.now = room c in
    omega (arith, ap length e, length_front (head c) c.args.out.now (omega (arith, five c)))

-- the area with head and date in front, and its length
abbrev dated : List ℕ → List ℕ → List ℕ
dated out back = take 5 out ++ (back ++ drop (length out - 5) (drop 5 out))

module _ (c : In-Row) (out back : List ℕ) (e : out ≡ in_front (head c) c.args.out.now) (f : back ≡ in_front (date c) (take (length out - 5) (drop 5 out))) where
  dated_is : dated out back ≡ in_front (head c ++ date c) c.args.out.now
  dated_is = front_then (head c) (date c) c.args.out.now out back 5 (five c) e f

  dated_room : 265 ≤ length (dated out back)
  dated_room =
      let fits : 265 ≤ length c.args.out.now = room c in
      omega (arith, ap length dated_is, length_front (head c ++ date c) c.args.out.now (omega (arith, nine c)))

pub put_head-requires : goal.put_head-requires
put_head-requires c =
    (omega (arith, size_none c.args.r c.args.slab.now c.in-Nothing.is, c.requires.2), c.requires.0, omega arith)

pub put_head-requires-in-Row : goal.put_head-requires-in-Row
put_head-requires-in-Row c = (omega (arith, room (goal.at.put_head-requires-in-Row c).In-Row), c.requires.0, omega arith)

pub slice_bounds-put_number-count : goal.slice_bounds-put_number-count
slice_bounds-put_number-count c = omega (arith, headed_room (goal.at.slice_bounds-put_number-count c).In-Row _ c.put_head-in-Row.ensures)

pub slice_bounds-put_number-start : goal.slice_bounds-put_number-start
slice_bounds-put_number-start c = omega (arith, headed_room (goal.at.slice_bounds-put_number-start c).In-Row _ c.put_head-in-Row.ensures)

pub put_number-requires : goal.put_number-requires
put_number-requires c =
    simp (length-take, length-drop) (omega (arith, headed_room (goal.at.put_number-requires c).In-Row _ c.put_head-in-Row.ensures))

pub slice_bounds-put_page-count : goal.slice_bounds-put_page-count
slice_bounds-put_page-count c = omega (arith, dated_room (goal.at.slice_bounds-put_page-count c).In-Row _ _ c.put_head-in-Row.ensures c.put_number.ensures)

pub slice_bounds-put_page-start : goal.slice_bounds-put_page-start
slice_bounds-put_page-start c = omega (arith, dated_room (goal.at.slice_bounds-put_page-start c).In-Row _ _ c.put_head-in-Row.ensures c.put_number.ensures)

pub put_page-requires : goal.put_page-requires
put_page-requires c = (
  simp (length-take, length-drop) (omega (arith, dated_room (goal.at.put_page-requires c).In-Row _ _ c.put_head-in-Row.ensures c.put_number.ensures)),
  page_lies c.args.r c.args.slab.now _ c.in-Row.is c.requires.1,
)

pub returns-in-Nothing : goal.returns-in-Nothing
returns-in-Nothing c =
    let e = c.in-Nothing.is in (
      sym (size_none c.args.r c.args.slab.now e),
      rw (sent_none c.args.r c.args.slab.now e) c.put_head.ensures,
    )

-- head and date in front, then the page behind them
pub returns-in-Row : goal.returns-in-Row
returns-in-Row c =
    let row = (goal.at.returns-in-Row c).In-Row in
    let slab = c.args.slab.now in
    let page = page_at slab c.in-Row.row.place in (
      sym (size_page c.args.r slab _ c.in-Row.is c.requires.1),
      front_then (head row ++ date row) page c.args.out.now _ _ 9 (nine row) (dated_is row _ _ c.put_head-in-Row.ensures c.put_number.ensures) c.put_page.ensures
          ∙ ap (λ (l : List ℕ). in_front l c.args.out.now) (append_assoc (head row) (date row) page ∙ sym (sent_page c.args.r slab _ c.in-Row.is)),
    )
