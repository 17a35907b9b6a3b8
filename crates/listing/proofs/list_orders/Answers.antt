use mathlib.Core.Path.{◌≡◌, sym, ap, ◌∙◌}
use native.Mathlib.Omega.{arith}
use Rattle.model.specs.Store.{newest, branches}
use Rattle.model.specs.ByNumber.{Sound}
use Rattle.rows.specs.View.{Tables, tables, store_of}
use Rattle.rows.proofs.Laws.{branch_count, name_count}
use Rattle.record_check.specs.declared.Finding.{Finding}
use Rattle.soundness.specs.Check.{check_of}
use Rattle.soundness.proofs.Checked.{checked_sound}
use Rattle.listing.proofs.Refusing.{list_refused, list_below, list_above, list_full, list_done}
use Rattle.listing.proofs.list_orders.Goals as goal
use Rattle.listing.proofs.list_orders.Goals.{Else-refusal-ne0}

abbrev lent : Else-refusal-ne0 → Tables
lent c = tables c.args.bt.now c.args.rt.now c.args.pt.now c.args.nt.now c.args.slab.now

-- the checks found nothing, so what is lent is sound
checked : (c : Else-refusal-ne0) → check_of c.args.head (lent c) ≡ 0
checked c = sym (ap (λ (f : Finding). f.refusal) c.check-found.ensures) ∙ c.if-refusal-ne0.false

sound : (c : Else-refusal-ne0) → Sound (store_of c.args.head (lent c))
sound c = checked_sound c.args.head (lent c) (omega arith) (checked c)

pub returns-then-refusal-ne0 : goal.returns-then-refusal-ne0
returns-then-refusal-ne0 c =
    list_refused c.args.head _ c.args.moment c.args.list.now c.check-found.result.refusal (ap (λ (f : Finding). f.refusal) c.check-found.ensures) c.if-refusal-ne0.true

pub readable-below-requires : goal.readable-below-requires
readable-below-requires c =
    let s = sound (goal.at.readable-below-requires c).Else-refusal-ne0 in
    omega (arith, s.sizes.names_counted, s.sizes.allowed.name_rows, name_count c.args.nt.now)

pub returns-then-below : goal.returns-then-below
returns-then-below c =
    let at = (goal.at.returns-then-below c).Else-refusal-ne0 in
    list_below c.args.head (lent at) c.args.moment c.args.list.now (checked at) (sym (c.readable-below.ensures (lent at)) ∙ c.if-below.true)

pub returns-then-head-moment : goal.returns-then-head-moment
returns-then-head-moment c =
    let at = (goal.at.returns-then-head-moment c).Else-refusal-ne0 in
    list_above c.args.head (lent at) c.args.moment c.args.list.now (checked at) (sym (c.readable-below.ensures (lent at)) ∙ c.if-below.false) c.if-head-moment.true

pub count_orders-count-requires : goal.count_orders-count-requires
count_orders-count-requires c =
    let s = sound (goal.at.count_orders-count-requires c).Else-refusal-ne0 in
    omega (arith, s.sizes.counted_high, branch_count c.args.bt.now)

pub returns-then-list-count : goal.returns-then-list-count
unfolding newest branches
returns-then-list-count c =
    let at = (goal.at.returns-then-list-count c).Else-refusal-ne0 in
    list_full c.args.head (lent at) c.args.moment c.args.list.now (checked at) (sym (c.readable-below.ensures (lent at)) ∙ c.if-below.false) c.if-head-moment.false
    (omega (arith, c.if-list-count.true, c.count_orders-count.ensures))

pub put_orders-requires : goal.put_orders-requires
put_orders-requires c =
    let s = sound (goal.at.put_orders-requires c).Else-refusal-ne0 in
    record { branches_in = omega (arith, s.sizes.counted_high, branch_count c.args.bt.now); when_in_bounds = omega (arith, c.if-list-count.false, c.count_orders-count.ensures) }

pub returns : goal.returns
unfolding newest branches
returns c =
    let at = (goal.at.returns c).Else-refusal-ne0 in
    list_done c.args.head (lent at) c.args.moment c.args.list.now (checked at) (sym (c.readable-below.ensures (lent at)) ∙ c.if-below.false) c.if-head-moment.false
    (omega (arith, c.if-list-count.false, c.count_orders-count.ensures)) c.count_orders-count.result _ c.count_orders-count.ensures c.put_orders.ensures
