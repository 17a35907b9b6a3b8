use mathlib.Core.Path.{sym, ◌∙◌}
use mathlib.Core.Bool.{true}
use Prim.Native.Nat.{◌<◌}
use Rattle.model.specs.Store.{open_end}
use Rattle.store.proofs.Laws.{Tells, revert_below, revert_above, revert_late, revert_full, revert_none}
use Rattle.store.proofs.revert_refusal.Goals as goal

pub returns-then-below : goal.returns-then-below
returns-then-below c =
    revert_below c.args.head c.args.rows c.args.nt.now c.args.to (λ t. sym (c.readable-below.ensures t) ∙ c.if-below.true)

pub returns-then-above : goal.returns-then-above
returns-then-above c =
    let not-below : Tells c.args.head c.args.nt.now c.args.to true = λ t. sym (c.readable-below.ensures t) ∙ c.if-below.false in
    revert_above c.args.head c.args.rows c.args.nt.now c.args.to (not-below) c.if-above.true

pub returns-then-late : goal.returns-then-late
returns-then-late c =
    let not-below : Tells c.args.head c.args.nt.now c.args.to true = λ t. sym (c.readable-below.ensures t) ∙ c.if-below.false in
    let not_above : c.args.to < c.args.head.now = c.if-above.false in
    revert_late c.args.head c.args.rows c.args.nt.now c.args.to (not-below) (not_above) c.if-late.true

pub returns-then-full : goal.returns-then-full
returns-then-full c =
    let not-below : Tells c.args.head c.args.nt.now c.args.to true = λ t. sym (c.readable-below.ensures t) ∙ c.if-below.false in
    let not_above : c.args.to < c.args.head.now = c.if-above.false in
    let not_late : c.args.head.now < open_end = c.if-late.false in
    revert_full c.args.head c.args.rows c.args.nt.now c.args.to (not-below) (not_above) (not_late) c.if-full.true

pub returns : goal.returns
returns c =
    let not-below : Tells c.args.head c.args.nt.now c.args.to true = λ t. sym (c.readable-below.ensures t) ∙ c.if-below.false in
    let not_above : c.args.to < c.args.head.now = c.if-above.false in
    let not_late : c.args.head.now < open_end = c.if-late.false in
    revert_none c.args.head c.args.rows c.args.nt.now c.args.to (not-below) (not_above) (not_late) c.if-full.false
