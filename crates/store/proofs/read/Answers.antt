use mathlib.Core.Path.{sym, ◌∙◌}
use Prim.Native.Nat.{◌<◌, ◌≤◌}
use Rattle.rows.specs.View.{Tables, with_branches, with_records, with_names}
use Rattle.store.proofs.Laws.{read_outside, read_below, read_above, read_done}
use Rattle.store.proofs.read.Goals as goal

pub returns-then-outside : goal.returns-then-outside
returns-then-outside c =
    let lent : Tables → Tables = λ t. with_names c.args.nt.now (with_records c.args.rt.now (with_branches c.args.bt.now t)) in
    λ t. read_outside c.args.head (lent t) c.args.a c.args.m c.refused.result c.refused.ensures c.if-outside.true

pub returns-then-gone : goal.returns-then-gone
returns-then-gone c =
    let lent : Tables → Tables = λ t. with_names c.args.nt.now (with_records c.args.rt.now (with_branches c.args.bt.now t)) in
    let inside : c.args.a < c.args.head.size = c.if-outside.false in
    λ t. read_below c.args.head (lent t) c.args.a c.args.m c.refused-then-gone.result (inside) c.refused-then-gone.ensures (sym (c.readable-gone.ensures (lent t)) ∙ c.if-gone.true)

pub returns-then-ahead : goal.returns-then-ahead
returns-then-ahead c =
    let lent : Tables → Tables = λ t. with_names c.args.nt.now (with_records c.args.rt.now (with_branches c.args.bt.now t)) in
    let inside : c.args.a < c.args.head.size = c.if-outside.false in
    λ t. read_above c.args.head (lent t) c.args.a c.args.m c.refused-then-ahead.result (inside) (sym (c.readable-gone.ensures (lent t)) ∙ c.if-gone.false) c.refused-then-ahead.ensures c.if-ahead.true

pub returns : goal.returns
returns c =
    let lent : Tables → Tables = λ t. with_names c.args.nt.now (with_records c.args.rt.now (with_branches c.args.bt.now t)) in
    let inside : c.args.a < c.args.head.size = c.if-outside.false in
    let not_above : c.args.m ≤ c.args.head.now = c.if-ahead.false in
    λ t. read_done c.args.head (lent t) c.args.a c.args.m (inside) (sym (c.readable-gone.ensures (lent t)) ∙ c.if-gone.false) (not_above) c.find_record-found.result c.find_record-found.ensures
