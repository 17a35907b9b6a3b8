use mathlib.Core.Path.{sym, ap, ◌∙◌}
use Rattle.model.specs.declared.Name.{Name}
use Rattle.naming.proofs.Search.{named_hit, named_miss, named_none}
use Rattle.naming.proofs.is_named.Goals as goal

pub returns-then-x-m : goal.returns-then-x-m
returns-then-x-m c =
    sym (c.loop-i.invariant ∙ named_hit _ _ c.loop-i.i c.requires _ c.loop-i-test.true (sym (ap (λ (x : Name). x.moment) c.name_at-x.ensures) ∙ c.if-x-m.true))

pub loop-i-preserved : goal.loop-i-preserved
loop-i-preserved c =
    c.loop-i.invariant ∙ named_miss _ _ c.loop-i.i c.requires _ c.loop-i-test.true (λ e. c.if-x-m.false (ap (λ (x : Name). x.moment) c.name_at-x.ensures ∙ e))

pub returns : goal.returns
returns c = sym (c.loop-i.invariant ∙ named_none _ _ c.loop-i.i c.requires _ c.loop-i-test.false)
