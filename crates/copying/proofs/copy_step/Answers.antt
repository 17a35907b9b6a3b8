use mathlib.Core.Path.{sym, ap, ◌∙◌}
use native.Mathlib.Omega.{arith}
use Rattle.record_check.specs.declared.Finding.{Finding}
use Rattle.disk_check.proofs.Checked.{passed_fit}
use Rattle.copying.proofs.Laws.{copied_refused, copied_done}
use Rattle.copying.proofs.copy_step.Goals as goal

pub returns-then-refusal-ne0 : goal.returns-then-refusal-ne0
returns-then-refusal-ne0 c =
    copied_refused c.args.head _ _ c.args.budget _ (ap (λ (f : Finding). f.refusal) c.check-found.ensures) c.if-refusal-ne0.true

pub copy_pages-count-requires : goal.copy_pages-count-requires
copy_pages-count-requires c =
    record {
      places = c.args.pt.now;
      names = c.args.nt.now;
      fit = passed_fit c.args.head _ _ (omega arith) (sym (ap (λ (f : Finding). f.refusal) c.check-found.ensures) ∙ c.if-refusal-ne0.false);
    }

pub returns : goal.returns
returns c =
    copied_done c.args.head _ _ c.args.budget (sym (ap (λ (f : Finding). f.refusal) c.check-found.ensures) ∙ c.if-refusal-ne0.false)
    (c.copy_pages-count.ensures c.args.pt.now c.args.nt.now)
