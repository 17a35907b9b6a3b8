use mathlib.Core.Path.{sym}
use Rattle.answering.proofs.Answers.{size_none, size_page}
use Rattle.answering.proofs.answer_size.Goals as goal

pub returns-in-Nothing : goal.returns-in-Nothing
returns-in-Nothing c = λ slab h. sym (size_none c.args.r slab c.in-Nothing.is)

pub returns-in-Row : goal.returns-in-Row
returns-in-Row c = λ slab h. sym (size_page c.args.r slab _ c.in-Row.is h)
