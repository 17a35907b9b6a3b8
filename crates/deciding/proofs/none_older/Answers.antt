use mathlib.Core.Path.{◌∙◌}
use mathlib.Core.List.{List}
use native.Mathlib.Omega.{arith}
use lib.Dec.{leb}
use borrow.Author.Tests.{tests}
use Rattle.std.proofs.Common.{rules}
use Rattle.std.proofs.lemmas.Iterator.{YieldsList-from_range}
use Rattle.std.proofs.lemmas.Iterator.Search.{all_from_yields_List}
use Rattle.model.specs.declared.Record.{Record}
use Rattle.model.specs.ByNumber.{entry}
use Rattle.rows.specs.Rows.{record_rows_of}
use Rattle.deciding.proofs.Keeping.{all_young}
use Rattle.deciding.proofs.none_older.Goals as goal

pub returns : goal.returns
returns c =
    let rs : List Record = record_rows_of c.args.rt.now in
    all_from_yields_List (λ k. leb c.args.floor (entry rs k).moment) _ _ _ c.all.ensures.ran (YieldsList-from_range 0 c.args.nr c.args.nr (cc) (omega arith)) (λ x b q k. search (rules, tests))
    ∙ all_young rs c.args.floor c.args.nr
