use mathlib.Core.Path.{◌≡◌}
use lib.Dec.{eqb}
use lib.ListN.{take, drop}
use Rattle.model.specs.Store.{moments, any}
use Rattle.rows.specs.Rows.{name_rows_of}
use Rattle.naming.proofs.is_named.Given as goal

abbrev pub invariant-loop-i : goal.invariant-loop-i
invariant-loop-i l = any (λ t. eqb t l.m) (moments (take l.n (name_rows_of l.nt))) ≡ any (λ t. eqb t l.m) (moments (drop l.i (take l.n (name_rows_of l.nt))))
