-- What the cuts of branches become where some rows go, by row number.
use Rattle.std.specs.Prelude.{List, Bool, cond, ℕ, zero, suc, set}
use Rattle.model.specs.declared.Branch.{Branch}
use Rattle.model.specs.Lookup.{holds}
use Rattle.model.specs.Step.{with_cut}
use Rattle.model.specs.ByNumber.{branch}

-- what a cut becomes among the first n rows, of which those that pass stay: it stays where the row that holds it does,
-- else that row's cut takes over, and so on
unfoldable pub landing_by : (ℕ → Bool) → List Branch → ℕ → ℕ → ℕ
landing_by p bs zero t = t
landing_by p bs (suc i) t =
    cond (holds (branch bs i) t) (cond (p i) t (landing_by p bs i (branch bs i).cut)) (landing_by p bs i t)

-- the rows, the first n with what their cuts become
unfoldable pub recut : (ℕ → Bool) → List Branch → ℕ → List Branch
recut p bs zero = bs
recut p bs (suc i) = set (recut p bs i) i (with_cut (branch bs i) (landing_by p bs i (branch bs i).cut))
