-- What a lookup sees, without an address: from a moment t, what was written at a moment m.
use Rattle.std.specs.Prelude.{List, Bool, false, cond, ◌&&◌, ◌||◌, ℕ, zero, suc, leb}
use Rattle.model.specs.declared.Branch.{Branch}
use Rattle.model.specs.Lookup.{holds}
use Rattle.model.specs.ByNumber.{branch}

-- a lookup at t, among the first n branches, comes by the moment m
unfoldable pub reach : List Branch → ℕ → ℕ → ℕ → Bool
reach bs zero t m = false
reach bs (suc k) t m = cond (holds (branch bs k) t) ((leb (branch bs k).start m && leb m t) || reach bs k (branch bs k).cut m) (reach bs k t m)
