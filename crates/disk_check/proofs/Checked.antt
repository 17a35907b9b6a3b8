-- The checks in their order, and what a caller learns of them.
use mathlib.Core.Path.{◌≡◌, sym, ◌∙◌}
use mathlib.Core.Bool.{true, false}
use Prim.Native.Nat.{◌≤◌}
use native.Mathlib.Omega.{arith}
use Rattle.model.specs.declared.Head.{Head}
use Rattle.model.specs.Store.{open_end}
use Rattle.model.proofs.Base.{case}
use Rattle.live.specs.Live.{LiveDisk, live_check}
use Rattle.live.specs.Fit.{Fit}
use Rattle.live.proofs.Behind.{checks_fit}
use Rattle.rows.specs.View.{Tables, store_of}
use Rattle.soundness.specs.Check.{whole_tables, check_of}
use Rattle.disk_check.specs.Check.{live_of, live_check_of}

module _ (head : Head) (t : Tables) (d : LiveDisk) where
  -- of whole rows, and of others
  pub whole_check : whole_tables t ≡ true → live_check_of head t d ≡ live_check (live_of head t d)
  unfolding live_check_of check_of live_check
  whole_check w = rw w

  pub odd_check : whole_tables t ≡ false → live_check_of head t d ≡ 1
  unfolding live_check_of check_of
  odd_check w = rw w

  -- what passes is whole rows, and a live disk that fits a sound store
  pub passed_whole : live_check_of head t d ≡ 0 → whole_tables t ≡ true
  passed_whole e = case (whole_tables t) (λ w. w) (λ w. let z : 1 ≡ 0 = sym (odd_check w) ∙ e in absurd (omega arith))

  pub passed_fit : head.now ≤ open_end → live_check_of head t d ≡ 0 → Fit (store_of head t) d
  passed_fit n e = checks_fit (live_of head t d) n (sym (whole_check (passed_whole e)) ∙ e)
