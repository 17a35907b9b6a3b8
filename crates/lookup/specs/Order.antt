-- Records in their order, by their numbers.
use Rattle.std.specs.Prelude.{List, [], ◌∷◌, cond, ℕ, suc}
use Rattle.model.specs.declared.Record.{Record}
use Rattle.model.specs.Soundness.{precedes}

-- how many records stand up to (address, moment), itself included
unfoldable pub up_to : ℕ → ℕ → List Record → ℕ
up_to a t [] = 0
up_to a t (r ∷ rs) = cond (precedes (record { address = a; moment = t; place = 0 }) r) 0 (suc (up_to a t rs))
