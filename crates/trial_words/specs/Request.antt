use Rattle.std.specs.Prelude.{◌≡◌, ℕ, ◌<◌, ◌⊎◌, Result, MatchResult}
use Rattle.trial_words.specs.declared.request.NoOperation.{NoOperation}
use Rattle.trial_words.specs.declared.request.Operation.{Operation}
use Rattle.trial_words.specs.declared.request.Operation.TheVariants.{Write, Mark, Revert, Read, Reclaim, GiveName, WithdrawName}

-- the number of an operation in a request
abbrev pub number_of : Operation → ℕ
number_of Write = 1
number_of Mark = 2
number_of Revert = 3
number_of Read = 4
number_of Reclaim = 5
number_of GiveName = 6
number_of WithdrawName = 7

-- the result is the operation of a number, or the number where no operation has it
abbrev pub Decodes : ℕ → Result Operation NoOperation → Type 0
Decodes n r = MatchResult r (λ operation. number_of operation ≡ n) (λ e. (e.0 ≡ n) × ((n ≡ 0) ⊎ (7 < n)))
