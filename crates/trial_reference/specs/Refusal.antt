use Rattle.std.specs.Prelude.{ℕ}
use Rattle.trial_reference.specs.declared.refusals.Refusal.{Refusal}
use Rattle.trial_reference.specs.declared.refusals.Refusal.TheVariants.{Address, Records, Places, Branches, Below, Above, LastMoment, NameGiven, Names, NotGiven}

-- the number of a refusal in an answer
abbrev pub number_of : Refusal → ℕ
number_of Address = 4
number_of Records = 5
number_of Places = 6
number_of Branches = 7
number_of Below = 8
number_of Above = 9
number_of LastMoment = 10
number_of NameGiven = 15
number_of Names = 16
number_of NotGiven = 17
