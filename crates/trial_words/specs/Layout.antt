use Rattle.std.specs.Prelude.{ℕ}
use Rattle.trial_words.specs.declared.layout.Mode.{Mode}
use Rattle.trial_words.specs.declared.layout.Mode.TheVariants.{Each, All, Drawn, Cut, Back, Space}

-- the number of a mode in the table of numbers
abbrev pub mode_number : Mode → ℕ
mode_number Each = 0
mode_number All = 1
mode_number Drawn = 2
mode_number Cut = 3
mode_number Back = 4
mode_number Space = 5
