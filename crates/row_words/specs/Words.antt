-- Words behind the program's name, with the command that they ask for.
use Rattle.std.specs.Prelude.{ℕ, List, ◌∷◌, Option, None, codes}
use Rattle.model_words.specs.Words.{Command, command_of}

pub record WordsRow : Type 0 where
  pub words : List (List ℕ)
  pub command : Option Command

abbrev pub found : WordsRow → Option Command
found row = command_of row.words

abbrev pub expected : WordsRow → Option Command
expected row = row.command

abbrev pub check : List (List ℕ) → Option Command → WordsRow
check words command = record { words = codes "check" ∷ words; command = command }

abbrev pub replay : List (List ℕ) → Option Command → WordsRow
replay words command = record { words = codes "replay" ∷ words; command = command }

abbrev pub run : List (List ℕ) → Option Command → WordsRow
run words command = record { words = codes "run" ∷ words; command = command }

abbrev pub work : List (List ℕ) → Option Command → WordsRow
work words command = record { words = codes "work" ∷ words; command = command }

-- words that ask for nothing
abbrev pub nothing : List (List ℕ) → WordsRow
nothing words = record { words = words; command = None }
