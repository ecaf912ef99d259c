-- Texts that begin with a number and a space, by which the outside hears and tells what is one of many.
use Rattle.std.specs.Prelude.{ℕ, ◌+◌, ◌==◌, List, ◌∷◌, ◌++◌, Option, Some, None, drop, position, take}
use Rattle.std.specs.Fmt.{decimal}
use Rattle.std.specs.Option.{option_map}
use Rattle.model_value.specs.Number.{number_of}

-- the bytes before the first space, and those after it
abbrev pub parted : List ℕ → Option (List ℕ × List ℕ)
parted text = option_map (λ at. (take at text, drop (at + 1) text)) (position (λ byte. byte == 32) text)

-- A number in decimal, a space, and what follows. Zeros may stand before a number, as in a script and a journal.
abbrev pub numbered : List ℕ → Option (ℕ × List ℕ)
numbered text =
    elim (parted text) [
      | None ↦ None
      | Some fields ↦ option_map (λ number. (number, fields.1)) (number_of fields.0)
    ]

-- as it is written
abbrev pub with_number : (number : ℕ) → List ℕ → List ℕ
with_number number rest = decimal number ++ 32 ∷ rest
