-- What a command starts.
use Rattle.std.specs.Prelude.{◌≡◌, ℕ, List, ◌∷◌, map, string_bytes}
use Rattle.std.specs.Process.{command_program, command_args}
use Rattle.std.specs.declared.string.String.{String}
use Rattle.std.specs.declared.process.command.Command.{Command}

-- what some texts say
abbrev pub texts : {A : Type 0} → List (String A) → List (List ℕ)
texts all = map string_bytes all

-- the program of the first word, with the others for its arguments
abbrev pub Starts : {A B : Type 0} → List (String A) → Command B → Type 0
Starts words command = command_program command ∷ command_args command ≡ texts words
