-- The commands that a pump received.
use Rattle.std.specs.Prelude.{◌≡◌, ℕ, ◌+◌, List, [], ◌∷◌, ◌++◌}
use Rattle.model_pump.specs.Commands.{Command}
use Rattle.model_pump.specs.declared.command.Command.TheVariants.{Go, Write, Close, Stop}
use Rattle.aio_lane.specs.Ends.{TailSeen}

-- a tail once it received these commands
abbrev pub took_all : TailSeen → List Command → TailSeen
took_all tail commands = record tail { taken = tail.taken ++ commands }

-- how many of these commands are a Go
abbrev pub gos : List Command → ℕ
gos [] = 0
gos (Go ∷ commands) = 1 + gos commands
gos (Write bytes ∷ commands) = gos commands
gos (Close ∷ commands) = gos commands
gos (Stop ∷ commands) = gos commands

-- the bytes of each Write among these commands
abbrev pub writes : List Command → List (List ℕ)
writes [] = []
writes (Go ∷ commands) = writes commands
writes (Write bytes ∷ commands) = bytes ∷ writes commands
writes (Close ∷ commands) = writes commands
writes (Stop ∷ commands) = writes commands

-- the last of these commands
abbrev pub IsLast : Command → List Command → Type 0
IsLast command commands = (before : List Command) × (commands ≡ before ++ command ∷ [])

abbrev pub joined : List (List ℕ) → List ℕ
joined [] = []
joined (part ∷ parts) = part ++ joined parts
