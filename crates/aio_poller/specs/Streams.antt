-- What becomes of the bytes of a stream, where these are known, by what a call on it answers. Want of memory may lose what
-- was read.
use Rattle.std.specs.Prelude.{ℕ, ◌<◌, List, take, Option, Result, Ok, Err}
use Rattle.std.specs.Io.KnownBytes.{Keeps, Appends, Consumes, IsAtEnd}
use Rattle.std.specs.declared.io.Error.{Error}
use Rattle.model_wire.specs.Call.{Answer}
use Rattle.model_wire.specs.declared.answer.Answer.TheVariants as answer

-- what was given stood at the front, and is gone; the end is told only where nothing is left, of a buffer with some room
abbrev pub Drains : Option (List ℕ) → Option (List ℕ) → ℕ → Result Answer Error → Type 0
Drains old new room (Ok (answer.Data bytes)) = Consumes old new bytes
Drains old new room (Ok answer.Eof) = Keeps old new × (0 < room → IsAtEnd new)
Drains old new room (Ok _) = Keeps old new
Drains old new room (Err error) = Unit {0}

-- as much as was taken stands behind what was there, and nothing else
abbrev pub Fills : Option (List ℕ) → Option (List ℕ) → List ℕ → Result Answer Error → Type 0
Fills old new bytes (Ok (answer.Took count)) = Appends old new (take count bytes)
Fills old new bytes (Ok _) = Keeps old new
Fills old new bytes (Err error) = Keeps old new
