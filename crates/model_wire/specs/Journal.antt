-- What a journal's lines say as a run meets them.
use Rattle.std.specs.Prelude.{ℕ}
use Rattle.model_wire.specs.Call.{Answer}

-- a line: an answer, or one that is none, with its number from 1 and the cause
pub data Entry : Type 0 where
  Answered : (answer : Answer) → Entry
  Refused : (line cause : ℕ) → Entry
