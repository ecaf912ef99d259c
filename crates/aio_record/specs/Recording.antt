-- What a file has in which answers are recorded, where that stopped.
use Rattle.std.specs.Prelude.{ℕ, List}
use Rattle.model_wire.specs.Told.{ShelfSeen}
use Rattle.model_program.specs.Written.{IsFrontOf}
use Rattle.model_commands.specs.Recorded.{Grew, GrewAndFailed}
use Rattle.aio_record.specs.declared.Unrecorded.{Unrecorded}
use Rattle.aio_record.specs.declared.Unrecorded.TheVariants.{Memory, File}

-- Appending stops for want of memory, or where the file failed; it has a front.
abbrev pub StopsAppending : (name entries : List ℕ) → (old new : ShelfSeen) → Unrecorded → Type 0
StopsAppending name entries old new Memory = (front : List ℕ) × IsFrontOf front entries × Grew name front old new
StopsAppending name entries old new File = (front : List ℕ) × IsFrontOf front entries × GrewAndFailed name front old new
