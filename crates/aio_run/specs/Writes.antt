-- What a call writes of what it may write.
use Rattle.std.specs.Prelude.{ℕ, Result, Ok, Err}
use Rattle.model_wire.specs.Told.{SinkSeen}
use Rattle.model_program.specs.Written.{ProgramOutput, WritesWhole}
use Rattle.aio_drive.specs.Outcome.{EndsEarly}
use Rattle.aio_drive.specs.declared.halt.Halt.{Halt}

-- The sink took the whole text of an output that may be, and the answer is its status; or writing stopped, and it took a front of one,
-- which is empty while no more is known than that the call has begun.
abbrev pub Writes : (may : ProgramOutput → Type 0) → (unbegun : Type 0) → SinkSeen → SinkSeen → Result ℕ Halt → Type 0
Writes may unbegun old new (Ok status) = WritesWhole may old new status
Writes may unbegun old new (Err halt) = EndsEarly may unbegun old new halt
