-- What a sink has where writing stopped.
use Rattle.std.specs.Prelude.{◌≡◌, ℕ, List}
use Rattle.model_wire.specs.Told.{SinkSeen, took, SinkFailed}
use Rattle.model_program.specs.Written.{IsFrontOf}
use Rattle.aio_drive.specs.declared.halt.Halt.{Halt}
use Rattle.aio_drive.specs.declared.halt.Halt.TheVariants.{Memory, Sink}

-- Writing a text stops for want of memory, or where the sink failed; it took a front.
abbrev pub StopsWriting : List ℕ → SinkSeen → SinkSeen → Halt → Type 0
StopsWriting text old new Memory = (front : List ℕ) × IsFrontOf front text × (new ≡ took old front)
StopsWriting text old new Sink = (front : List ℕ) × IsFrontOf front text × SinkFailed front old new
