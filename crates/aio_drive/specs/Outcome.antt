-- How writing stops before all is written, by what may be written.
use Rattle.model_wire.specs.Told.{SinkSeen}
use Rattle.model_program.specs.Written.{ProgramOutput, StopsShort, SinkStops}
use Rattle.aio_drive.specs.declared.halt.Halt.{Halt}
use Rattle.aio_drive.specs.declared.halt.Halt.TheVariants.{Memory, Sink}

abbrev pub EndsEarly : (ProgramOutput → Type 0) → Type 0 → SinkSeen → SinkSeen → Halt → Type 0
EndsEarly may none_failed old new Memory = StopsShort may none_failed old new
EndsEarly may none_failed old new Sink = SinkStops may none_failed old new
