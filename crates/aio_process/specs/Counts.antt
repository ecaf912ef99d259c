-- What is seen of the system's pipes and exits: how often they failed, and nothing else.
use Rattle.std.specs.Prelude.{ℕ, None}
use Rattle.model_wire.specs.Told.{SinkSeen, SourceSeen}
use Rattle.aio_pump.specs.Exits.{ExitSeen}

abbrev pub untold : ℕ → SourceSeen
untold faults = record { left = None; faults = faults }

abbrev pub untaken : ℕ → SinkSeen
untaken faults = record { taken = None; faults = faults }

abbrev pub unwaited : ℕ → ExitSeen
unwaited faults = record { code = None; faults = faults }
