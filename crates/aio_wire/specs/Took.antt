-- What a write may answer.
use Rattle.std.specs.Prelude.{◌≡◌, ℕ, ◌≤◌, ◌<◌, List, [], length, take}
use Rattle.model_wire.specs.Told.{SinkSeen, took, SinkFailed}
use Rattle.aio_wire.specs.declared.sink.SinkTook.{SinkTook}
use Rattle.aio_wire.specs.declared.sink.SinkTook.TheVariants.{Took, Failed}

-- at most the piece was taken, and something of one that is not empty
abbrev pub FitsWrite : List ℕ → SinkTook → Type 0
FitsWrite piece (Took count) = (count ≤ length piece) × (0 < length piece → 0 < count)
FitsWrite piece Failed = Unit {0}

-- what was taken came after what was there before; a sink that failed took nothing
abbrev pub WriteLeaves : List ℕ → SinkSeen → SinkSeen → SinkTook → Type 0
WriteLeaves piece old new (Took count) = new ≡ took old (take count piece)
WriteLeaves piece old new Failed = SinkFailed [] old new
