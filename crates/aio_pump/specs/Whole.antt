-- The writing of bytes whole.
use Rattle.std.specs.Prelude.{◌≡◌, ℕ, ◌<◌, List, [], length, take}
use Rattle.model_wire.specs.Told.{SinkSeen, took, SinkFailed}
use Rattle.aio_pump.specs.declared.whole.Wrote.{Wrote}
use Rattle.aio_pump.specs.declared.whole.Wrote.TheVariants.{Whole, Broken, Starved}

-- how many of these bytes were taken, and what the sink then has
abbrev pub WritesWhole : List ℕ → SinkSeen → SinkSeen → ℕ → Wrote → Type 0
WritesWhole bytes old new count Whole = (count ≡ length bytes) × (new ≡ took old bytes)
WritesWhole bytes old new count Broken = (count < length bytes) × SinkFailed (take count bytes) old new
WritesWhole bytes old new count Starved = (count < length bytes) × (new ≡ took old (take count bytes))

-- what a look at a sink found, by a piece of no bytes: it takes bytes, it failed, or memory was refused
abbrev pub LooksAt : SinkSeen → SinkSeen → Wrote → Type 0
LooksAt old new Whole = new ≡ took old []
LooksAt old new Broken = SinkFailed [] old new
LooksAt old new Starved = new ≡ old
