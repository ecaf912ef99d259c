-- What is seen of the system's sockets: how often they failed, and nothing else.
use Rattle.std.specs.Prelude.{◌≡◌, ℕ, None}
use Rattle.model_hub.specs.Told.{PollerSeen}
use Rattle.aio_hub.specs.declared.poller.Polled.{Polled}
use Rattle.aio_hub.specs.declared.poller.Polled.TheVariants as polled

abbrev pub untold : ℕ → PollerSeen
untold faults = record { asked = None; answers = None; faults = faults }

-- the time of a poll, where it didn't fail
abbrev pub IsAt : ℕ → Polled → Type 0
IsAt now (polled.Ready at items) = at ≡ now
IsAt now polled.Failed = Unit {0}
