-- A hub as a wire.
use Rattle.std.specs.Prelude.{true, None}
use Rattle.model_wire.specs.Told.{WireSeen, Going}
use Rattle.model_hub.specs.Hub.{Hub}
use Rattle.model_hub.specs.Told.{PollerSeen}
use Rattle.model_hub.specs.Asked.{faults_of}

-- It tells nothing of answers, calls and bytes, has no end, and each of its answers fits. Its count is the poller's with the
-- Fault posts that were taken.
abbrev pub wire_of : PollerSeen → Hub → WireSeen
wire_of poller hub =
    record { left = None; asked = None; handed = None; end = Going; fitting = true; faults = faults_of poller hub }
