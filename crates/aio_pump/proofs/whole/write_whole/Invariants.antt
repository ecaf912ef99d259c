use Rattle.std.proofs.Common.{◌≡◌, ◌-◌, ◌≤◌, length, take}
use Rattle.model_wire.specs.Told.{took}
use Rattle.aio_pump.proofs.whole.write_whole.Given as goal

abbrev pub invariant-loop-at : goal.invariant-loop-at
invariant-loop-at g l =
    (l.at ≤ length l.bytes) × (g.K.Sink.seen l.sink ≡ took (g.K.Sink.seen l.initial.sink) (take l.at l.bytes))

abbrev pub decreases-loop-at : goal.decreases-loop-at
decreases-loop-at g l = length l.bytes - l.at
