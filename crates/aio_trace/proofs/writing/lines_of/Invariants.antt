use Rattle.std.proofs.Common.{◌≡◌, take}
use Rattle.model_wire.specs.Trace.{lines_of_events}
use Rattle.aio_trace.proofs.writing.lines_of.Given as goal

abbrev pub invariant-loop-event : goal.invariant-loop-event
invariant-loop-event l = l.text.items ≡ lines_of_events l.trace (take l.event-index l.events)
