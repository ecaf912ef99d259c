use Rattle.std.proofs.Common.{◌≡◌, take}
use Rattle.model_commands.specs.Recorded.{recorded}
use Rattle.aio_record.proofs.entries_of.Given as goal

abbrev pub invariant-loop-event : goal.invariant-loop-event
invariant-loop-event l = l.text.items ≡ recorded (take l.event-index l.events)
