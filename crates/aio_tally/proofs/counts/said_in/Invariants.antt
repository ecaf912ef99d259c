use Rattle.std.proofs.Common.{◌≡◌, count_by, take}
use Rattle.model_commands.specs.Works.{counted, is_said}
use Rattle.aio_tally.proofs.counts.said_in.Given as goal

abbrev pub invariant-loop-event : goal.invariant-loop-event
invariant-loop-event l = l.count ≡ counted (count_by is_said (take l.event-index l.events))
