use Rattle.std.proofs.Common.{◌≡◌, count_by, take}
use Rattle.model_commands.specs.Works.{counted, is_call}
use Rattle.aio_tally.proofs.counts.calls_in.Given as goal

abbrev pub invariant-loop-event : goal.invariant-loop-event
invariant-loop-event l = l.count ≡ counted (count_by is_call (take l.event-index l.events))
