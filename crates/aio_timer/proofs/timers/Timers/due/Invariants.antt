-- The handles that were appended and those that are still to be are those that were due.
use Rattle.std.proofs.Common.{◌≡◌, length}
use Rattle.aio_timer.specs.Kept.{IsKept, timers_of}
use Rattle.aio_timer.specs.Schedule.{due_at, later_than, fallen}
use Rattle.aio_timer.proofs.timers.Timers.due.Given as goal

abbrev pub invariant-loop-id : goal.invariant-loop-id
invariant-loop-id l =
    (fallen (due_at l.now (timers_of l.self-inside.live)) l.ready
    ≡ fallen (due_at l.now (timers_of l.initial.self-inside.live)) l.initial.ready)
    × (later_than l.now (timers_of l.self-inside.live) ≡ later_than l.now (timers_of l.initial.self-inside.live))
    × IsKept l.self-inside.live
    × (l.self-inside.live.next ≡ l.initial.self-inside.live.next)

abbrev pub decreases-loop-id : goal.decreases-loop-id
decreases-loop-id l = length (timers_of l.self-inside.live)
