-- Only marks of tasks that are still to be cleared are set.
use Rattle.std.proofs.Common.{length}
use Rattle.std.specs.Vec.{vec_len, vec_capacity}
use Rattle.aio_cancel.specs.Seen.{Clears}
use Rattle.aio_cancel.proofs.marks.Marks.clear.Given as goal

abbrev pub invariant-loop-task : goal.invariant-loop-task
invariant-loop-task l =
    Clears l.self-inside.marks.items l.self-inside.visited.items (vec_capacity l.self-inside.visited)
    (length l.initial.self-inside.marks.items) (vec_capacity l.initial.self-inside.visited)

abbrev pub decreases-loop-task : goal.decreases-loop-task
decreases-loop-task l = vec_len l.self-inside.visited
