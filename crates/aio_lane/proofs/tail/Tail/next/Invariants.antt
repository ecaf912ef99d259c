use Rattle.std.proofs.Common.{◌≡◌}
use Rattle.crossbeam_queue.specs.Passes.{view, IsSamePass}
use Rattle.aio_lane.proofs.tail.Tail.next.Given as goal

abbrev pub invariant-loop : goal.invariant-loop
invariant-loop g l =
    let tail = l.self-inside in
    let first = l.initial.self-inside in
    (tail.between ≡ first.between) × IsSamePass first.pass tail.pass × (view tail.pass ≡ view first.pass)
