use Rattle.std.proofs.Common.{◌≡◌}
use Rattle.aio_lane.proofs.tests.give_one.Given as goal

abbrev pub invariant-loop : goal.invariant-loop
invariant-loop g l = l.head.lane ≡ l.initial.head.lane
