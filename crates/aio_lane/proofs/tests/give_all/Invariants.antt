use Rattle.std.proofs.Common.{◌≡◌}
use Rattle.aio_lane.proofs.tests.give_all.Given as goal

abbrev pub invariant-loop : goal.invariant-loop
invariant-loop g l = l.own.lane ≡ l.initial.own.lane
