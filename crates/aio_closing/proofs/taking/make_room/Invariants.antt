use Rattle.std.proofs.Common.{◌≡◌}
use Rattle.aio_closing.proofs.taking.make_room.Given as goal

abbrev pub invariant-loop : goal.invariant-loop
invariant-loop g l = l.postbox.settled ≡ l.initial.postbox.settled
