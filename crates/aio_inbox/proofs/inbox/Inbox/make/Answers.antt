use Rattle.std.proofs.Common.{arith}
use Rattle.aio_inbox.specs.Views.{new_taker}
use Rattle.aio_inbox.proofs.Owed.{may_seat}
use Rattle.aio_inbox.proofs.inbox.Inbox.make.Goals as goal

pub another-own-requires-clause-rule : goal.another-own-requires-clause-rule
another-own-requires-clause-rule g c =
    let below = c.loop-seat-test.true in
    let few = c.requires.seats.1 in
    may_seat _ _ (new_taker c.loop-seat.seat) c.loop-seat.invariant.1 (omega (arith, below, few))
