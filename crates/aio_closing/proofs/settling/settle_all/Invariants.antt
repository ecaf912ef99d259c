use Rattle.std.proofs.Common.{◌≡◌, ◌+◌, ◌*◌, length}
use Rattle.std.specs.VecDeque.{deque_len}
use Rattle.aio_closing.proofs.settling.settle_all.Given as goal

abbrev pub invariant-loop-four : goal.invariant-loop-four
invariant-loop-four g l =
    length l.postbox.settled + 4 * length l.left.items ≡ length l.initial.postbox.settled + 4 * length l.initial.left.items

abbrev pub decreases-loop-four : goal.decreases-loop-four
decreases-loop-four g l = deque_len l.left
