-- What was appended and what is left are what waited.
use Rattle.std.proofs.Common.{◌≡◌, length}
use Rattle.aio_ready.specs.Queue.{soon_all}
use Rattle.aio_ready.proofs.ready.Ready.soon_all.Given as goal

abbrev pub invariant-loop-action : goal.invariant-loop-action
invariant-loop-action l = soon_all l.waiting l.self ≡ soon_all l.initial.waiting l.initial.self

abbrev pub decreases-loop-action : goal.decreases-loop-action
decreases-loop-action l = length l.waiting
