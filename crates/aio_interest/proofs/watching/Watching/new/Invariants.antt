use Rattle.std.proofs.Common.{take}
use Rattle.aio_interest.specs.Keys.{Awaits}
use Rattle.aio_interest.proofs.watching.Watching.new.Given as goal

abbrev pub invariant-loop-entry : goal.invariant-loop-entry
invariant-loop-entry l = Awaits l.awaited (take l.entry-index l.watch)
