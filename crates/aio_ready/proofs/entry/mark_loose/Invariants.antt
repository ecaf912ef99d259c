-- Those that were marked and those that are left are what was there.
use Rattle.std.proofs.Common.{◌≡◌, ◌++◌, map, length}
use Rattle.aio_ready.specs.Entries.{loosely_marked}
use Rattle.aio_ready.proofs.entry.mark_loose.Given as goal

abbrev pub invariant-loop-entry : goal.invariant-loop-entry
invariant-loop-entry l = l.marked ++ map (loosely_marked l.name) l.handles ≡ map (loosely_marked l.name) l.initial.handles

abbrev pub decreases-loop-entry : goal.decreases-loop-entry
decreases-loop-entry l = length l.handles
