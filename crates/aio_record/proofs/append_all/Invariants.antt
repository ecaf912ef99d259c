use Rattle.std.proofs.Common.{ℕ, List, length}
use Rattle.aio_record.proofs.Growing.{AppendedSoFar}
use Rattle.aio_record.proofs.append_all.Given as goal

abbrev pub invariant-loop-rest : goal.invariant-loop-rest
invariant-loop-rest g l =
    (done : List ℕ) × AppendedSoFar done l.rest l.text l.name (g.F.Shelf.seen l.fn.shelf) (g.F.Shelf.seen l.shelf)

abbrev pub decreases-loop-rest : goal.decreases-loop-rest
decreases-loop-rest g l = length l.rest
