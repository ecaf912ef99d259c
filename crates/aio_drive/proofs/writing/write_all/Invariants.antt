use Rattle.std.proofs.Common.{ℕ, List, length}
use Rattle.aio_drive.proofs.Fronts.{WroteSoFar}
use Rattle.aio_drive.proofs.writing.write_all.Given as goal

abbrev pub invariant-loop-rest : goal.invariant-loop-rest
invariant-loop-rest g l = (done : List ℕ) × WroteSoFar done l.rest l.text (g.K.Sink.seen l.fn.out) (g.K.Sink.seen l.out)

abbrev pub decreases-loop-rest : goal.decreases-loop-rest
decreases-loop-rest g l = length l.rest
