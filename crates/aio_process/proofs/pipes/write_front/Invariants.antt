use Rattle.std.specs.Io.KnownBytes.{Keeps}
use Rattle.aio_process.proofs.pipes.write_front.Given as goal

abbrev pub invariant-loop : goal.invariant-loop
invariant-loop g l = Keeps (g.P.Write.contents l.fn.pipe) (g.P.Write.contents l.pipe)
