use Rattle.std.specs.Io.KnownBytes.{Keeps}
use Rattle.aio_process.proofs.pipes.read_some.Given as goal

abbrev pub invariant-loop : goal.invariant-loop
invariant-loop g l = Keeps (g.P.Read.remaining l.fn.pipe) (g.P.Read.remaining l.pipe)
