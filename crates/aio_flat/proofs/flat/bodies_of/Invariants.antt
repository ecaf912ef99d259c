use Rattle.std.proofs.Common.{take}
use Rattle.aio_flat.specs.Code.{AreBodiesOf}
use Rattle.aio_flat.proofs.flat.bodies_of.Given as goal

abbrev pub invariant-loop-coroutine : goal.invariant-loop-coroutine
invariant-loop-coroutine l = AreBodiesOf l.places (take l.coroutine-index l.coroutines) l.bodies.items
