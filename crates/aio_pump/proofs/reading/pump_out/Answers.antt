use Rattle.std.proofs.Common.{refl}
use Rattle.aio_pump.proofs.Outs.{starts, turns_at, ended_at}
use Rattle.aio_pump.proofs.reading.pump_out.Goals as goal

pub loop-init : goal.loop-init
loop-init g c = starts _ _ _ refl

pub returns-in-Some-end : goal.returns-in-Some-end
returns-in-Some-end g c =
    rw c.next-command.ensures
    (ended_at _ _ _ _ _ _ c.loop.invariant c.next-command.result c.in-Some-end.ending c.obey-now.result.1 c.in-Some-end.is c.obey-now.ensures)

pub loop-preserved : goal.loop-preserved
loop-preserved g c =
    rw c.next-command.ensures
    (turns_at _ _ _ _ _ _ c.loop.invariant c.next-command.result c.obey-now.result.1 c.in_default.is c.obey-now.ensures)
