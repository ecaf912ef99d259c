use Rattle.std.proofs.Common.{refl}
use Rattle.aio_pump.proofs.Ins.{starts, turns_at, ended_at}
use Rattle.aio_pump.proofs.writing.pump_in.Goals as goal

pub loop-init : goal.loop-init
loop-init g c = starts _ _ refl

pub returns-in-Some-end : goal.returns-in-Some-end
returns-in-Some-end g c =
    ended_at _ _ _ _ _ c.loop.invariant _ _ c.next_within-came.ensures c.in-Some-end.ending c.act-now.result.1 c.in-Some-end.is
    c.act-now.ensures

pub loop-preserved : goal.loop-preserved
loop-preserved g c =
    turns_at _ _ _ _ _ c.loop.invariant _ _ c.next_within-came.ensures c.act-now.result.1 c.in_default.is c.act-now.ensures
