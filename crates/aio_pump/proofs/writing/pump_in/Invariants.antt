use Rattle.aio_pump.specs.Moments.{moment}
use Rattle.aio_pump.proofs.Ins.{GoingIn}
use Rattle.aio_pump.proofs.writing.pump_in.Given as goal

abbrev pub invariant-loop : goal.invariant-loop
invariant-loop g l =
    GoingIn l.initial.own l.own
    (moment (g.K.Sink.seen l.initial.sink) l.initial.seat (g.B.Bell.rings l.initial.bell) 0)
    (moment (g.K.Sink.seen l.sink) l.seat (g.B.Bell.rings l.bell) l.moved)
