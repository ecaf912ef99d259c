use Rattle.aio_pump.specs.Moments.{moment}
use Rattle.aio_pump.proofs.Outs.{GoingOut}
use Rattle.aio_pump.proofs.reading.pump_out.Given as goal

abbrev pub invariant-loop : goal.invariant-loop
invariant-loop g l =
    GoingOut l.stream l.initial.own l.own
    (moment (g.S.Source.seen l.initial.source) l.initial.seat (g.B.Bell.rings l.initial.bell) 0)
    (moment (g.S.Source.seen l.source) l.seat (g.B.Bell.rings l.bell) l.moved)
