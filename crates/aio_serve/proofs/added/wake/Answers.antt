use Rattle.std.proofs.Common.{ap}
use Rattle.std.specs.Prelude.{is_some}
use Rattle.aio_serve.proofs.Adding.{decides_run, decides_served, wakes_answer, wakes_go, wakes_without}
use Rattle.aio_serve.proofs.added.wake.Goals as goal

pub wake-requires-clause-runs : goal.wake-requires-clause-runs
wake-requires-clause-runs g c = ap is_some (decides_run c.args.task c.args.key c.args.body.now c.requires.deciding)

pub wake-requires-clause-serves : goal.wake-requires-clause-serves
wake-requires-clause-serves g c = decides_served c.args.task c.args.key c.args.body.now c.requires.deciding

pub answer-requires : goal.answer-requires
answer-requires g c =
    wakes_answer c.args.task c.args.key c.args.body.now c.args.input c.wake.new.parts c.wake.new.self c.in-Ok.asked c.requires.made c.in-Ok.ensures c.requires.deciding

pub returns-in-Ok : goal.returns-in-Ok
returns-in-Ok g c =
    wakes_go c.args.task c.args.key c.args.body.now c.args.input c.wake.new.parts c.wake.new.self c.in-Ok.asked c.requires.made c.in-Ok.ensures
    g.W.Wire.outside c.answer.new.body c.args.wire.now c.answer.new.wire c.answer.result c.answer.ensures

pub returns-in-Err : goal.returns-in-Err
returns-in-Err g c =
    wakes_without g.X.Extra.added g.W.Wire.outside c.args.task c.args.key c.args.input c.args.body.now c.args.wire.now _
