use Rattle.aio_body.proofs.May.{idle_of, running_of}
use Rattle.aio_body.proofs.Rooms.{pauses_so}
use Rattle.aio_serve.proofs.waiting.pause.Goals as goal

pub pause-requires-clause-idle : goal.pause-requires-clause-idle
pause-requires-clause-idle g c = idle_of c.args.task c.args.body.now c.requires

pub pause-requires-clause-running : goal.pause-requires-clause-running
pause-requires-clause-running g c = running_of c.args.task c.args.body.now c.requires

pub returns : goal.returns
returns g c = λ context s going.
    pauses_so c.args.task context c.args.body.now s c.pause.new.self going.in_step c.pause.ensures.after c.pause.ensures.frame
