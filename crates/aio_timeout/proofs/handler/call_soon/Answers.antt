use Rattle.std.proofs.Common.{◌<◌, ◌^◌, arith}
use Rattle.aio_timeout.proofs.Handlers.{soon_made}
use Rattle.aio_timeout.proofs.handler.call_soon.Goals as goal

pub returns-clause-after : goal.returns-clause-after
returns-clause-after c = λ t p keeps.
    let room : c.args.parts.now.queue.given < 2 ^ 62 = omega arith in
    rw c.soon-handle.ensures.after
    (soon_made t c.args.parts.now p c.args.id c.soon-handle.result keeps room c.soon-handle.ensures.name)
