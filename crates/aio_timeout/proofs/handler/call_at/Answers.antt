use Rattle.aio_timeout.proofs.Handlers.{later_made}
use Rattle.aio_timeout.proofs.handler.call_at.Goals as goal

pub returns-in-Ok-clause-after : goal.returns-in-Ok-clause-after
returns-in-Ok-clause-after c = λ t p keeps.
    rw (c.in-Ok.ensures.after, c.in-Ok.ensures.id) (later_made t c.args.parts.now p c.args.id c.args.when keeps)
