use Rattle.std.proofs.Common.{ap, ◌∙◌}
use Rattle.aio_task.specs.View.{View}
use Rattle.aio_body.proofs.May.{idle_of}
use Rattle.aio_serve.proofs.waiting.alarm.Goals as goal

pub new_plain-requires : goal.new_plain-requires
new_plain-requires g c = record { idle = idle_of c.args.task c.args.body.now c.requires }

pub at-requires-clause-idle : goal.at-requires-clause-idle
at-requires-clause-idle g c =
    ap (λ (x : View). x.called) (c.ticket.ensures ∙ c.in_ok-future.ensures.after) ∙ idle_of c.args.task c.args.body.now c.requires
