use Rattle.std.proofs.Common.{rules, ap, ◌∙◌}
use Rattle.model_value.specs.declared.action.Action.TheVariants.{Step}
use Rattle.aio_ready.specs.Queue.{soon}
use Rattle.aio_task.proofs.PartsLemmas.{task_made}
use Rattle.aio_task.proofs.tasks.add.Goals as goal

pub returns-clause-after : goal.returns-clause-after
returns-clause-after c =
    rw (← c.body.view_is)
    (task_made (record { queue = c.body.inside.ready; futures = c.body.inside.futures; tasks = c.body.inside.tasks.items })
    (record { queue = c.soon-id.new.self; futures = c.make.new.self; tasks = c.push-pushed.new.self.items })
    c.in-Ok.task c.in_ok-future.future (search rules) c.in_ok-future.ensures.number
    (c.soon-id.ensures.after ∙ ap (soon (Step c.in-Ok.task)) c.in_ok-ticket.ensures)
    c.in_ok-future.ensures.after (search rules))
