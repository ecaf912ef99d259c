use Rattle.std.proofs.Common.{sym}
use Rattle.aio_cancel.proofs.PartsLemmas.{soon-parts}
use Rattle.aio_task.proofs.tasks.call_soon.Goals as goal

pub returns-clause-after : goal.returns-clause-after
returns-clause-after c =
    rw (c.soon-id.ensures.after, ← c.body.view_is)
    (sym (soon-parts c.args.action (record { queue = c.body.inside.ready; futures = c.body.inside.futures; tasks = c.body.inside.tasks.items })))
