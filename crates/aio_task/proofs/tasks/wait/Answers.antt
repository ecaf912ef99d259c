use Rattle.std.proofs.Common.{Some, sym, ap, ◌∙◌}
use Rattle.model_value.specs.declared.action.Action.TheVariants.{Wakeup}
use Rattle.model_loop.specs.Futures.{register}
use Rattle.model_loop.specs.Tasks.{set_waiter}
use Rattle.aio_cancel.specs.Awaitables.{Awaitables, parts}
use Rattle.aio_task.proofs.PartsLemmas.{register-parts, callback_appends}
use Rattle.aio_task.proofs.tasks.wait.Goals as goal

pub returns-clause-after : goal.returns-clause-after
returns-clause-after c =
    rw (c.set_waiter.ensures.after, c.on_done.ensures.after, c.on_done.ensures.called)
    (ap (set_waiter c.args.task (Some c.args.on))
    (sym (register-parts c.args.on (Wakeup c.args.task)
    (record { queue = c.body.inside.ready; futures = c.body.inside.futures; tasks = c.body.inside.tasks.items }))
    ∙ ap (λ (v : Awaitables). register c.args.on (Wakeup c.args.task) (parts v)) c.body.view_is))

pub returns-clause-queue : goal.returns-clause-queue
returns-clause-queue c =
    rw (c.set_waiter.ensures.queue, c.on_done.ensures.called, ← c.body.view_is)
    (callback_appends c.args.on (Wakeup c.args.task) c.body.inside.futures c.body.inside.ready)
