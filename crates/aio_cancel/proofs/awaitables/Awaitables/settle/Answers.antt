use Rattle.std.proofs.Common.{ap, sym, ◌∙◌}
use Rattle.model_loop.specs.Futures.{settle}
use Rattle.aio_future.specs.Settled.{called}
use Rattle.aio_cancel.specs.Awaitables.{Awaitables, parts}
use Rattle.aio_cancel.proofs.PartsLemmas.{settle-parts}
use Rattle.aio_cancel.proofs.awaitables.Awaitables.settle.Goals as goal

pub returns-clause-after : goal.returns-clause-after
returns-clause-after c =
    rw (c.resolve-was_pending.ensures.after, c.resolve-was_pending.ensures.called)
    (sym (settle-parts c.args.id c.args.outcome
    (record { queue = c.self.inside.ready; futures = c.self.inside.futures; tasks = c.self.inside.tasks.items }))
    ∙ ap (λ (v : Awaitables). settle c.args.id c.args.outcome (parts v)) c.self.view_is)

pub returns-clause-queue : goal.returns-clause-queue
returns-clause-queue c =
    (called c.args.id c.self.inside.futures, rw (← c.self.view_is) c.resolve-was_pending.ensures.called)
