use Rattle.std.proofs.Common.{slice_get, ◌∙◌, sym, ap, arith}
use Rattle.model_loop.specs.Futures.{is_pending_at}
use Rattle.aio_core.proofs.Stopping.{some_lives}
use Rattle.aio_core.proofs.turns.lives_from.Goals as goal

pub tasks-task-end-requires : goal.tasks-task-end-requires
tasks-task-end-requires g c = c.requires

pub returns-then-is_pending : goal.returns-then-is_pending
returns-then-is_pending g c =
    let body = c.args.body.now in
    let within = c.loop-task-test.true in
    let all = c.tasks-task-end.ensures in
    λ lives. some_lives body c.loop-task.task (omega (arith, within, all))
    (ap (λ id. is_pending_at (slice_get body.parts.futures id)) (sym c.future_of.ensures) ∙ sym c.is_pending.ensures ∙ c.if-is_pending.true)
