use Rattle.std.proofs.Common.{Some, sym, subst, ◌∙◌}
use Rattle.aio_future.specs.Awaited.{IsUnawaited}
use Rattle.aio_cancel.specs.Awaitables.{parts}
use Rattle.aio_task.proofs.NoWaiter.{no_cycle_through}
use Rattle.aio_task.proofs.awaits.find_cycle.Goals as goal

pub returns-then-not-awaited-clause-answer : goal.returns-then-not-awaited-clause-answer
returns-then-not-awaited-clause-answer c =
    let body = c.args.body.now in
    let free =
    subst (λ id. IsUnawaited id body.futures) c.future_of-own.ensures (c.may_be_awaited-awaited.ensures c.if-not-awaited.true) in
    sym (no_cycle_through (Some c.args.task) (parts body) c.args.task c.args.on c.requires.owns c.requires.one_way c.requires.lives free
    (λ same. c.if-on-own.false (same ∙ sym c.future_of-own.ensures)))
