use Rattle.std.proofs.Common.{ap, sym, ◌∙◌, inl, inr}
use Rattle.model_value.specs.declared.outcome.Outcome.TheVariants.{Value as Returned}
use Rattle.aio_ready.specs.Queue.{soon_all}
use Rattle.aio_future.specs.Settled.{settled, called}
use Rattle.aio_group.proofs.Spawning.{resolve_moves}
use Rattle.aio_group.proofs.Stepping.{wake_stays, wake_steps}
use Rattle.aio_group.proofs.children.wake_exit.Goals as goal

pub returns-then-not-is_empty-clause-steps : goal.returns-then-not-is_empty-clause-steps
returns-then-not-is_empty-clause-steps c =
    wake_stays c.args.group.now c.args.parts.now (inl (sym c.if-not-is_empty.ensures))

pub returns-in-Some-clause-moves : goal.returns-in-Some-clause-moves
returns-in-Some-clause-moves c =
    resolve_moves c.args.parts.now c.resolve-was_pending.new.self c.in-Some.future (Returned c.nothing.result)
    c.resolve-was_pending.ensures.after

pub returns-in-Some-clause-steps : goal.returns-in-Some-clause-steps
returns-in-Some-clause-steps c =
    let v = c.args.parts.now in
    wake_steps c.args.group.now v c.resolve-was_pending.new.self c.in-Some.future (sym c.if-not-is_empty.ensures) (sym c.in-Some.ensures)
    (c.resolve-was_pending.ensures.after ∙ ap (λ n. record v {
      futures = settled c.in-Some.future (Returned n) v.futures;
      queue = soon_all (called c.in-Some.future v.futures) v.queue;
    }) c.nothing.ensures)

pub returns-in-None-clause-steps : goal.returns-in-None-clause-steps
returns-in-None-clause-steps c = wake_stays c.args.group.now c.args.parts.now (inr (sym c.in-None.ensures))
