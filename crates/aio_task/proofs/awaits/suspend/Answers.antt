use Rattle.std.proofs.Common.{[], ◌∷◌, ap, sym, subst, ◌∙◌}
use Rattle.model_value.specs.declared.action.Action.TheVariants.{StepInCycle}
use Rattle.model_loop.specs.Sound.{HasNoCycle}
use Rattle.model_loop.specs.Suspend.{cancel_wait, wait_on}
use Rattle.model_loop.specs.Tasks.{must_cancel_of}
use Rattle.law_cancel.proofs.SuspendCases.{suspend_unless}
use Rattle.law_cancel.proofs.Cycling.{allowed, wait_makes_none}
use Rattle.aio_cancel.specs.Awaitables.{Awaitables, parts}
use Rattle.aio_cancel.proofs.PartsLemmas.{appended_on}
use Rattle.aio_task.proofs.Sizes.{size_wait, wait-must_cancel, sized}
use Rattle.aio_task.proofs.awaits.suspend.Goals as goal

pub cancel_waiting-requires-clause-no_cycle : goal.cancel_waiting-requires-clause-no_cycle
cancel_waiting-requires-clause-no_cycle c =
    let p = parts c.args.body.now in
    subst HasNoCycle (sym c.wait.ensures.after)
    (wait_makes_none c.args.task c.args.on p c.requires.owns
    (allowed p c.args.task c.args.on (sym c.find_cycle.ensures.answer ∙ c.in-None.is)) c.requires.no_cycle)

pub cancel_waiting-requires-clause-room : goal.cancel_waiting-requires-clause-room
cancel_waiting-requires-clause-room c =
    let p = parts c.args.body.now in
    rw (c.find_cycle.ensures.stack, c.find_cycle.ensures.seen)
    (sized _ _ _ _ _ _ _ (size_wait c.args.task c.args.on p) c.wait.ensures.after c.find_cycle.ensures.unnoted c.requires.room)

pub returns-in-Some-clause-after : goal.returns-in-Some-clause-after
returns-in-Some-clause-after c =
    let p = parts c.args.body.now in
    c.call_soon.ensures.after
    ∙ ap (λ x. (suspend_unless x c.args.task c.args.on p).parts) (sym (sym c.find_cycle.ensures.answer ∙ c.in-Some.is))

pub returns-in-Some-clause-queue : goal.returns-in-Some-clause-queue
returns-in-Some-clause-queue c =
    (StepInCycle c.args.task c.in-Some.cycle ∷ [], ap (λ (b : Awaitables). b.queue) c.call_soon.ensures.whole)

pub returns-in-None-clause-after : goal.returns-in-None-clause-after
returns-in-None-clause-after c =
    let p = parts c.args.body.now in
    c.cancel_waiting.ensures.after
    ∙ ap (λ q. (cancel_wait (must_cancel_of q c.args.task) c.args.task c.args.on q).parts) c.wait.ensures.after
    ∙ ap (λ b. (cancel_wait b c.args.task c.args.on (wait_on c.args.task c.args.on p)).parts) (wait-must_cancel c.args.task c.args.on p c.args.task)
    ∙ ap (λ x. (suspend_unless x c.args.task c.args.on p).parts) (sym (sym c.find_cycle.ensures.answer ∙ c.in-None.is))

pub returns-in-None-clause-queue : goal.returns-in-None-clause-queue
returns-in-None-clause-queue c = appended_on _ _ _ c.wait.ensures.queue c.cancel_waiting.ensures.queue
