use Rattle.std.proofs.Common.{Some, None, sym, ap, ◌∙◌}
use Rattle.std.proofs.lemmas.Result.{IfOk-weaker}
use Rattle.model_value.specs.Value.{Nothing}
use Rattle.model_says.specs.Requests.{bad_argument}
use Rattle.model_loop.specs.Futures.{settle}
use Rattle.model_machine.specs.Replies.{invalid_state}
use Rattle.model_machine.specs.State.{unbooked_in}
use Rattle.aio_body.proofs.Making.{settles_so}
use Rattle.aio_body.proofs.May.{idle_some}
use Rattle.aio_body.specs.declared.reply.RequestReply.TheVariants.{Answers}
use Rattle.aio_serve.proofs.Meaning.{none_settled, settled_with_none, settled_twice, settled_once}
use Rattle.aio_serve.proofs.Reading.{future_as, future_done, unowned, unowned_kept}
use Rattle.aio_serve.proofs.Saying.{answers_so, raises_so}
use Rattle.aio_serve.proofs.futures.settle.Goals as goal

pub returns-in_default : goal.returns-in_default
returns-in_default g c task =
    let body = c.args.body.now in
    let x = c.args.future.now in
    IfOk-weaker c.bad_argument.result _ _ (λ said e at s h.
    raises_so task at body s said _ bad_argument e
    (none_settled s x c.args.outcome (future_as task at body s h x None (sym c.as_future.ensures ∙ c.in_default.is))) h.in_step)
    c.bad_argument.ensures

pub returns-in_default-outcome : goal.returns-in_default-outcome
returns-in_default-outcome g c task =
    let body = c.args.body.now in
    let x = c.args.future.now in
    let on = c.in-Some.on in
    IfOk-weaker c.bad_argument-in_default-outcome.result _ _ (λ said e at s h.
    raises_so task at body s said _ bad_argument e
    (rw c.in_default-outcome.is (settled_with_none s x on (future_as task at body s h x (Some on) (sym c.as_future.ensures ∙ c.in-Some.is))))
    h.in_step)
    c.bad_argument-in_default-outcome.ensures

pub returns-then-is_some : goal.returns-then-is_some
returns-then-is_some g c task =
    let body = c.args.body.now in
    let x = c.args.future.now in
    let on = c.in-Some.on in
    let named = sym c.as_future.ensures ∙ c.in-Some.is in
    IfOk-weaker c.raises.result _ _ (λ said e at s h.
    let done = sym (future_done task at body s h x on named c.outcome-2.result c.outcome-2.ensures) ∙ sym c.is_some.ensures ∙ c.if-is_some.true in
    raises_so task at body s said _ invalid_state e
    (rw c.in-Some-outcome.is (settled_twice s x on c.in-Some-outcome.outcome (future_as task at body s h x (Some on) named) done)) h.in_step)
    c.raises.ensures

pub resolve-was_pending-requires-clause-idle : goal.resolve-was_pending-requires-clause-idle
resolve-was_pending-requires-clause-idle g c = idle_some c.args.body.now c.requires

pub resolve-was_pending-requires-clause-no_task : goal.resolve-was_pending-requires-clause-no_task
resolve-was_pending-requires-clause-no_task g c =
    unowned_kept c.args.body.now c.requires c.args.future.now c.in-Some.on (sym c.as_future.ensures ∙ c.in-Some.is)

pub returns : goal.returns
returns g c task at s h =
    let body = c.args.body.now in
    let x = c.args.future.now in
    let on = c.in-Some.on in
    let outcome = c.in-Some-outcome.outcome in
    let named = sym c.as_future.ensures ∙ c.in-Some.is in
    let pending = sym (future_done task at body s h x on named c.outcome-2.result c.outcome-2.ensures) ∙ sym c.is_some.ensures ∙ c.if-is_some.false in
    answers_so task at (record body { parts = c.resolve-was_pending.new.self }) (unbooked_in (settle on outcome) s) _ _ Nothing (ap Answers c.nothing.ensures)
    (rw c.in-Some-outcome.is (settled_once s x on outcome (future_as task at body s h x (Some on) named) pending))
    (settles_so task on outcome at body s c.resolve-was_pending.new.self h.in_step (unowned task at body s h x on named) c.resolve-was_pending.ensures.after)
