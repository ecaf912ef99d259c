use Rattle.std.proofs.Common.{◌≤◌, length, sym, ap, ◌∙◌, arith}
use Rattle.std.proofs.lemmas.Result.{IfOk-weaker}
use Rattle.model_says.specs.Requests.{bad_argument}
use Rattle.model_loop.specs.Timeouts.{reschedule}
use Rattle.aio_timeout.specs.States.{refused, state_of}
use Rattle.aio_body.specs.Delay.{number_of}
use Rattle.aio_body.specs.declared.reply.RequestReply.TheVariants.{Answers}
use Rattle.aio_body.proofs.May.{idle_some}
use Rattle.aio_body.proofs.TimeoutsOn.{goes_timed, leaves_reschedule, reschedule_groups, timeouts_of}
use Rattle.aio_serve.proofs.Saying.{raises_so}
use Rattle.aio_serve.proofs.Timing.{deadline_unfit, delay_is, finished_so, given_as, no_delay, refused_so, reschedule_unfit, rescheduled_so, steps_none_some}
use Rattle.aio_serve.proofs.timeouts.reschedule.Goals as goal

pub returns-in_default : goal.returns-in_default
returns-in_default g c task =
    IfOk-weaker c.bad_argument.result _ _ (λ said e at s h.
    raises_so task at c.args.body.now s said _ bad_argument e
    (reschedule_unfit g.X.Extra.added.meaning task s c.args.timeout.now c.args.when.now (sym c.as_timeout.ensures ∙ c.in_default.is)) h.going.in_step)
    c.bad_argument.ensures

pub returns-in_default-as_delay : goal.returns-in_default-as_delay
returns-in_default-as_delay g c task =
    IfOk-weaker c.bad_argument-in_default-as_delay.result _ _ (λ said e at s h.
    raises_so task at c.args.body.now s said _ bad_argument e
    (deadline_unfit g.X.Extra.added.meaning task s c.args.timeout.now c.args.when.now c.in-Some.id (sym c.as_timeout.ensures ∙ c.in-Some.is)
    (no_delay c.args.when.now c.as_delay.result c.as_delay.ensures c.in_default-as_delay.is)) h.going.in_step)
    c.bad_argument-in_default-as_delay.ensures

pub returns-then-id-count : goal.returns-then-id-count
returns-then-id-count g c task =
    let body = c.args.body.now in
    let past : length body.timeouts ≤ c.in-Some.id = omega (arith, c.count.ensures, c.if-id-count.true) in
    IfOk-weaker c.refused.result _ _ (λ said e at s h.
    finished_so task at body s c.args.timeout.now c.args.when.now c.in-Some.id (number_of c.in-Some-as_delay.when)
    (sym c.as_timeout.ensures ∙ c.in-Some.is)
    (delay_is c.args.when.now c.as_delay.result c.as_delay.ensures c.in-Some-as_delay.when c.in-Some-as_delay.is) past h.going.in_step said e)
    c.refused.ensures

pub reschedule-requires-clause-idle : goal.reschedule-requires-clause-idle
reschedule-requires-clause-idle g c = idle_some c.args.body.now c.requires

pub reschedule-requires-clause-live : goal.reschedule-requires-clause-live
reschedule-requires-clause-live g c = omega (arith, c.count.ensures, c.if-id-count.false)

pub reschedule-requires-clause-steps_none : goal.reschedule-requires-clause-steps_none
reschedule-requires-clause-steps_none g c = steps_none_some c.args.body.now c.in-Some.id c.requires

pub returns-in-Set : goal.returns-in-Set
returns-in-Set g c task at s h =
    let body = c.args.body.now in
    let id = c.in-Some.id in
    let when = c.number.result in
    let in_step = h.going.in_step in
    let keeps = timeouts_of _ at body s in_step.stands in
    rescheduled_so task at (record body { parts = c.reschedule.new.parts; timeouts = c.reschedule.new.self }) s
    c.args.timeout.now c.args.when.now id when
    (sym c.as_timeout.ensures ∙ c.in-Some.is)
    (given_as c.args.when.now c.as_delay.result c.as_delay.ensures c.in-Some-as_delay.when when c.in-Some-as_delay.is c.number.ensures)
    (sym (ap refused c.in-Set.is) ∙ c.in_ok-reschedule.ensures.answer in_step.stands.name_map s.loop keeps.timeouts)
    (goes_timed task at body s c.reschedule.new.parts c.reschedule.new.self (reschedule id when s.loop) in_step
    (c.in_ok-reschedule.ensures.after in_step.stands.name_map s.loop keeps)
    (leaves_reschedule id when s.loop) (reschedule_groups id when s.loop) c.in_ok-reschedule.ensures.below c.in_ok-reschedule.ensures.step)
    _ (ap Answers c.nothing.ensures)

pub returns-in-BadState : goal.returns-in-BadState
returns-in-BadState g c task =
    let body = c.args.body.now in
    let id = c.in-Some.id in
    let when = c.number.result in
    IfOk-weaker c.refused-in-BadState.result _ _ (λ said e at s h.
    let in_step = h.going.in_step in
    let keeps = timeouts_of _ at body s in_step.stands in
    refused_so task at (record body { parts = c.reschedule.new.parts; timeouts = c.reschedule.new.self }) s
    c.args.timeout.now c.args.when.now id when (state_of c.in-BadState.state)
    (sym c.as_timeout.ensures ∙ c.in-Some.is)
    (given_as c.args.when.now c.as_delay.result c.as_delay.ensures c.in-Some-as_delay.when when c.in-Some-as_delay.is c.number.ensures)
    (sym (ap refused c.in-BadState.is) ∙ c.in_ok-reschedule.ensures.answer in_step.stands.name_map s.loop keeps.timeouts)
    (goes_timed task at body s c.reschedule.new.parts c.reschedule.new.self (reschedule id when s.loop) in_step
    (c.in_ok-reschedule.ensures.after in_step.stands.name_map s.loop keeps)
    (leaves_reschedule id when s.loop) (reschedule_groups id when s.loop) c.in_ok-reschedule.ensures.below c.in_ok-reschedule.ensures.step)
    said e) c.refused-in-BadState.ensures
