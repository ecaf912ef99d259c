use Rattle.std.proofs.Common.{◌<◌, ◌≤◌, length, ap, ◌∙◌, arith}
use Rattle.std.proofs.lemmas.Result.{IfOk-weaker}
use Rattle.model_value.specs.Value.{Timeout}
use Rattle.model_says.specs.Operations.{out_of_range}
use Rattle.model_says.specs.Requests.{bad_argument}
use Rattle.model_loop.specs.Timeouts.{enter_timeout}
use Rattle.model_machine.specs.Replies.{most_ids}
use Rattle.model_machine.specs.State.{in_loop}
use Rattle.aio_body.specs.Delay.{number_of}
use Rattle.aio_body.specs.declared.reply.RequestReply.TheVariants.{Answers}
use Rattle.aio_body.proofs.May.{idle_of}
use Rattle.aio_body.proofs.TimeoutsOn.{enter_groups, goes_timed, leaves_enter, timeouts_of}
use Rattle.aio_serve.proofs.Saying.{answers_so, raises_so}
use Rattle.aio_serve.proofs.Timing.{count_is, delay_is, enter_full, enter_goes, enter_unfit, given_as, no_delay}
use Rattle.aio_serve.proofs.timeouts.enter_timeout.Goals as goal

pub returns-in_default : goal.returns-in_default
returns-in_default g c =
    let task = c.args.task in
    IfOk-weaker c.bad_argument.result _ _ (λ said e at s h.
    raises_so task at c.args.body.now s said _ bad_argument e
    (enter_unfit g.X.Extra.added.meaning task s c.args.delay.now
    (no_delay c.args.delay.now c.as_delay.result c.as_delay.ensures c.in_default.is)) h.going.in_step)
    c.bad_argument.ensures

pub returns-then-count-ge-MOST_IDS : goal.returns-then-count-ge-MOST_IDS
returns-then-count-ge-MOST_IDS g c =
    let task = c.args.task in
    let body = c.args.body.now in
    IfOk-weaker c.out_of_range.result _ _ (λ said e at s h.
    let count = count_is _ at body s h.going.in_step.stands in
    let many : most_ids ≤ length s.loop.timeouts = omega (arith, count, c.count.ensures, c.if-count-ge-MOST_IDS.true) in
    raises_so task at body s said _ out_of_range e
    (enter_full g.X.Extra.added.meaning task s c.args.delay.now (number_of c.in-Some.delay)
    (delay_is c.args.delay.now c.as_delay.result c.as_delay.ensures c.in-Some.delay c.in-Some.is) many) h.going.in_step)
    c.out_of_range.ensures

pub enter-requires : goal.enter-requires
enter-requires g c = record { idle = idle_of c.args.task c.args.body.now c.requires }

pub returns : goal.returns
returns g c at s h =
    let task = c.args.task in
    let body = c.args.body.now in
    let delay = c.number.result in
    let in_step = h.going.in_step in
    let count = count_is _ at body s in_step.stands in
    let few : length s.loop.timeouts < most_ids = omega (arith, count, c.count.ensures, c.if-count-ge-MOST_IDS.false) in
    answers_so task at (record body { parts = c.enter.new.parts; timeouts = c.enter.new.self }) (in_loop (enter_timeout task delay) s) _ _
    (Timeout (length s.loop.timeouts))
    (ap Answers (c.timeout.ensures ∙ ap Timeout (c.in_ok-id.ensures.number ∙ count)))
    (enter_goes g.X.Extra.added.meaning task s c.args.delay.now delay
    (given_as c.args.delay.now c.as_delay.result c.as_delay.ensures c.in-Some.delay delay c.in-Some.is c.number.ensures) few)
    (goes_timed task at body s c.enter.new.parts c.enter.new.self (enter_timeout task delay s.loop) in_step
    (c.in_ok-id.ensures.after in_step.stands.name_map s.loop (timeouts_of _ at body s in_step.stands))
    (leaves_enter task delay s.loop) (enter_groups task delay s.loop) c.in_ok-id.ensures.below c.in_ok-id.ensures.step)
