use Rattle.std.proofs.Common.{◌≡◌, Some, sym, subst, ◌∙◌}
use Rattle.std.proofs.lemmas.Result.{IfOk-weaker}
use Rattle.model_value.specs.declared.request.Request.TheVariants as request
use Rattle.model_says.specs.Requests.{bad_argument}
use Rattle.model_loop.specs.Timeouts.{exit_timeout}
use Rattle.model_machine.specs.Arguments.{as_timeout}
use Rattle.model_machine.specs.Replies.{reply}
use Rattle.model_machine.specs.State.{with_loop}
use Rattle.aio_body.specs.declared.reply.RequestReply.{RequestReply}
use Rattle.aio_body.specs.Asked.{Says}
use Rattle.aio_body.proofs.May.{going_of, idle_of, some_of}
use Rattle.aio_body.proofs.TimeoutsOn.{exit_groups, goes_timed, leaves_exit, timeouts_of}
use Rattle.aio_serve.specs.Left.{left_as}
use Rattle.aio_serve.proofs.Saying.{raises_so}
use Rattle.aio_serve.proofs.Timing.{exit_goes, exit_there, exit_unfit, left_so, steps_none_some}
use Rattle.aio_serve.proofs.timeouts.exit_timeout.Goals as goal

pub returns-in_default : goal.returns-in_default
returns-in_default g c =
    let task = c.args.task in
    IfOk-weaker c.bad_argument.result _ _ (λ said e at s h.
    raises_so task at c.args.body.now s said _ bad_argument e
    (exit_unfit g.X.Extra.added.meaning task s c.args.timeout.now c.args.fault (sym c.as_timeout.ensures ∙ c.in_default.is)) h.going.in_step)
    c.bad_argument.ensures

pub exit-exit-requires-clause-idle : goal.exit-exit-requires-clause-idle
exit-exit-requires-clause-idle g c =
    idle_of c.args.task c.args.body.now
    (going_of c.args.task (request.TimeoutExit c.args.timeout.now c.args.fault) c.args.body.now c.requires)

pub exit-exit-requires-clause-live : goal.exit-exit-requires-clause-live
exit-exit-requires-clause-live g c =
    exit_there c.args.task c.args.timeout.now c.args.fault c.in-Some.id c.args.body.now (sym c.as_timeout.ensures ∙ c.in-Some.is) c.requires

pub exit-exit-requires-clause-steps_none : goal.exit-exit-requires-clause-steps_none
exit-exit-requires-clause-steps_none g c =
    steps_none_some c.args.body.now c.in-Some.id
    (some_of c.args.task c.args.body.now
    (going_of c.args.task (request.TimeoutExit c.args.timeout.now c.args.fault) c.args.body.now c.requires))

pub returns : goal.returns
returns g c at s h =
    let task = c.args.task in
    let body = c.args.body.now in
    let id = c.in-Some.id in
    let raised = c.args.fault in
    let in_step = h.going.in_step in
    let keeps = timeouts_of _ at body s in_step.stands in
    let named : as_timeout c.args.timeout.now ≡ Some id = sym c.as_timeout.ensures ∙ c.in-Some.is in
    let after = record body { parts = c.exit-exit.new.parts; timeouts = c.exit-exit.new.self } in
    let now = with_loop (exit_timeout raised id s.loop).loop s in
    let on = goes_timed task at body s c.exit-exit.new.parts c.exit-exit.new.self (exit_timeout raised id s.loop).loop in_step
    (c.exit-exit.ensures.after in_step.stands.name_map s.loop keeps in_step.stands.profile.rules)
    (leaves_exit raised id s.loop) (exit_groups raised id s.loop) c.exit-exit.ensures.below c.exit-exit.ensures.step in
    let machine = reply g.X.Extra.added.meaning task (request.TimeoutExit c.args.timeout.now raised) s in
    subst (λ (said : RequestReply). Says task at after said machine) (sym c.left.ensures)
    (subst (Says task at after (left_as c.exit-exit.result)) (sym (exit_goes g.X.Extra.added.meaning task s c.args.timeout.now raised id named))
    (left_so task at after now on c.exit-exit.result (exit_timeout raised id s.loop).timed_out
    (c.exit-exit.ensures.answer in_step.stands.name_map s.loop keeps in_step.stands.profile.rules)))
