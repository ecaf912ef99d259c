use Rattle.std.proofs.Common.{◌≡◌, Some, None, inl, sym, ap, subst, ◌∙◌}
use Rattle.std.proofs.lemmas.Result.{IfOk-weaker}
use Rattle.std.specs.Option.{option_copied}
use Rattle.model_value.specs.declared.request.Request.TheVariants as request
use Rattle.model_says.specs.Requests.{bad_argument}
use Rattle.model_loop.specs.Futures.{future_outcome}
use Rattle.model_machine.specs.Replies.{awaits_as}
use Rattle.aio_body.specs.declared.reply.RequestReply.TheVariants.{Suspends}
use Rattle.aio_body.specs.Asked.{Says}
use Rattle.aio_extra.specs.Added.{named_in}
use Rattle.aio_body.proofs.May.{going_of, idle_of, running_of}
use Rattle.aio_body.proofs.Rooms.{waits_so}
use Rattle.aio_serve.proofs.Reading.{awaited_as, outcome_read}
use Rattle.aio_serve.proofs.Suspending.{await_means, await_refused, awaited_spares, awaited_waits}
use Rattle.aio_serve.proofs.Saying.{raises_so, replied_so}
use Rattle.aio_serve.proofs.waiting.await_value.Goals as goal

pub returns-in_default : goal.returns-in_default
returns-in_default g c =
    let body = c.args.body.now in
    let task = c.args.task in
    IfOk-weaker c.bad_argument.result _ _ (λ said e at s h.
    raises_so task at body s said _ bad_argument e
    (await_refused g.X.Extra.added.meaning task s c.args.x.now
    (awaited_as task at body s h.going c.args.x.now None (sym c.as_awaited.ensures ∙ c.in_default.is))) h.going.in_step)
    c.bad_argument.ensures

pub returns-in-Some-outcome : goal.returns-in-Some-outcome
returns-in-Some-outcome g c =
    let body = c.args.body.now in
    let task = c.args.task in
    let x = c.args.x.now in
    let on = c.in-Some.on in
    let named = sym c.as_awaited.ensures ∙ c.in-Some.is in
    IfOk-weaker c.replied.result _ _ (λ said e at s h.
    replied_so task at body s said _ c.in-Some-outcome.outcome.now e
    (await_means g.X.Extra.added.meaning task s x on (awaited_as task at body s h.going x (Some on) named)
    ∙ ap (λ o. awaits_as o task on s)
    (sym (outcome_read task at body s h.going x on named) ∙ sym c.outcome.ensures ∙ ap option_copied c.in-Some-outcome.is))
    h.going.in_step)
    c.replied.ensures

pub suspend-suspension-requires-clause-idle : goal.suspend-suspension-requires-clause-idle
suspend-suspension-requires-clause-idle g c =
    let task = c.args.task in
    idle_of task c.args.body.now (going_of task (request.Await c.args.x.now) c.args.body.now c.requires)

pub suspend-suspension-requires-clause-running : goal.suspend-suspension-requires-clause-running
suspend-suspension-requires-clause-running g c =
    let task = c.args.task in
    running_of task c.args.body.now (going_of task (request.Await c.args.x.now) c.args.body.now c.requires)

pub suspend-suspension-requires-clause-pending : goal.suspend-suspension-requires-clause-pending
suspend-suspension-requires-clause-pending g c =
    awaited_waits c.args.task c.args.x.now c.in-Some.on c.args.body.now c.requires (sym c.as_awaited.ensures ∙ c.in-Some.is)
    (sym c.outcome.ensures ∙ ap option_copied c.in_default-outcome.is)

pub returns : goal.returns
returns g c at s h =
    let body = c.args.body.now in
    let task = c.args.task in
    let x = c.args.x.now in
    let on = c.in-Some.on in
    let v = c.suspend-suspension.new.self in
    let named = sym c.as_awaited.ensures ∙ c.in-Some.is in
    let is = awaited_as task at body s h.going x (Some on) named in
    let none : future_outcome s.loop.parts on ≡ None =
    sym (outcome_read task at body s h.going x on named) ∙ sym c.outcome.ensures ∙ ap option_copied c.in_default-outcome.is in
    subst (Says task at (record body { parts = v }) Suspends) (sym (await_means g.X.Extra.added.meaning task s x on is ∙ ap (λ o. awaits_as o task on s) none))
    (waits_so task on at body s v h.going.in_step
    (awaited_spares s (named_in g.X.Extra.added s) (λ place id e. inl (place, e)) task h.going.sound.others.loop.parts.owns x on is)
    c.suspend-suspension.ensures.after c.suspend-suspension.ensures.queue c.suspend-suspension.ensures.frame)
