use Rattle.std.proofs.Common.{Ok, sym, ap, subst, ◌∙◌}
use Rattle.std.proofs.Math.Logic.{∥∥₁_map}
use Rattle.std.proofs.lemmas.Result.{IfOk-weaker}
use Rattle.model_value.specs.declared.request.Request.TheVariants as request
use Rattle.model_value.specs.Value.{Nothing}
use Rattle.model_says.specs.Requests.{bad_argument}
use Rattle.model_machine.specs.Replies.{awaits_closed_as}
use Rattle.aio_body.specs.declared.reply.RequestReply.TheVariants.{Answers}
use Rattle.aio_body.specs.Asked.{Says}
use Rattle.aio_body.proofs.Alone.{serves_answer, serves_raise}
use Rattle.refine_streams.proofs.Meaning.{closed_means, closed_refused}
use Rattle.aio_streaming.proofs.Waits.{closed_kept, keeps_asked}
use Rattle.aio_streaming.proofs.writing.wait_closed.Goals as goal

pub returns-in_default : goal.returns-in_default
returns-in_default g c =
    serves_raise g.X.Extra.added c.args.task (request.WaitClosed c.args.stream.now) c.args.body.now bad_argument
    (λ at s h.
    closed_refused g.X.Extra.added.meaning c.args.task s c.args.stream.now
    (sym (c.as_writer.ensures s h.going.in_step.stands.transports) ∙ c.in_default.is))
    c.bad_argument.result c.bad_argument.ensures

pub awaits-requires : goal.awaits-requires
awaits-requires g c =
    ∥∥₁_map c.requires (λ w. (
      w.0,
      (
        w.1.0,
        keeps_asked c.args.task c.in-Some-closed.on c.args.body.now (request.WaitClosed c.args.stream.now) w.0 w.1.0 w.1.1
            (closed_kept c.in-Some.whom w.1.0.streams c.in-Some-closed.on
            (sym (c.closed.ensures w.1.0.streams w.1.1.going.in_step.stands.transports) ∙ c.in-Some-closed.is)),
      ),
    ))

pub returns-in-Some-closed : goal.returns-in-Some-closed
returns-in-Some-closed g c =
    let task = c.args.task in
    IfOk-weaker c.awaits.result _ _ (λ said e at s h.
    let transports = h.going.in_step.stands.transports in
    let on = sym (c.closed.ensures s.streams transports) ∙ c.in-Some-closed.is in
    subst (Says task at c.awaits.new.body said)
    (sym (closed_means g.X.Extra.added.meaning task s c.args.stream.now c.in-Some.whom
    (sym (c.as_writer.ensures s transports) ∙ c.in-Some.is)
    ∙ ap (λ o. awaits_closed_as o task s) on))
    (e at s
    (keeps_asked task c.in-Some-closed.on c.args.body.now (request.WaitClosed c.args.stream.now) at s h
    (closed_kept c.in-Some.whom s.streams c.in-Some-closed.on on))))
    c.awaits.ensures

pub returns-in-None : goal.returns-in-None
returns-in-None g c =
    let task = c.args.task in
    serves_answer g.X.Extra.added task (request.WaitClosed c.args.stream.now) c.args.body.now Nothing
    (λ at s h.
    let transports = h.going.in_step.stands.transports in
    closed_means g.X.Extra.added.meaning task s c.args.stream.now c.in-Some.whom
    (sym (c.as_writer.ensures s transports) ∙ c.in-Some.is)
    ∙ ap (λ o. awaits_closed_as o task s) (sym (c.closed.ensures s.streams transports) ∙ c.in-None.is))
    (Ok (Answers c.nothing.result)) (ap Answers c.nothing.ensures)
