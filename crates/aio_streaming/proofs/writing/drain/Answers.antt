use Rattle.std.proofs.Common.{sym, subst, ◌∙◌}
use Rattle.std.proofs.Math.Logic.{∥∥₁_map}
use Rattle.std.proofs.lemmas.Result.{IfOk-weaker}
use Rattle.model_value.specs.declared.request.Request.TheVariants as request
use Rattle.model_says.specs.Requests.{bad_argument}
use Rattle.aio_body.specs.Asked.{Says}
use Rattle.aio_body.proofs.Alone.{serves_raise}
use Rattle.refine_streams.proofs.Meaning.{drain_means, drain_refused}
use Rattle.aio_streaming.proofs.Writes.{runs_asked}
use Rattle.aio_streaming.proofs.writing.drain.Goals as goal

pub drains-requires : goal.drains-requires
drains-requires g c =
    ∥∥₁_map c.requires (λ w. (
      w.0,
      (
        w.1.0,
        runs_asked c.args.task c.args.body.now
            (request.Drain c.args.stream.now) w.0 w.1.0 w.1.1,
      ),
    ))

pub returns-in-Some : goal.returns-in-Some
returns-in-Some g c =
    let task = c.args.task in
    IfOk-weaker c.drains.result _ _ (λ said e at s h.
    subst (Says task at c.drains.new.body said)
    (sym (drain_means g.X.Extra.added.meaning task s c.args.stream.now c.in-Some.whom
    (sym (c.as_writer.ensures s h.going.in_step.stands.transports) ∙ c.in-Some.is)))
    (e at s (runs_asked task c.args.body.now (request.Drain c.args.stream.now) at s h)))
    c.drains.ensures

pub returns-in-None : goal.returns-in-None
returns-in-None g c =
    serves_raise g.X.Extra.added c.args.task (request.Drain c.args.stream.now) c.args.body.now bad_argument
    (λ at s h.
    drain_refused g.X.Extra.added.meaning c.args.task s c.args.stream.now
    (sym (c.as_writer.ensures s h.going.in_step.stands.transports) ∙ c.in-None.is))
    c.bad_argument.result c.bad_argument.ensures
