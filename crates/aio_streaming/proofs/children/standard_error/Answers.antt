use Rattle.std.proofs.Common.{Ok, sym, ap, ◌∙◌}
use Rattle.model_value.specs.declared.request.Request.TheVariants as request
use Rattle.model_value.specs.Value.{Errs}
use Rattle.model_says.specs.Requests.{bad_argument}
use Rattle.aio_body.specs.declared.reply.RequestReply.TheVariants as said
use Rattle.aio_body.proofs.Alone.{serves_answer, serves_raise}
use Rattle.refine_streams.proofs.Meaning.{errors_mean, errors_refused}
use Rattle.aio_streaming.proofs.children.standard_error.Goals as goal

pub returns-in-None : goal.returns-in-None
returns-in-None g c =
    serves_raise g.X.Extra.added c.args.task (request.StandardError c.args.child.now) c.args.body.now bad_argument
    (λ at s h.
    errors_refused g.X.Extra.added.meaning c.args.task s c.args.child.now
    (sym (c.as_child.ensures s h.going.in_step.stands.transports) ∙ c.in-None.is))
    c.bad_argument.result c.bad_argument.ensures

pub returns-in-Some : goal.returns-in-Some
returns-in-Some g c =
    serves_answer g.X.Extra.added c.args.task (request.StandardError c.args.child.now) c.args.body.now (Errs c.in-Some.id)
    (λ at s h.
    errors_mean g.X.Extra.added.meaning c.args.task s c.args.child.now c.in-Some.id
    (sym (c.as_child.ensures s h.going.in_step.stands.transports) ∙ c.in-Some.is))
    (Ok (said.Answers c.errs.result)) (ap said.Answers c.errs.ensures)
