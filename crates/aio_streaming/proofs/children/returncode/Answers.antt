use Rattle.std.proofs.Common.{Ok, sym, ap, ◌∙◌}
use Rattle.model_value.specs.declared.request.Request.TheVariants as request
use Rattle.model_says.specs.Requests.{bad_argument}
use Rattle.model_machine.specs.Replies as plain
use Rattle.model_machine.specs.Replies.{code_of}
use Rattle.aio_body.specs.declared.reply.RequestReply.TheVariants as said
use Rattle.aio_body.proofs.Alone.{serves_answer, serves_raise}
use Rattle.refine_streams.proofs.Meaning.{code_means, code_refused}
use Rattle.aio_streaming.proofs.children.returncode.Goals as goal

pub returns-in-None : goal.returns-in-None
returns-in-None g c =
    serves_raise g.X.Extra.added c.args.task (request.ReturnCode c.args.child.now) c.args.body.now bad_argument
    (λ at s h.
    code_refused g.X.Extra.added.meaning c.args.task s c.args.child.now
    (sym (c.as_child.ensures s h.going.in_step.stands.transports) ∙ c.in-None.is))
    c.bad_argument.result c.bad_argument.ensures

pub returns-in-Some : goal.returns-in-Some
returns-in-Some g c =
    serves_answer g.X.Extra.added c.args.task (request.ReturnCode c.args.child.now) c.args.body.now (code_of c.code.result)
    (λ at s h.
    code_means g.X.Extra.added.meaning c.args.task s c.args.child.now c.in-Some.id
    (sym (c.as_child.ensures s h.going.in_step.stands.transports) ∙ c.in-Some.is)
    ∙ ap (λ code. plain.Answers (code_of code) s) (sym (c.code.ensures s.streams h.going.in_step.stands.transports)))
    (Ok (said.Answers c.code_of.result)) (ap said.Answers c.code_of.ensures)
