use Rattle.std.proofs.Common.{pos, ap, ◌∙◌}
use Rattle.model_value.specs.Value.{Int}
use Rattle.aio_body.specs.declared.reply.RequestReply.TheVariants.{Answers}
use Rattle.aio_serve.proofs.Meaning.{time_means}
use Rattle.aio_serve.proofs.Reading.{few_moments}
use Rattle.aio_serve.proofs.Saying.{answers_so}
use Rattle.aio_serve.proofs.time.time_now.Goals as goal

pub number-requires : goal.number-requires
number-requires g c = rw c.now.ensures (few_moments c.args.body.now c.requires)

pub returns : goal.returns
returns g c task at s h =
    let body = c.args.body.now in
    answers_so task at body s _ _ (Int (pos s.loop.parts.time))
    (c.number.ensures ∙ ap (λ n. Answers (Int (pos n))) (c.now.ensures ∙ h.going.in_step.stands.keeps.time))
    (time_means g.X.Extra.added.meaning task s) h.going.in_step
