use Rattle.std.proofs.Common.{ap, ◌∙◌}
use Rattle.model_value.specs.Value.{Nothing}
use Rattle.model_wire.specs.declared.event.Event.TheVariants as event
use Rattle.model_machine.specs.Replies.{shown_all}
use Rattle.model_machine.specs.State.{noted}
use Rattle.aio_wire.specs.Events.{pushed}
use Rattle.aio_body.specs.declared.reply.RequestReply.TheVariants.{Answers}
use Rattle.aio_serve.proofs.Changing.{notes_so}
use Rattle.aio_serve.proofs.Meaning.{print_means}
use Rattle.aio_serve.proofs.Saying.{answers_so}
use Rattle.aio_serve.proofs.time.print.Goals as goal

pub returns : goal.returns
returns g c at s h =
    let body = c.args.body.now in
    let task = c.args.task in
    let it = event.Said task (shown_all c.args.values.now) in
    let text = c.of-text.ensures ∙ c.in_ok-shown_all.ensures ∙ ap shown_all c.items.ensures in
    let events = c.in_ok-push.ensures.ok ∙ ap (λ t. pushed body.events (event.Said task t)) text in
    answers_so task at (record body { events = c.push.new.self }) (noted it s) _ _ Nothing (ap Answers c.nothing.ensures)
    (print_means g.X.Extra.added.meaning task s c.args.values.now)
    (notes_so task it at body s c.push.new.self events h.going.in_step)
