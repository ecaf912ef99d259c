use Rattle.std.proofs.Common.{sym, ap, ◌∙◌}
use Rattle.std.specs.Prelude.{is_some}
use Rattle.std.specs.Option.{option_copied}
use Rattle.aio_body.specs.Asked.{Says}
use Rattle.aio_body.specs.declared.reply.RequestReply.TheVariants.{Suspends}
use Rattle.aio_extra.specs.declared.asked.Asked.TheVariants.{Wait}
use Rattle.aio_serve.specs.Adding.{AnswersAgain, answered}
use Rattle.aio_serve.proofs.Adding.{answers_idle, answers_run, answers_served, answers_there, suspends_so, waits_as, waits_may, wakes_so}
use Rattle.aio_serve.proofs.added.wait.Goals as goal

pub suspend-suspension-requires-clause-idle : goal.suspend-suspension-requires-clause-idle
suspend-suspension-requires-clause-idle g c = answers_idle c.args.task (Wait c.args.on c.args.key) c.args.body.now c.requires

pub suspend-suspension-requires-clause-running : goal.suspend-suspension-requires-clause-running
suspend-suspension-requires-clause-running g c = answers_run c.args.task (Wait c.args.on c.args.key) c.args.body.now c.requires

pub suspend-suspension-requires-clause-pending : goal.suspend-suspension-requires-clause-pending
suspend-suspension-requires-clause-pending g c =
    waits_may c.args.task c.args.on c.args.key c.args.body.now c.requires (sym c.outcome.ensures ∙ ap option_copied c.in_default.is)

pub stand_far-requires : goal.stand_far-requires
stand_far-requires g c = answers_there c.args.task (Wait c.args.on c.args.key) c.args.body.now c.requires

pub returns-in_default-clause-answers : goal.returns-in_default-clause-answers
returns-in_default-clause-answers g c at s it h =
    let body = c.args.body.now in
    waits_as c.args.task at body s (λ k. Says c.args.task at c.stand_far.new.self Suspends (answered g.X.Extra.added.meaning c.args.task k s)) c.args.on
    c.args.key it h
    (λ w. suspends_so c.args.task c.args.on c.args.key at body s w c.stand_far.new.self c.suspend-suspension.new.self
    (sym c.outcome.ensures ∙ ap option_copied c.in_default.is) c.suspend-suspension.ensures.after c.suspend-suspension.ensures.queue
    c.suspend-suspension.ensures.frame c.in_ok-stand_far.ensures.frame c.in_ok-stand_far.ensures.slots)

pub wake-requires-clause-runs : goal.wake-requires-clause-runs
wake-requires-clause-runs g c = ap is_some (answers_run c.args.task (Wait c.args.on c.args.key) c.args.body.now c.requires)

pub wake-requires-clause-serves : goal.wake-requires-clause-serves
wake-requires-clause-serves g c = answers_served c.args.task (Wait c.args.on c.args.key) c.args.body.now c.requires

pub returns-clause-answers : goal.returns-clause-answers
returns-clause-answers g c at s it h =
    let body = c.args.body.now in
    waits_as c.args.task at body s
    (λ k. AnswersAgain c.args.task c.in_ok-asked.asked at (record body { parts = c.wake.new.parts; extra = c.wake.new.self })
    (answered g.X.Extra.added.meaning c.args.task k s)) c.args.on c.args.key it h
    (λ w. wakes_so c.args.task c.args.on c.args.key at body s w c.in-Some.outcome.now c.in_ok-input.input
    (sym c.outcome.ensures ∙ ap option_copied c.in-Some.is) c.in_ok-input.ensures c.wake.new.parts c.wake.new.self c.in_ok-asked.asked
    c.in_ok-asked.ensures)
