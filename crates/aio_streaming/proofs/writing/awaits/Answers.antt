use Rattle.std.proofs.Common.{sym, ap, ◌∙◌}
use Rattle.std.proofs.lemmas.Result.{IfOk-weaker}
use Rattle.std.specs.Option.{option_copied}
use Rattle.aio_streaming.proofs.Waits.{awaits_so, ended_so, keeps_idle, keeps_pending, keeps_running}
use Rattle.aio_streaming.proofs.writing.awaits.Goals as goal

pub returns-in-Some : goal.returns-in-Some
returns-in-Some g c =
    IfOk-weaker c.replied.result _ _ (λ said e at s h.
    ended_so c.args.task c.args.on c.args.body.now c.in-Some.outcome.now
    (sym c.outcome.ensures ∙ ap option_copied c.in-Some.is) said e at s h)
    c.replied.ensures

pub suspend-suspension-requires-clause-idle : goal.suspend-suspension-requires-clause-idle
suspend-suspension-requires-clause-idle g c = keeps_idle c.args.task c.args.on c.args.body.now c.requires

pub suspend-suspension-requires-clause-running : goal.suspend-suspension-requires-clause-running
suspend-suspension-requires-clause-running g c = keeps_running c.args.task c.args.on c.args.body.now c.requires

pub suspend-suspension-requires-clause-pending : goal.suspend-suspension-requires-clause-pending
suspend-suspension-requires-clause-pending g c =
    keeps_pending c.args.task c.args.on c.args.body.now c.requires (sym c.outcome.ensures ∙ ap option_copied c.in_default.is)

pub returns : goal.returns
returns g c =
    awaits_so c.args.task c.args.on c.args.body.now
    (sym c.outcome.ensures ∙ ap option_copied c.in_default.is) c.suspend-suspension.new.self
    c.suspend-suspension.ensures.after c.suspend-suspension.ensures.queue c.suspend-suspension.ensures.frame
