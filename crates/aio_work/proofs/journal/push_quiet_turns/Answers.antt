use Rattle.std.proofs.Common.{◌+◌, ◌++◌, ap, ◌∙◌, refl}
use Rattle.model_work.specs.Work.{quiet_text}
use Rattle.aio_work.proofs.Numbered.{pieces-none, pieces-next}
use Rattle.aio_work.proofs.journal.push_quiet_turns.Goals as goal

pub loop-past-preserved : goal.loop-past-preserved
loop-past-preserved c =
    let past = c.loop-past.past in
    c.in_ok-push_quiet_turn.ensures
    ∙ (ap (λ text. text ++ quiet_text (301 + past)) c.loop-past.invariant
    ∙ pieces-next quiet_text 301 past (301 + past) c.args.out.now.items refl)

pub loop-past-init : goal.loop-past-init
loop-past-init c = pieces-none quiet_text 301 c.args.out.now.items
