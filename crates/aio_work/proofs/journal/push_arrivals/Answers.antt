use Rattle.std.proofs.Common.{◌≡◌, ◌+◌, ◌++◌, ap, ◌∙◌, arith}
use Rattle.model_work.specs.Work.{arrival_text}
use Rattle.aio_work.proofs.Numbered.{pieces-none, pieces-next}
use Rattle.aio_work.proofs.journal.push_arrivals.Goals as goal

pub loop-past-preserved : goal.loop-past-preserved
loop-past-preserved c =
    let past = c.loop-past.past in
    let time : past + 1 ≡ 1 + past = omega arith in
    c.in_ok-push_arrival.ensures
    ∙ (ap (λ text. text ++ arrival_text (past + 1)) c.loop-past.invariant
    ∙ pieces-next arrival_text 1 past (past + 1) c.args.out.now.items time)

pub loop-past-init : goal.loop-past-init
loop-past-init c = pieces-none arrival_text 1 c.args.out.now.items
