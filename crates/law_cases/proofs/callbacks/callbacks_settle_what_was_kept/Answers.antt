use Rattle.law_cases.proofs.Opening.{acts}
use Rattle.law_cases.proofs.callbacks.callbacks_settle_what_was_kept.Goals as goal

pub returns : goal.returns
returns g = λ own next returned it s kept few. acts own next returned it s kept few
