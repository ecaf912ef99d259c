use Rattle.law_cancel.proofs.Total.{cancel_with_itself}
use Rattle.law_cancel.proofs.cancels.is_total.Goals as goal

pub returns : goal.returns
returns c = cancel_with_itself
