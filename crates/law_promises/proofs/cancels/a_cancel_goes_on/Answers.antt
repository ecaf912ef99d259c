use Rattle.law_promises.proofs.Reaching.{cancel_goes_on}
use Rattle.law_promises.proofs.cancels.a_cancel_goes_on.Goals as goal

pub returns : goal.returns
returns c = cancel_goes_on
