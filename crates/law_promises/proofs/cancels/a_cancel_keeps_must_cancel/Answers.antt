use Rattle.law_promises.proofs.Reaching.{cancel_keeps_must_cancel}
use Rattle.law_promises.proofs.cancels.a_cancel_keeps_must_cancel.Goals as goal

pub returns : goal.returns
returns c = cancel_keeps_must_cancel
