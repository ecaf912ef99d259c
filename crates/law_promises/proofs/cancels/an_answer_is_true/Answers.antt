use Rattle.law_promises.proofs.Reaching.{cancel_reaches}
use Rattle.law_promises.proofs.cancels.an_answer_is_true.Goals as goal

pub returns : goal.returns
returns c = cancel_reaches
