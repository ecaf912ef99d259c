use Rattle.law_promises.proofs.Falling.{others_keep}
use Rattle.law_promises.proofs.must_cancel.must_cancel_stays_elsewhere.Goals as goal

pub returns : goal.returns
returns c = others_keep
