use Rattle.law_cancel.proofs.Reach.{leads_decides}
use Rattle.law_cancel.proofs.cycles.test_decides.Goals as goal

pub returns : goal.returns
returns c = leads_decides
