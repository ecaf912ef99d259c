use Rattle.law_promises.proofs.Relied.{one_way}
use Rattle.law_promises.proofs.states.a_task_has_one_way_on.Goals as goal

pub returns : goal.returns
returns c = one_way
