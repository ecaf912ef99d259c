use Rattle.law_promises.proofs.Relied.{one_handle_at_most}
use Rattle.law_promises.proofs.states.a_timeout_has_one_handle_at_most.Goals as goal

pub returns : goal.returns
returns c = one_handle_at_most
