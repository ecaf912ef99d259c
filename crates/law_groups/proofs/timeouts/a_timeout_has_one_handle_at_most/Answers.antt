use Rattle.law_groups.proofs.Firing.{one_handle}
use Rattle.law_groups.proofs.timeouts.a_timeout_has_one_handle_at_most.Goals as goal

pub returns : goal.returns
returns c = one_handle
