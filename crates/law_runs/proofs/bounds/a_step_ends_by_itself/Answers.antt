use Rattle.law_runs.proofs.Bounded.{bound_is_enough}
use Rattle.law_runs.proofs.bounds.a_step_ends_by_itself.Goals as goal

pub returns : goal.returns
returns g c = bound_is_enough
