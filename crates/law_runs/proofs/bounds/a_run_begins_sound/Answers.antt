use Rattle.law_runs.proofs.FirstState.{begins_sound}
use Rattle.law_runs.proofs.bounds.a_run_begins_sound.Goals as goal

pub returns : goal.returns
returns g c = begins_sound
