use Rattle.model_machine.specs.State.{start}
use Rattle.law_runs.proofs.FirstState.{begins_sound}
use Rattle.law_runs.proofs.Turning.{run_in}
use Rattle.law_runs.proofs.Calls.{allowed_keeps}
use Rattle.law_runs.proofs.extras.allowed_extras_keep_states_sound.Goals as goal

pub returns-clause-keeps : goal.returns-clause-keeps
returns-clause-keeps g c = λ added allowed. allowed_keeps added allowed

pub returns-clause-runs : goal.returns-clause-runs
returns-clause-runs g c = λ added allowed most state program answers turns nothing.
    run_in added (allowed_keeps added allowed) turns (start most state program answers) (begins_sound added most state program answers nothing)
