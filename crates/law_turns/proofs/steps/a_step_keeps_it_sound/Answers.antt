use Rattle.law_turns.proofs.Serving.{step_handle}
use Rattle.law_turns.proofs.steps.a_step_keeps_it_sound.Goals as goal

pub returns : goal.returns
returns g c = step_handle
