use Rattle.law_turns.proofs.Stepping.{step_begins}
use Rattle.law_turns.proofs.steps.a_step_begins_sound.Goals as goal

pub returns : goal.returns
returns g c = λ added s task input handle rest first live mine sound resume_point fit.
    step_begins added s task input handle rest first live mine sound resume_point fit
