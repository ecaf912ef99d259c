use Rattle.law_steps.proofs.Stepping.{begin_sound}
use Rattle.law_steps.proofs.steps.a_step_begins_sound.Goals as goal

pub returns : goal.returns
returns c = λ task input handle rest p first live mine is. begin_sound task handle rest p first live mine is input
