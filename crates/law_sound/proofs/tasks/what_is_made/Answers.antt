use Rattle.law_sound.proofs.Steps.{spawn_step_sound, plain_step_sound, many_step_sound}
use Rattle.law_sound.proofs.tasks.what_is_made.Goals as goal

pub returns-clause-task : goal.returns-clause-task
returns-clause-task c = spawn_step_sound

pub returns-clause-plain : goal.returns-clause-plain
returns-clause-plain c = plain_step_sound

pub returns-clause-many : goal.returns-clause-many
returns-clause-many c = many_step_sound
