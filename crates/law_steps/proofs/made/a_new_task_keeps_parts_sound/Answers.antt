use Rattle.law_steps.proofs.Spawning.{spawn_sound}
use Rattle.law_steps.proofs.made.a_new_task_keeps_parts_sound.Goals as goal

pub returns : goal.returns
returns c = spawn_sound
