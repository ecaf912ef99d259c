use Rattle.law_sound.proofs.GroupSteps.{child_done_step_sound}
use Rattle.law_sound.proofs.groups.a_group_is_told.Goals as goal

pub returns : goal.returns
returns c = child_done_step_sound
