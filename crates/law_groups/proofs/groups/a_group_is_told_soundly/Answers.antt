use Rattle.law_groups.proofs.ChildDone.{child_done_sound}
use Rattle.law_groups.proofs.groups.a_group_is_told_soundly.Goals as goal

pub returns : goal.returns
returns c = child_done_sound
