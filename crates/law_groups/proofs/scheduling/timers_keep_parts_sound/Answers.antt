use Rattle.law_groups.proofs.Revoking.{due_sound, revoke_sound}
use Rattle.law_groups.proofs.scheduling.timers_keep_parts_sound.Goals as goal

pub returns-clause-due : goal.returns-clause-due
returns-clause-due c = due_sound

pub returns-clause-revoke : goal.returns-clause-revoke
returns-clause-revoke c = revoke_sound
