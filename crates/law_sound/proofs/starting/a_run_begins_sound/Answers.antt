use Rattle.law_sound.proofs.Beginning.{first_sound}
use Rattle.law_sound.proofs.starting.a_run_begins_sound.Goals as goal

pub returns : goal.returns
returns c = first_sound
