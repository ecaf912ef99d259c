use Rattle.law_sound.proofs.Steps.{end_of_run_sound}
use Rattle.law_sound.proofs.starting.a_run_ends_sound.Goals as goal

pub returns : goal.returns
returns c = end_of_run_sound
