use Rattle.law_turns.proofs.Turning.{start_sound}
use Rattle.law_turns.proofs.turns.a_run_begins_sound.Goals as goal

pub returns : goal.returns
returns g c = start_sound
