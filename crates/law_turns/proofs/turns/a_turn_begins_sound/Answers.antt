use Rattle.law_turns.proofs.Turning.{woken_sound}
use Rattle.law_turns.proofs.turns.a_turn_begins_sound.Goals as goal

pub returns : goal.returns
returns g c = woken_sound
