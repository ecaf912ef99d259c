use Rattle.law_turns.proofs.Turning.{turn_over_sound}
use Rattle.law_turns.proofs.turns.a_turn_ends_sound.Goals as goal

pub returns : goal.returns
returns g c = turn_over_sound
