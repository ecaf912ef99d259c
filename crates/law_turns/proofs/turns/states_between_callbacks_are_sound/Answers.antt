use Rattle.law_turns.proofs.Running.{pending_sound, between_sound}
use Rattle.law_turns.proofs.turns.states_between_callbacks_are_sound.Goals as goal

pub returns-clause-after : goal.returns-clause-after
returns-clause-after g c = pending_sound

pub returns-clause-between : goal.returns-clause-between
returns-clause-between g c = between_sound
