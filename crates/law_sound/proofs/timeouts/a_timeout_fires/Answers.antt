use Rattle.law_sound.proofs.TimeoutSteps.{fire_sound}
use Rattle.law_sound.proofs.timeouts.a_timeout_fires.Goals as goal

pub returns : goal.returns
returns c = fire_sound
