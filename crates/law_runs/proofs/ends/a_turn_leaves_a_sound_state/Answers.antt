use Rattle.law_runs.proofs.Leaving.{turn_in}
use Rattle.law_runs.proofs.ends.a_turn_leaves_a_sound_state.Goals as goal

pub returns : goal.returns
returns g c = λ added keeps s sound. turn_in added keeps s sound
