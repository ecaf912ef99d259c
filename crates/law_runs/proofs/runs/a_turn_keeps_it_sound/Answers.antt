use Rattle.law_runs.proofs.Turning.{turn_in, mids_in}
use Rattle.law_runs.proofs.runs.a_turn_keeps_it_sound.Goals as goal

pub returns-clause-after : goal.returns-clause-after
returns-clause-after g c = λ added keeps s sound. turn_in added keeps s sound

pub returns-clause-between : goal.returns-clause-between
returns-clause-between g c = λ added keeps s sound. mids_in added keeps s sound
