use Rattle.law_runs.proofs.Nothing.{nothing_keeps}
use Rattle.law_runs.proofs.runs.nothing_added_keeps_it_sound.Goals as goal

pub returns : goal.returns
returns c = nothing_keeps
