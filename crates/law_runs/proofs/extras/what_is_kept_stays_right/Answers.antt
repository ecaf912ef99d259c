use Rattle.law_runs.proofs.Called.{steps_keep}
use Rattle.law_runs.proofs.extras.what_is_kept_stays_right.Goals as goal

pub returns : goal.returns
returns c = λ own ids keeping futures steps l may is. steps_keep own keeping futures steps l may is
