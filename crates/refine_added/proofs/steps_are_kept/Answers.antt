use Rattle.refine_added.proofs.Going.{steps_go}
use Rattle.refine_added.proofs.steps_are_kept.Goals as goal

pub returns : goal.returns
returns c = λ t v w own l steps keeps rules may older sees. steps_go t v w own l steps keeps rules may older sees
