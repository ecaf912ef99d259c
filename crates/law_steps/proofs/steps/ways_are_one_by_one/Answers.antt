use Rattle.law_steps.proofs.Bridge.{one_way_on}
use Rattle.law_steps.proofs.steps.ways_are_one_by_one.Goals as goal

pub returns : goal.returns
returns c = one_way_on
