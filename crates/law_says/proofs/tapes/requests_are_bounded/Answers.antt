use Rattle.law_says.proofs.Counting.{asked_at_most}
use Rattle.law_says.proofs.tapes.requests_are_bounded.Goals as goal

pub returns : goal.returns
returns c = asked_at_most
