use Rattle.law_over.proofs.Staying.{gone_unwatched}
use Rattle.law_over.proofs.streams.gone_is_unwatched.Goals as goal

pub returns : goal.returns
returns c = gone_unwatched
