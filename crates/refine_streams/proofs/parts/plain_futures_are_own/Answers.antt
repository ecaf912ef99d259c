use Rattle.refine_streams.proofs.Keeping.{plain_own}
use Rattle.refine_streams.proofs.parts.plain_futures_are_own.Goals as goal

pub returns : goal.returns
returns c = plain_own
