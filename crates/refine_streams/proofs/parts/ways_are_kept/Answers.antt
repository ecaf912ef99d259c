use Rattle.refine_streams.proofs.Keeping.{way_kept}
use Rattle.refine_streams.proofs.parts.ways_are_kept.Goals as goal

pub returns : goal.returns
returns c = way_kept
