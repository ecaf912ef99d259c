use Rattle.refine_streams.proofs.Keeping.{way_beside}
use Rattle.refine_streams.proofs.parts.ways_stay_beside.Goals as goal

pub returns : goal.returns
returns c = way_beside
