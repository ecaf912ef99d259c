use Rattle.refine_streams.proofs.Doing.{streams_end}
use Rattle.refine_streams.proofs.machine.ways_end_as_trees_do.Goals as goal

pub returns : goal.returns
returns g c = streams_end
