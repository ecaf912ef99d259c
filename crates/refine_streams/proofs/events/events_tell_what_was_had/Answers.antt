use Rattle.refine_streams.proofs.Telling.{all_once, met_once}
use Rattle.refine_streams.proofs.events.events_tell_what_was_had.Goals as goal

pub returns-clause-all : goal.returns-clause-all
returns-clause-all c = all_once

pub returns-clause-met : goal.returns-clause-met
returns-clause-met c = λ some others call other said told why old new a b s t.
    let it = met_once some others old new call other said told why a b s t in (it.0.had, (it.0.call, it.1))
