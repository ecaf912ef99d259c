use Rattle.refine_parts.proofs.Running.{keeps_barred, count_early}
use Rattle.refine_parts.proofs.handles.the_bar_is_kept.Goals as goal

pub returns-clause-set : goal.returns-clause-set
returns-clause-set c = keeps_barred

pub returns-clause-count : goal.returns-clause-count
returns-clause-count c = count_early
