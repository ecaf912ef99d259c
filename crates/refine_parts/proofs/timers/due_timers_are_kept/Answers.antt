use Rattle.refine_parts.proofs.Scheduling.{keeps_fallen}
use Rattle.refine_parts.proofs.timers.due_timers_are_kept.Goals as goal

pub returns : goal.returns
returns c = keeps_fallen
