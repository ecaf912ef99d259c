use Rattle.refine_parts.proofs.Scheduling.{kept_later}
use Rattle.refine_parts.proofs.timers.a_new_timer_is_kept.Goals as goal

pub returns : goal.returns
returns c = λ t v p when action k. kept_later t v p k when action
