use Rattle.refine_parts.proofs.Scheduling.{keeps_revoked}
use Rattle.refine_parts.proofs.timers.a_cancelled_timer_is_kept.Goals as goal

pub returns : goal.returns
returns c = λ t v p tag id k knows. keeps_revoked t v p k tag id knows
