use Rattle.refine_parts.proofs.Scheduling.{none_earliest, some_earliest, wait_kept, stall_kept}
use Rattle.refine_parts.proofs.timers.the_earliest_deadline_is_kept.Goals as goal

pub returns-clause-none : goal.returns-clause-none
returns-clause-none c = none_earliest

pub returns-clause-some : goal.returns-clause-some
returns-clause-some c = λ t v p when k e. some_earliest t v p k when e

pub returns-clause-wait : goal.returns-clause-wait
returns-clause-wait c = wait_kept

pub returns-clause-stall : goal.returns-clause-stall
returns-clause-stall c = λ t v p watched k. stall_kept t v p k watched
