use Rattle.law_groups.proofs.Firing.{enter_tags, fire_tags, exit_tags}
use Rattle.law_groups.proofs.Tagging.{reschedule_tags}
use Rattle.law_groups.proofs.timeouts.timeouts_keep_tags.Goals as goal

pub returns-clause-enter : goal.returns-clause-enter
returns-clause-enter c = enter_tags

pub returns-clause-reschedule : goal.returns-clause-reschedule
returns-clause-reschedule c = reschedule_tags

pub returns-clause-fire : goal.returns-clause-fire
returns-clause-fire c = λ id handle rest l first live action sound is. fire_tags id handle rest l first live action is sound

pub returns-clause-exit : goal.returns-clause-exit
returns-clause-exit c = exit_tags
