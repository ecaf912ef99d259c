use Rattle.law_promises.proofs.Relied.{at_most_once, errors_before, child_tells}
use Rattle.law_promises.proofs.groups.a_group_is_told_once.Goals as goal

pub returns-clause-once : goal.returns-clause-once
returns-clause-once c = λ running told l s id. at_most_once running told l s id

pub returns-clause-errors : goal.returns-clause-errors
returns-clause-errors c = λ running told l s id. errors_before running told l s id

pub returns-clause-child : goal.returns-clause-child
returns-clause-child c = λ running told l s id. child_tells running told l s id
