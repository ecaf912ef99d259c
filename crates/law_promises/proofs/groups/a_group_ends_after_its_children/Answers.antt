use Rattle.law_promises.proofs.Relied.{children_done, told_once, errors_at_end}
use Rattle.law_promises.proofs.groups.a_group_ends_after_its_children.Goals as goal

pub returns-clause-done : goal.returns-clause-done
returns-clause-done c = λ running told l s id. children_done running told l s id

pub returns-clause-told : goal.returns-clause-told
returns-clause-told c = λ running told l s id. told_once running told l s id

pub returns-clause-errors : goal.returns-clause-errors
returns-clause-errors c = λ running told l s id. errors_at_end running told l s id
