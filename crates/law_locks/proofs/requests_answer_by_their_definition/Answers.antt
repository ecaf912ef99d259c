use Rattle.law_locks.proofs.Runs.{asked_by, woken_by}
use Rattle.law_locks.proofs.requests_answer_by_their_definition.Goals as goal

pub returns-clause-asked : goal.returns-clause-asked
returns-clause-asked c laws = λ gather exec dgram task code arguments s is. asked_by 0 gather exec dgram task code arguments s is

pub returns-clause-goes_on : goal.returns-clause-goes_on
returns-clause-goes_on c laws = λ gather exec dgram key input s is. woken_by 0 gather exec dgram key input s is
