use Rattle.law_promises.proofs.Relied.{end_raises, members_kept}
use Rattle.law_promises.proofs.groups.an_exit_raises_its_errors.Goals as goal

pub returns-clause-answer : goal.returns-clause-answer
returns-clause-answer c = end_raises

pub returns-clause-members : goal.returns-clause-members
returns-clause-members c = members_kept
