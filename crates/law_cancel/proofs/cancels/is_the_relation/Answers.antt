use Rattle.law_cancel.proofs.Meeting.{cancel_meets, only_cancel}
use Rattle.law_cancel.proofs.cancels.is_the_relation.Goals as goal

pub returns-clause-meets : goal.returns-clause-meets
returns-clause-meets c = cancel_meets

pub returns-clause-alone : goal.returns-clause-alone
returns-clause-alone c = λ id seen p request is. only_cancel is
