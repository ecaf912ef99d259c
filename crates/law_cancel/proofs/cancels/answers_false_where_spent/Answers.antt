use Rattle.law_cancel.proofs.Answering.{with_answer_spent, with_still}
use Rattle.law_cancel.proofs.cancels.answers_false_where_spent.Goals as goal

pub returns-clause-answer : goal.returns-clause-answer
returns-clause-answer c = with_answer_spent

pub returns-clause-unchanged : goal.returns-clause-unchanged
returns-clause-unchanged c = with_still
