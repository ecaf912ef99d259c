use Rattle.refine_parts.proofs.Calls.{kept_request}
use Rattle.refine_parts.proofs.Telling.{answer_kept, spent_kept}
use Rattle.refine_parts.proofs.requests.a_request_is_kept.Goals as goal

pub returns-clause-after : goal.returns-clause-after
returns-clause-after c = λ t v w p by id k became. kept_request t v w p k by id became

pub returns-clause-answer : goal.returns-clause-answer
returns-clause-answer c = λ t v p by id k. answer_kept t v p k id

pub returns-clause-spent : goal.returns-clause-spent
returns-clause-spent c = λ t v p id k. spent_kept t v p k id
