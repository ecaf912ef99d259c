use Rattle.refine_parts.proofs.Telling.{pending_kept, outcome_kept, there_kept, owner_kept, gone_done}
use Rattle.refine_parts.proofs.futures.told_futures_are_kept.Goals as goal

pub returns-clause-pending : goal.returns-clause-pending
returns-clause-pending c = λ t v p id k. pending_kept t v p k id

pub returns-clause-outcome : goal.returns-clause-outcome
returns-clause-outcome c = λ t v p id k g. outcome_kept t v p k id g

pub returns-clause-there : goal.returns-clause-there
returns-clause-there c = λ t v p id k g. there_kept t v p k id g

pub returns-clause-owner : goal.returns-clause-owner
returns-clause-owner c = λ t v p id k none. owner_kept t v p k id none

pub returns-clause-gone : goal.returns-clause-gone
returns-clause-gone c = λ t v p id k g. gone_done t v p k id g
