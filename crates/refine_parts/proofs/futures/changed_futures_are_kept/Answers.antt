use Rattle.refine_parts.proofs.Calls.{kept_settle, kept_register, keeps_ask}
use Rattle.refine_parts.proofs.futures.changed_futures_are_kept.Goals as goal

pub returns-clause-settle : goal.returns-clause-settle
returns-clause-settle c = λ t v p id outcome k. kept_settle t v p k id outcome

pub returns-clause-register : goal.returns-clause-register
returns-clause-register c = λ t v p id action k. kept_register t v p k id action

pub returns-clause-ask : goal.returns-clause-ask
returns-clause-ask c = λ t v p id k. keeps_ask t v p k id
