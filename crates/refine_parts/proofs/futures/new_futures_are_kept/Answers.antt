use Rattle.refine_parts.proofs.Calls.{keeps_plain, keeps_many}
use Rattle.refine_parts.proofs.Telling.{next_kept}
use Rattle.refine_parts.proofs.futures.new_futures_are_kept.Goals as goal

pub returns-clause-plain : goal.returns-clause-plain
returns-clause-plain c = keeps_plain

pub returns-clause-many : goal.returns-clause-many
returns-clause-many c = λ t v p members k made. keeps_many t v p k members made

pub returns-clause-number : goal.returns-clause-number
returns-clause-number c = next_kept
