use Rattle.std.proofs.Common.{[]}
use Rattle.law_cancel.proofs.Counting.{goes-done, goes-outcomes}
use Rattle.law_cancel.proofs.Trace.{with_row}
use Rattle.law_cancel.proofs.cancels.changes_no_outcome.Goals as goal

pub returns-clause-done : goal.returns-clause-done
returns-clause-done c = λ id p other d. goes-done (with_row id [] p) other d

pub returns-clause-outcome : goal.returns-clause-outcome
returns-clause-outcome c = λ id p other. goes-outcomes (with_row id [] p) other
