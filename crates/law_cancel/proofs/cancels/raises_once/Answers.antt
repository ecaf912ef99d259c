use Rattle.std.proofs.Common.{[], arith}
use Rattle.law_cancel.proofs.Counting.{goes-once, goes-counts}
use Rattle.law_cancel.proofs.Trace.{with_row}
use Rattle.law_cancel.proofs.cancels.raises_once.Goals as goal

pub returns-clause-once : goal.returns-clause-once
returns-clause-once c = λ id p task. goes-once (with_row id [] p) (λ u. omega arith) task

pub returns-clause-count : goal.returns-clause-count
returns-clause-count c = λ id p task. goes-counts (with_row id [] p) task
