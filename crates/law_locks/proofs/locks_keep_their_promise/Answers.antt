use Rattle.law_locks.proofs.Heeded.{locks_keep}
use Rattle.law_locks.proofs.locks_keep_their_promise.Goals as goal

pub returns : goal.returns
returns c = record { heeded = locks_keep }
