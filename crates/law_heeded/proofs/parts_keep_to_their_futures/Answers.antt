use Rattle.law_heeded.proofs.Gathered.{gather_keeps_to}
use Rattle.law_heeded.proofs.Jobs.{exec_keeps_to}
use Rattle.law_heeded.proofs.Datagrams.{dgram_keeps_to}
use Rattle.law_heeded.proofs.Synced.{missing_keeps, sync_keeps_to}
use Rattle.law_heeded.proofs.parts_keep_to_their_futures.Goals as goal

pub returns-clause-gather : goal.returns-clause-gather
returns-clause-gather g = gather_keeps_to

pub returns-clause-sync : goal.returns-clause-sync
returns-clause-sync g = sync_keeps_to

pub returns-clause-missing : goal.returns-clause-missing
returns-clause-missing g = missing_keeps

pub returns-clause-exec : goal.returns-clause-exec
returns-clause-exec g = exec_keeps_to

pub returns-clause-dgram : goal.returns-clause-dgram
returns-clause-dgram g = dgram_keeps_to
