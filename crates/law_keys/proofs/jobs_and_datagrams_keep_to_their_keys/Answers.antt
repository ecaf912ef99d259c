use Rattle.law_keys.proofs.Datagrams.{dgram_keeps_to_keys}
use Rattle.law_keys.proofs.Jobs.{exec_keeps_to_keys}
use Rattle.law_keys.proofs.jobs_and_datagrams_keep_to_their_keys.Goals as goal

pub returns-clause-jobs : goal.returns-clause-jobs
returns-clause-jobs g = exec_keeps_to_keys

pub returns-clause-datagrams : goal.returns-clause-datagrams
returns-clause-datagrams g = dgram_keeps_to_keys
