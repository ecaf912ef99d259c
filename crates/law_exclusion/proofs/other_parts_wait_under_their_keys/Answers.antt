use Rattle.model_reach.specs.Reach.{OfDgram, OfExec}
use Rattle.model_exec.specs.Serving.{exec_means}
use Rattle.model_dgram.specs.Serving.{dgram_means}
use Rattle.law_keys.proofs.Datagrams.{dgram_keeps_to_keys}
use Rattle.law_keys.proofs.Jobs.{exec_keeps_to_keys}
use Rattle.law_exclusion.proofs.Keys.{gather_waits, missing_waits}
use Rattle.law_exclusion.proofs.Others.{waits_of}
use Rattle.law_exclusion.proofs.other_parts_wait_under_their_keys.Goals as goal

pub returns-clause-gather : goal.returns-clause-gather
returns-clause-gather g = gather_waits

pub returns-clause-exec : goal.returns-clause-exec
returns-clause-exec g = waits_of OfExec exec_means exec_keeps_to_keys

pub returns-clause-dgram : goal.returns-clause-dgram
returns-clause-dgram g = waits_of OfDgram dgram_means dgram_keeps_to_keys

pub returns-clause-missing : goal.returns-clause-missing
returns-clause-missing g = missing_waits
