use Rattle.model_sync.specs.Synced.{none_synced}
use Rattle.model_sync.specs.Serving.{sync_means}
use Rattle.model_exec.specs.Execed.{none_execed}
use Rattle.model_exec.specs.Serving.{exec_means}
use Rattle.model_dgram.specs.Endpoints.{none_opened}
use Rattle.model_dgram.specs.Serving.{dgram_means}
use Rattle.law_waiters.proofs.Asking.{asks_beside}
use Rattle.law_keys.proofs.Keys.{sync_keeps_to_keys}
use Rattle.law_keys.proofs.Jobs.{exec_keeps_to_keys}
use Rattle.law_keys.proofs.Datagrams.{dgram_keeps_to_keys}
use Rattle.law_keys.proofs.a_wait_for_of_the_program_asks_once.Goals as goal

pub returns : goal.returns
returns c = λ most limit program answers turns.
    asks_beside sync_means exec_means dgram_means sync_keeps_to_keys exec_keeps_to_keys dgram_keeps_to_keys none_synced none_execed none_opened most
    limit program answers turns
