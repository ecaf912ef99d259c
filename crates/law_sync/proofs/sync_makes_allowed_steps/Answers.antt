use Rattle.law_sync.proofs.Allowed.{sync_allowed}
use Rattle.law_sync.proofs.Falling.{sync_falls, sync_same}
use Rattle.law_sync.proofs.Keys.{of_sync}
use Rattle.law_sync.proofs.sync_makes_allowed_steps.Goals as goal

pub returns-clause-allowed : goal.returns-clause-allowed
returns-clause-allowed c = sync_allowed

pub returns-clause-falls : goal.returns-clause-falls
returns-clause-falls c = sync_falls

pub returns-clause-keys : goal.returns-clause-keys
returns-clause-keys c = sync_same

pub returns-clause-part : goal.returns-clause-part
returns-clause-part c = of_sync
