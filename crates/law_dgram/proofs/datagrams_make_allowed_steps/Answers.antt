use Rattle.law_dgram.proofs.Allowed.{dgram_allowed}
use Rattle.law_dgram.proofs.Falling.{dgram_falls, dgram_same}
use Rattle.law_dgram.proofs.Keys.{of_dgram}
use Rattle.law_dgram.proofs.datagrams_make_allowed_steps.Goals as goal

pub returns-clause-allowed : goal.returns-clause-allowed
returns-clause-allowed c = dgram_allowed

pub returns-clause-falls : goal.returns-clause-falls
returns-clause-falls c = dgram_falls

pub returns-clause-keys : goal.returns-clause-keys
returns-clause-keys c = dgram_same

pub returns-clause-part : goal.returns-clause-part
returns-clause-part c = of_dgram
