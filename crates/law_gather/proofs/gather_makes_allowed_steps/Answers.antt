use Rattle.model_machine.specs.Extra.{no_extra}
use Rattle.model_reach.specs.Reach.{OfSync, OfExec, OfDgram}
use Rattle.law_parted.proofs.Missing.{missing_allowed, missing_keys}
use Rattle.law_parted.proofs.Reaching.{reach_allowed}
use Rattle.model_gather.specs.Serving.{gather_means}
use Rattle.law_gather.proofs.Allowed.{gather_allowed}
use Rattle.law_gather.proofs.Falling.{gather_falls, gather_same}
use Rattle.law_gather.proofs.Keys.{of_gather}
use Rattle.law_gather.proofs.gather_makes_allowed_steps.Goals as goal

pub returns-clause-allowed : goal.returns-clause-allowed
returns-clause-allowed c = gather_allowed

pub returns-clause-falls : goal.returns-clause-falls
returns-clause-falls c = gather_falls

pub returns-clause-keys : goal.returns-clause-keys
returns-clause-keys c = gather_same

pub returns-clause-part : goal.returns-clause-part
returns-clause-part c = of_gather

pub returns-clause-routed : goal.returns-clause-routed
returns-clause-routed c =
    reach_allowed gather_means no_extra no_extra no_extra of_gather (missing_keys OfSync) (missing_keys OfExec) (missing_keys OfDgram) gather_allowed
    missing_allowed missing_allowed missing_allowed
