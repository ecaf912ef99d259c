use Rattle.std.proofs.Common.{ap}
use Rattle.model_gather.specs.Gathered.{settled_as}
use Rattle.law_waiters.proofs.answers.a_shield_passes_its_outcome.Goals as goal

pub returns : goal.returns
returns c on inner outcome p kept e = ap (λ o. settled_as o on) e
