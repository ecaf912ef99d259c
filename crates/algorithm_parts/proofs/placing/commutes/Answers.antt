use Rattle.std.proofs.Common.{refl}
use Rattle.algorithm_parts.proofs.PlacedLemmas.{soon-placed, settle-placed, register-placed, ask-placed, spawn-placed, change-placed, cancel-placed}
use Rattle.algorithm_parts.proofs.placing.commutes.Goals as goal

pub returns : goal.returns
returns c = record {
  soon = soon-placed;
  settle = settle-placed;
  register = register-placed;
  make = λ kind p. refl;
  ask = ask-placed;
  spawn = spawn-placed;
  change = change-placed;
  cancel = cancel-placed;
}
