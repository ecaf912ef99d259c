use Rattle.algorithm_parts.proofs.ReleasedLemmas.{cancel-release, settle-release, ask-release, change-release}
use Rattle.algorithm_parts.proofs.ReleasedSteps.{register-release, make-release, spawn-release, cycle-release, suspend-release, finish-release}
use Rattle.algorithm_parts.proofs.releasing.commutes.Goals as goal

pub returns : goal.returns
returns c = record {
  cancel = cancel-release;
  settle = settle-release;
  register = register-release;
  ask = ask-release;
  change = change-release;
  make = make-release;
  spawn = spawn-release;
  cycle = cycle-release;
  suspend = suspend-release;
  finish = finish-release;
}
