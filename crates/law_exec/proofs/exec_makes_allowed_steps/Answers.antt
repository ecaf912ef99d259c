use Rattle.law_exec.proofs.Allowed.{exec_allowed}
use Rattle.law_exec.proofs.Falling.{exec_falls, exec_same}
use Rattle.law_exec.proofs.Keys.{of_exec}
use Rattle.law_exec.proofs.exec_makes_allowed_steps.Goals as goal

pub returns-clause-allowed : goal.returns-clause-allowed
returns-clause-allowed c = exec_allowed

pub returns-clause-falls : goal.returns-clause-falls
returns-clause-falls c = exec_falls

pub returns-clause-keys : goal.returns-clause-keys
returns-clause-keys c = exec_same

pub returns-clause-part : goal.returns-clause-part
returns-clause-part c = of_exec
