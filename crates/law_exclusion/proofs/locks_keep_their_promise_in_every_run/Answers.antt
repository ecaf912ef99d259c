use Rattle.law_exclusion.proofs.Running.{program_runs}
use Rattle.law_exclusion.proofs.locks_keep_their_promise_in_every_run.Goals as goal

pub returns : goal.returns
returns g = record { program = λ most program answers turns. program_runs most program answers turns }
