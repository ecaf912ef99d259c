use Rattle.law_exclusion.proofs.Running.{program_wakeups}
use Rattle.law_exclusion.proofs.events_and_queues_lose_no_wakeup.Goals as goal

pub returns : goal.returns
returns g = record { program = λ most program answers turns. program_wakeups most program answers turns }
