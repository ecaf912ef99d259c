use Rattle.law_locks.specs.Requests.{RequestsKeep}
use Rattle.law_locks.proofs.Numbers.{requests_keep}
use Rattle.law_locks.proofs.Runs.{runs_come}
use Rattle.law_locks.proofs.requests_are_numbered_as_they_are_asked.Goals as goal

pub returns-clause-tries : goal.returns-clause-tries
returns-clause-tries c laws = requests_keep

pub returns-clause-runs : goal.returns-clause-runs
returns-clause-runs c laws = λ limit gather exec dgram first nothing most program answers turns.
    runs_come limit gather exec dgram first nothing (λ told kept. RequestsKeep told) requests_keep most program answers turns
