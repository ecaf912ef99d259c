use Rattle.law_datagrams.specs.Notes.{DatagramsKeep}
use Rattle.law_datagrams.proofs.Promised.{datagrams_keep}
use Rattle.law_datagrams.proofs.Runs.{runs_come}
use Rattle.law_datagrams.proofs.datagrams_keep_their_promise.Goals as goal

pub returns-clause-tries : goal.returns-clause-tries
returns-clause-tries c laws = datagrams_keep

pub returns-clause-runs : goal.returns-clause-runs
returns-clause-runs c laws = λ limit gather sync exec first nothing most program answers turns.
    runs_come limit gather sync exec first nothing DatagramsKeep datagrams_keep most program answers turns
