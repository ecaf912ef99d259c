use Rattle.law_jobs.specs.Notes.{JobsKeep}
use Rattle.law_jobs.proofs.Runs.{runs_come}
use Rattle.law_jobs.proofs.Stepping.{jobs_keep}
use Rattle.law_jobs.proofs.jobs_keep_their_promise.Goals as goal

pub returns-clause-tries : goal.returns-clause-tries
returns-clause-tries c laws = jobs_keep

pub returns-clause-runs : goal.returns-clause-runs
returns-clause-runs c laws = λ limit gather sync dgram first nothing most program answers turns.
    runs_come limit gather sync dgram first nothing JobsKeep jobs_keep most program answers turns
