use Rattle.law_jobs.proofs.Own.{own_jobs}
use Rattle.law_jobs.proofs.each_request_answers_its_own_job.Goals as goal

pub returns : goal.returns
returns c = own_jobs
