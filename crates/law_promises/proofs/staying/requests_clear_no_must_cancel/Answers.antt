use Rattle.law_promises.proofs.MustCancelStays.{end_keeps, request_keeps, requests_keep}
use Rattle.law_promises.proofs.staying.requests_clear_no_must_cancel.Goals as goal

pub returns-clause-one : goal.returns-clause-one
returns-clause-one c = λ by id p. request_keeps id p

pub returns-clause-each : goal.returns-clause-each
returns-clause-each c = requests_keep

pub returns-clause-end_of_run : goal.returns-clause-end_of_run
returns-clause-end_of_run c = end_keeps
