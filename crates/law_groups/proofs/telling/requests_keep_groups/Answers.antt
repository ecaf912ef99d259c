use Rattle.law_groups.proofs.Holding.{cancel_holds, request_each_holds, settle_holds}
use Rattle.law_groups.proofs.telling.requests_keep_groups.Goals as goal

pub returns-clause-one : goal.returns-clause-one
returns-clause-one c = cancel_holds

pub returns-clause-each : goal.returns-clause-each
returns-clause-each c = request_each_holds

pub returns-clause-settle : goal.returns-clause-settle
returns-clause-settle c = settle_holds
