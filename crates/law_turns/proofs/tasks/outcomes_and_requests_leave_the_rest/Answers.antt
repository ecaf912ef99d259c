use Rattle.law_turns.proofs.Parts.{settle_after}
use Rattle.law_turns.proofs.Requests.{cancel_after, each_after}
use Rattle.law_turns.proofs.tasks.outcomes_and_requests_leave_the_rest.Goals as goal

pub returns-clause-settle : goal.returns-clause-settle
returns-clause-settle c = settle_after

pub returns-clause-cancel : goal.returns-clause-cancel
returns-clause-cancel c = cancel_after

pub returns-clause-each : goal.returns-clause-each
returns-clause-each c = each_after
