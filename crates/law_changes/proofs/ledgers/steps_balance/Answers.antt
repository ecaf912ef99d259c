use Rattle.law_changes.proofs.Balancing.{request_balances, request_each_balances, uncancel_balances, suspend_balances}
use Rattle.law_changes.proofs.ledgers.steps_balance.Goals as goal

pub returns-clause-request : goal.returns-clause-request
returns-clause-request c = request_balances

pub returns-clause-request_each : goal.returns-clause-request_each
returns-clause-request_each c = request_each_balances

pub returns-clause-uncancel : goal.returns-clause-uncancel
returns-clause-uncancel c = uncancel_balances

pub returns-clause-suspend : goal.returns-clause-suspend
returns-clause-suspend c = suspend_balances
