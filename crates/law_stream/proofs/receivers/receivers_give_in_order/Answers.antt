use Rattle.law_stream.proofs.ReceiverOrder.{gives_in_order, none_given, none_lost, step_in_order}
use Rattle.law_stream.proofs.receivers.receivers_give_in_order.Goals as goal

pub returns-clause-one : goal.returns-clause-one
returns-clause-one g = step_in_order

pub returns-clause-row : goal.returns-clause-row
returns-clause-row g = gives_in_order

pub returns-clause-none : goal.returns-clause-none
returns-clause-none g = none_given

pub returns-clause-kept : goal.returns-clause-kept
returns-clause-kept g = none_lost
