use Rattle.law_stream.proofs.ChildOrder.{children_keep, step_keeps}
use Rattle.law_stream.proofs.children.children_keep_order.Goals as goal

pub returns-clause-one : goal.returns-clause-one
returns-clause-one g = step_keeps

pub returns-clause-row : goal.returns-clause-row
returns-clause-row g = children_keep
