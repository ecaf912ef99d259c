use Rattle.law_stream.proofs.SoundReceivers.{receivers_keep, step_keeps}
use Rattle.law_stream.proofs.receivers.operations_keep_receivers.Goals as goal

pub returns-clause-one : goal.returns-clause-one
returns-clause-one g = step_keeps

pub returns-clause-row : goal.returns-clause-row
returns-clause-row g = receivers_keep
