use Rattle.law_stream.proofs.SoundReceivers.{told_once}
use Rattle.law_stream.proofs.receivers.a_waiter_is_woken_once.Goals as goal

pub returns : goal.returns
returns g = told_once
