use Rattle.law_reach.proofs.Turning.{first_turns, pending_turns}
use Rattle.law_runs.proofs.ends.callbacks_end_a_run_so.Goals as goal

pub returns-clause-callback : goal.returns-clause-callback
returns-clause-callback g c = λ limit added handle rest s. (first_turns limit added handle rest s).ends

pub returns-clause-pending : goal.returns-clause-pending
returns-clause-pending g c = λ limit added s. (pending_turns limit added s).ends
