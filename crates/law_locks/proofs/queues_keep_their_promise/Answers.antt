use Rattle.law_locks.specs.Queues.{QueuesKeep}
use Rattle.law_locks.proofs.Runs.{runs_come}
use Rattle.law_locks.proofs.Sizes.{keep_to_sizes}
use Rattle.law_locks.proofs.Values.{hand_on_in_order}
use Rattle.law_locks.proofs.queues_keep_their_promise.Goals as goal

pub returns-clause-tries : goal.returns-clause-tries
returns-clause-tries c laws = λ all. record { in_order = hand_on_in_order all; sizes = keep_to_sizes all }

pub returns-clause-runs : goal.returns-clause-runs
returns-clause-runs c laws = λ limit gather exec dgram first nothing most program answers turns.
    runs_come limit gather exec dgram first nothing QueuesKeep (λ all. record { in_order = hand_on_in_order all; sizes = keep_to_sizes all }) most program
    answers turns
