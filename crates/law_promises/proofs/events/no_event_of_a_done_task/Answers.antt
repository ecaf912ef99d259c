use Rattle.law_promises.proofs.DoneTurns.{first_leaves, turn_leaves, run_leaves}
use Rattle.law_promises.proofs.events.no_event_of_a_done_task.Goals as goal

pub returns-clause-callback : goal.returns-clause-callback
returns-clause-callback g c = λ added s handle rest first sound. first_leaves added s handle rest first sound

pub returns-clause-turn : goal.returns-clause-turn
returns-clause-turn g c = λ added keeps s sound. turn_leaves added keeps s sound

pub returns-clause-run : goal.returns-clause-run
returns-clause-run g c = λ added keeps allowed left s sound task is. run_leaves added keeps allowed left s sound task is
