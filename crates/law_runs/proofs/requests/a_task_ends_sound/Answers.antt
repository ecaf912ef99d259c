use Rattle.law_runs.proofs.Finishing.{returned_free, raised_free, returns_sound, raises_sound}
use Rattle.law_runs.proofs.requests.a_task_ends_sound.Goals as goal

pub returns-clause-returned : goal.returns-clause-returned
returns-clause-returned g c = λ added task s step value says. (returned_free added task s step value says, returns_sound added task s step value says)

pub returns-clause-raised : goal.returns-clause-raised
returns-clause-raised g c = λ added task s step fault says. (raised_free added task s step fault says, raises_sound added task s step fault says)
