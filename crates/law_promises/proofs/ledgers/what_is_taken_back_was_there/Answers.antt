use Rattle.model_machine.specs.Extra.{no_extra}
use Rattle.model_machine.specs.State.{start}
use Rattle.law_runs.proofs.FirstState.{begins_sound}
use Rattle.law_runs.proofs.Nothing.{names_nothing, nothing_keeps}
use Rattle.law_promises.proofs.Turns.{begins_covered, run_in}
use Rattle.law_promises.proofs.ledgers.what_is_taken_back_was_there.Goals as goal

pub returns-clause-nothing_added : goal.returns-clause-nothing_added
returns-clause-nothing_added g c = λ most program answers turns.
    run_in no_extra nothing_keeps turns (start most tt program answers) (begins_sound no_extra most tt program answers names_nothing)
    (begins_covered {S = Unit {0}} most tt program answers)

pub returns-clause-added : goal.returns-clause-added
returns-clause-added g c = λ added keeps most state program answers turns nothing.
    run_in added keeps turns (start most state program answers) (begins_sound added most state program answers nothing)
    (begins_covered most state program answers)
