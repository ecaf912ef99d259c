use Rattle.model_machine.specs.Extra.{no_extra}
use Rattle.model_machine.specs.State.{start}
use Rattle.law_changes.specs.Reaches.{stays}
use Rattle.law_runs.proofs.FirstState.{begins_sound}
use Rattle.law_runs.proofs.Nothing.{names_nothing, nothing_keeps}
use Rattle.law_runs.proofs.Leaving.{ends_in}
use Rattle.law_runs.proofs.ends.every_run_ends_sound.Goals as goal

pub returns-clause-nothing_added : goal.returns-clause-nothing_added
returns-clause-nothing_added g c = λ most program answers turns.
    let begun = start most tt program answers in
    ends_in no_extra nothing_keeps begun turns begun stays (begins_sound no_extra most tt program answers names_nothing)

pub returns-clause-added : goal.returns-clause-added
returns-clause-added g c = λ added keeps most state program answers turns nothing.
    let begun = start most state program answers in
    ends_in added keeps begun turns begun stays (begins_sound added most state program answers nothing)

pub returns-clause-from_any : goal.returns-clause-from_any
returns-clause-from_any g c = λ added keeps s sound turns. ends_in added keeps s turns s stays sound
