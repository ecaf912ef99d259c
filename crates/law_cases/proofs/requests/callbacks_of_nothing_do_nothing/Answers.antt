use Rattle.law_cases.proofs.Closed.{effect_none}
use Rattle.law_cases.proofs.requests.callbacks_of_nothing_do_nothing.Goals as goal

pub returns : goal.returns
returns g c = λ limit added s it closed is. effect_none s closed limit added it is
