use Rattle.model_machine.specs.Turn.{effect}
use Rattle.law_cases.proofs.Going.{effect_is}
use Rattle.law_replies.proofs.Handling.{goes_in}
use Rattle.law_replies.proofs.answers.callbacks_of_streams_keep_it_sound.Goals as goal

pub returns : goal.returns
returns g c = λ limit added s sound it is. goes_in added s sound (effect limit added it s) (effect_is s sound.streams limit added it is)
