-- The answers among what happened in a run.
use Rattle.std.specs.Prelude.{List, [], ◌∷◌}
use Rattle.model_wire.specs.declared.event.Event.TheVariants as event
use Rattle.model_wire.specs.Call.{Answer}
use Rattle.model_wire.specs.Event.{Event}

abbrev pub answers_of : List Event → List Answer
answers_of [] = []
answers_of (event.Called call ∷ events) = answers_of events
answers_of (event.Got answer ∷ events) = answer ∷ answers_of events
answers_of (event.Ran action ∷ events) = answers_of events
answers_of (event.Said task text ∷ events) = answers_of events
