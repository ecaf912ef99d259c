-- Events in which each answer comes right after its call.
use Rattle.std.specs.Prelude.{◌≡◌, Bool, true, false, ◌&&◌, List, [], ◌∷◌}
use Rattle.model_wire.specs.declared.event.Event.TheVariants as event
use Rattle.model_wire.specs.Event.{Event}

-- `asked`: the event before them is a call
abbrev pub answers_follow : (asked : Bool) → List Event → Bool
answers_follow asked [] = true
answers_follow asked (event.Called call ∷ events) = answers_follow true events
answers_follow asked (event.Got answer ∷ events) = asked && answers_follow false events
answers_follow asked (event.Ran action ∷ events) = answers_follow false events
answers_follow asked (event.Said task text ∷ events) = answers_follow false events

abbrev pub AnswersFollow : List Event → Type 0
AnswersFollow events = answers_follow false events ≡ true
