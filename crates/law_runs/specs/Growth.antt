-- Lists of events that only grow, and the turns in them.
use Rattle.std.specs.Prelude.{◌≡◌, ℕ, suc, if◌then◌else◌, List, [], ◌∷◌, ◌++◌}
use Rattle.model_wire.specs.declared.event.Event.TheVariants as event
use Rattle.model_wire.specs.Event.{Event}
use Rattle.law_cases.specs.Trees.{is_select}

-- events go on with more
abbrev pub EventsGrow : List Event → List Event → Type 0
EventsGrow old new = (more : List Event) × (new ≡ old ++ more)

-- how many turns began: each selects first, and nothing else does
abbrev pub turns_in : List Event → ℕ
turns_in [] = 0
turns_in (event.Called call ∷ events) = if is_select call then suc (turns_in events) else turns_in events
turns_in (event.Got answer ∷ events) = turns_in events
turns_in (event.Ran action ∷ events) = turns_in events
turns_in (event.Said task text ∷ events) = turns_in events
