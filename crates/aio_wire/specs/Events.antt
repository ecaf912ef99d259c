-- Events that are added, and what a call with its reply adds.
use Rattle.std.specs.Prelude.{ℕ, ◌+◌, ◌-◌, ◌^◌, [], ◌∷◌, ◌++◌, min}
use Rattle.model_wire.specs.declared.event.Event.TheVariants as event
use Rattle.model_wire.specs.Event.{Event}
use Rattle.aio_wire.specs.EventList.{EventList}

-- the number of answers after an event: one more after an answer, and no more than its type holds
abbrev pub answers_after : ℕ → Event → ℕ
answers_after answers (event.Called call) = answers
answers_after answers (event.Got answer) = min (answers + 1) (2 ^ 64 - 1)
answers_after answers (event.Ran action) = answers
answers_after answers (event.Said task text) = answers

-- events with one more
abbrev pub pushed : EventList → Event → EventList
pushed list came = record { events = list.events ++ came ∷ []; answers = answers_after list.answers came }
