-- Asks among other things: a task prints and a handle runs between two of them. What they did to the wire alone, and which events
-- tell of them.
use Rattle.std.specs.Prelude.{◌≡◌, List, [], ◌∷◌, ◌++◌}
use Rattle.model_wire.specs.declared.event.Event.TheVariants as event
use Rattle.model_wire.specs.Call.{Call}
use Rattle.model_wire.specs.Event.{Event}
use Rattle.aio_wire.specs.EventList.{EventList}
use Rattle.aio_wire.specs.Outside.{Outside}
use Rattle.aio_wire.specs.Port.{events_after, ported}
use Rattle.aio_wire.specs.declared.wire.Reply.{Reply}
use Rattle.aio_wire.specs.declared.wire.Reply.TheVariants as reply
use Rattle.aio_exchange.specs.Exchanged.{Exchange, Exchanged, Last, All, Met, Starved, noted_by}

-- ---- the wire
abbrev pub no_events : EventList
no_events = record { events = []; answers = 0 }

abbrev pub noted_last : Last → EventList → EventList
noted_last All events = events
noted_last (Met call said) events = events_after events call said
noted_last Starved events = events

-- What they did to the wire, whatever was noted before them and among them: as if nothing else was noted.
abbrev pub ExchangedOn : {W : Type 0} → Outside W → List Exchange → Last → (old new : W) → Type 0
ExchangedOn o had last old new = Exchanged o had last (ported old no_events) (ported new (noted_last last (noted_by had no_events)))

-- ---- the events
-- the events of a call that had its answer, and of the last one
abbrev pub told_by : List Exchange → List Event
told_by [] = []
told_by (it ∷ had) = event.Called it.call ∷ event.Got it.answer ∷ told_by had

abbrev pub told_of : Call → Reply → List Event
told_of call (reply.Got answer) = event.Called call ∷ event.Got answer ∷ []
told_of call reply.Over = event.Called call ∷ []
told_of call (reply.Bad fault) = event.Called call ∷ []
told_of call reply.Failed = event.Called call ∷ []

abbrev pub told_last : Last → List Event
told_last All = []
told_last (Met call said) = told_of call said
told_last Starved = []

-- the events that tell of asks
abbrev pub asks_among : List Event → List Event
asks_among [] = []
asks_among (event.Called call ∷ events) = event.Called call ∷ asks_among events
asks_among (event.Got answer ∷ events) = event.Got answer ∷ asks_among events
asks_among (event.Ran action ∷ events) = asks_among events
asks_among (event.Said task text ∷ events) = asks_among events

-- Events were added, and these tell of no ask but those.
pub record AreTold (had : List Exchange) (last : Last) (old new : List Event) : Type 0 where
  pub more : List Event
  pub adds : new ≡ old ++ more
  pub tells : asks_among more ≡ told_by had ++ told_last last
