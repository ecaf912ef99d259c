-- What a callback of a listener, a connection or a child comes to.
use Rattle.std.specs.Prelude.{Bool, true, false, Result, OnOk}
use Rattle.model_value.specs.declared.action.Action.TheVariants as action
use Rattle.model_value.specs.Action.{Action}
use Rattle.model_says.specs.Says.{step_limit}
use Rattle.model_loop.specs.Parts.{Parts}
use Rattle.model_machine.specs.State.{State}
use Rattle.model_machine.specs.Turn.{effect, has_returned}
use Rattle.model_machine.specs.Went.{Went, Goes, Stops}
use Rattle.aio_base.specs.declared.memory.Memory.{Memory}
use Rattle.aio_extra.specs.Added.{Added}
use Rattle.aio_body.specs.declared.run_state.RunState.{RunState}
use Rattle.aio_body.specs.Asking.{Piece, WentBegins}
use Rattle.aio_body.specs.Stands.{Context}
use Rattle.aio_body.specs.Taken.{IsTaken, IsAfterCallback}

-- the run goes on
abbrev pub CallbackGoesOn : {X : Type 0} {a : Added X} → Context a → RunState X → Went a.Kept → Type 0
CallbackGoesOn c body (Goes now) = IsAfterCallback c body now
CallbackGoesOn c body (Stops end last) = ⊥

abbrev pub acting : {X R : Type 0} → (a : Added X) → Action → (old new : RunState X) → Piece a (State a.Kept) (Went a.Kept) R
acting a it old new =
    record {
      from = λ c s. IsTaken it c old s;
      does = effect step_limit a.meaning it;
      ends = Stops;
      says = λ c said machine. CallbackGoesOn c new machine;
      begins = WentBegins;
    }

-- of one that asks nothing
abbrev pub Acts : {X R : Type 0} → (a : Added X) → Action → (old new : RunState X) → Result R Memory → Type 0
Acts a it old new result =
    OnOk result ((c : Context a) (s : State a.Kept) → IsTaken it c old s → CallbackGoesOn c new (effect step_limit a.meaning it s))

-- which callbacks are of listeners, connections and children, but that a connection was made
abbrev pub is_of_streams : Action → Bool
is_of_streams (action.StartRead conn) = true
is_of_streams (action.Lost conn broken) = true
is_of_streams (action.HandlerDone conn task) = true
is_of_streams (action.ReadableServer server) = true
is_of_streams (action.Readable conn) = true
is_of_streams (action.Writable conn) = true
is_of_streams (action.Up conn) = true
is_of_streams (action.Down conn) = true
is_of_streams (action.WritableChild child) = true
is_of_streams (action.ChildItem child told) = true
is_of_streams (action.LostChild child broken) = true
is_of_streams (action.Made conn) = false
is_of_streams (action.Step task) = false
is_of_streams (action.StepInCycle task cycle) = false
is_of_streams (action.Wakeup task) = false
is_of_streams (action.SleepDone task future) = false
is_of_streams (action.GroupDone group task) = false
is_of_streams (action.Fires timeout) = false
is_of_streams action.MainDone = false
is_of_streams (action.ExtraItem code bytes) = false
is_of_streams (action.Extra key) = false

-- what a callback goes by: of a handler that is done, whether its task neither failed nor was cancelled
abbrev pub returned_in : Parts → Action → Bool
returned_in p (action.HandlerDone conn task) = has_returned p task
returned_in p (action.StartRead conn) = true
returned_in p (action.Lost conn broken) = true
returned_in p (action.ReadableServer server) = true
returned_in p (action.Readable conn) = true
returned_in p (action.Writable conn) = true
returned_in p (action.Up conn) = true
returned_in p (action.Down conn) = true
returned_in p (action.WritableChild child) = true
returned_in p (action.ChildItem child told) = true
returned_in p (action.LostChild child broken) = true
returned_in p (action.Made conn) = true
returned_in p (action.Step task) = true
returned_in p (action.StepInCycle task cycle) = true
returned_in p (action.Wakeup task) = true
returned_in p (action.SleepDone task future) = true
returned_in p (action.GroupDone group task) = true
returned_in p (action.Fires timeout) = true
returned_in p action.MainDone = true
returned_in p (action.ExtraItem code bytes) = true
returned_in p (action.Extra key) = true
