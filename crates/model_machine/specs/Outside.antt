-- What a turn asks the outside, and what it takes from the answer. Source: `base_events.py`, `_run_once`, `_process_events`.
use Rattle.std.specs.Prelude.{ℕ, Bool, List, [], ◌∷◌, ◌++◌, Option}
use Rattle.std.specs.List.{flat_map}
use Rattle.model_value.specs.declared.action.Action.TheVariants as action
use Rattle.model_value.specs.Action.{Action}
use Rattle.model_wire.specs.declared.answer.Answer.TheVariants as answer
use Rattle.model_wire.specs.declared.call.Call.TheVariants as call
use Rattle.model_wire.specs.declared.item.Item.TheVariants as item
use Rattle.model_wire.specs.declared.item.Readiness.{Readiness}
use Rattle.model_wire.specs.declared.item.Readiness.TheVariants as ready
use Rattle.model_wire.specs.declared.watch.Watch.{Watch}
use Rattle.model_wire.specs.declared.watch.Watch.TheVariants as watch
use Rattle.model_wire.specs.Call.{Call, Answer, Item}
use Rattle.model_stream.specs.Streams.{Streams}
use Rattle.model_stream.specs.Watching.{entry_if, watch_list}

-- what is watched: listeners, connections and children in order of opening, and then what is added, where it watches
abbrev pub watched : Streams → (added : Bool) → List Watch
watched streams added = watch_list streams ++ entry_if added watch.Extra

abbrev pub select : Option ℕ → List Watch → Call
select wait watched = call.Select wait watched

abbrev pub items_of : Answer → List Item
items_of (answer.Turn now items) = items
items_of _ = []

-- a turn's answer is a time; any other doesn't fit, and would leave the time as it is
abbrev pub time_of : Answer → ℕ
time_of (answer.Turn now items) = now
time_of _ = 0

-- reading stands before writing
abbrev pub ready_actions : (conn : ℕ) → Readiness → List Action
ready_actions conn ready.Read = action.Readable conn ∷ []
ready_actions conn ready.Write = action.Writable conn ∷ []
ready_actions conn ready.Both = action.Readable conn ∷ action.Writable conn ∷ []

abbrev pub actions_of : Item → List Action
actions_of (item.ReadableServer server) = action.ReadableServer server ∷ []
actions_of (item.Ready conn letters) = ready_actions conn letters
actions_of (item.Up conn) = action.Up conn ∷ []
actions_of (item.Down conn) = action.Down conn ∷ []
actions_of (item.WritableChild child) = action.WritableChild child ∷ []
actions_of (item.Child child told) = action.ChildItem child told ∷ []
actions_of (item.Extra code bytes) = action.ExtraItem code bytes ∷ []

-- the callbacks of an answer's items, in order
abbrev pub news_of : Answer → List Action
news_of it = flat_map actions_of (items_of it)
