-- Which callbacks are a child's. None of a listener or a connection is.
use Rattle.std.specs.Prelude.{Bool, true, false}
use Rattle.model_value.specs.declared.action.Action.TheVariants as action
use Rattle.model_value.specs.Action.{Action}

abbrev pub is_of_child : Action → Bool
is_of_child (action.WritableChild child) = true
is_of_child (action.ChildItem child item) = true
is_of_child (action.LostChild child broken) = true
is_of_child (action.Step task) = false
is_of_child (action.StepInCycle task cycle) = false
is_of_child (action.Wakeup task) = false
is_of_child (action.SleepDone task future) = false
is_of_child (action.GroupDone group task) = false
is_of_child (action.Fires timeout) = false
is_of_child action.MainDone = false
is_of_child (action.Made conn) = false
is_of_child (action.StartRead conn) = false
is_of_child (action.Lost conn broken) = false
is_of_child (action.HandlerDone conn task) = false
is_of_child (action.ReadableServer server) = false
is_of_child (action.Readable conn) = false
is_of_child (action.Writable conn) = false
is_of_child (action.Up conn) = false
is_of_child (action.Down conn) = false
is_of_child (action.ExtraItem code bytes) = false
is_of_child (action.Extra key) = false
