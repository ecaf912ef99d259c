-- The parts as tasks see them: what steps no task might as well be anything else.
use Rattle.std.specs.Prelude.{map}
use Rattle.model_value.specs.Action.{Action}
use Rattle.model_value.specs.declared.action.Action.TheVariants.{Step, StepInCycle, Wakeup, MainDone}
use Rattle.model_loop.specs.Parts.{Handle, Future, Parts}
use Rattle.model_loop.specs.Cancel.{CancelRequest}

abbrev pub bare_action : Action → Action
bare_action (Step task) = Step task
bare_action (StepInCycle task cycle) = StepInCycle task cycle
bare_action (Wakeup task) = Wakeup task
bare_action _ = MainDone

abbrev pub bare_handle : Handle → Handle
bare_handle handle = record handle { action = bare_action handle.action }

abbrev pub bare_future : Future → Future
bare_future future = record future { callbacks = map bare_action future.callbacks }

abbrev pub bare : Parts → Parts
bare p = record p { pending = map bare_handle p.pending; futures = map bare_future p.futures }

abbrev pub bare_of : CancelRequest → CancelRequest
bare_of r = record r { parts = bare r.parts }
