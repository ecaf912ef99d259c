-- A handle that was taken from the queue, as it runs.
use Rattle.std.specs.Prelude.{◌≡◌, false, List, ◌∷◌, None}
use Rattle.model_value.specs.Action.{Action}
use Rattle.model_wire.specs.declared.event.Event.TheVariants as event
use Rattle.model_loop.specs.Parts.{Handle}
use Rattle.model_machine.specs.Sound.{IsStateSound}
use Rattle.model_machine.specs.State.{State, noted, unbooked_in}
use Rattle.aio_task.specs.View.{stepped}
use Rattle.aio_extra.specs.Added.{Added}
use Rattle.aio_body.specs.declared.run_state.RunState.{RunState}
use Rattle.aio_body.specs.Stands.{Context, Stands}

-- A handle was taken from the queue and is about to run.
pub record IsNext {X : Type 0} {a : Added X} (action : Action) (c : Context a) (body : RunState X) (s : State a.Kept) : Type 0 where
  pub before : State a.Kept
  pub handle : Handle
  pub rest : List Handle
  pub pending : before.loop.parts.pending ≡ handle ∷ rest
  pub live : handle.dead ≡ false
  pub runs : handle.action ≡ action
  pub sound : IsStateSound a.meaning before
  pub after : s ≡ unbooked_in (λ p. record p { pending = rest }) before
  pub stands : Stands None c body s
  pub called : body.parts.called ≡ stepped action
  pub running : body.parts.running ≡ None

-- It was noted that it runs.
pub record IsTaken {X : Type 0} {a : Added X} (action : Action) (c : Context a) (body : RunState X) (s : State a.Kept) : Type 0 where
  pub before : State a.Kept
  pub handle : Handle
  pub rest : List Handle
  pub pending : before.loop.parts.pending ≡ handle ∷ rest
  pub live : handle.dead ≡ false
  pub runs : handle.action ≡ action
  pub sound : IsStateSound a.meaning before
  pub after : s ≡ noted (event.Ran action) (unbooked_in (λ p. record p { pending = rest }) before)
  pub stands : Stands None c body s
  pub called : body.parts.called ≡ stepped action
  pub running : body.parts.running ≡ None

-- after a callback that steps no task
pub record IsAfterCallback {X : Type 0} {a : Added X} (c : Context a) (body : RunState X) (s : State a.Kept) : Type 0 where
  pub stands : Stands None c body s
  pub called : body.parts.called ≡ None
  pub running : body.parts.running ≡ None
