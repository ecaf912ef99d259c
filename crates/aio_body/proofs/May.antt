-- What is known where there is a state that is stood for.
use Rattle.std.proofs.Common.{◌≡◌, ℕ, Option, Some, None}
use Rattle.std.proofs.Math.Logic.{∥∥₁_elim, ∥∥₁_map}
use Rattle.std.proofs.Props.{props}
use Rattle.model_value.specs.Request.{Request}
use Rattle.aio_extra.specs.Added.{Added}
use Rattle.aio_body.specs.declared.run_state.RunState.{RunState}
use Rattle.aio_body.specs.Asked.{SomeGoes, IsAskingFor, IsGoing}
use Rattle.aio_body.specs.Stands.{Possible}

pub same_prop : (a b : Option ℕ) → IsProp (a ≡ b)
same_prop a b = hlevel props

module _ {X : Type 0} {a : Added X} where
  pub going_of : (task : ℕ) (request : Request) (body : RunState X) → Possible a (IsAskingFor task request) body → Possible a (IsGoing task) body
  going_of task request body m = ∥∥₁_map m (λ w. (w.0, (w.1.0, w.1.1.going)))

  pub some_of : (task : ℕ) (body : RunState X) → Possible a (IsGoing task) body → Possible a SomeGoes body
  some_of task body m = ∥∥₁_map m (λ w. (w.0, (w.1.0, (task, w.1.1))))

  pub idle_of : (task : ℕ) (body : RunState X) → Possible a (IsGoing task) body → body.parts.called ≡ None
  idle_of task body m = ∥∥₁_elim m (same_prop body.parts.called None) (λ w. w.1.1.in_step.called)

  pub running_of : (task : ℕ) (body : RunState X) → Possible a (IsGoing task) body → body.parts.running ≡ Some task
  running_of task body m = ∥∥₁_elim m (same_prop body.parts.running (Some task)) (λ w. w.1.1.in_step.running)

  pub idle_some : (body : RunState X) → Possible a SomeGoes body → body.parts.called ≡ None
  idle_some body m = ∥∥₁_elim m (same_prop body.parts.called None) (λ w. w.1.1.1.in_step.called)
