-- The handles of a turn, as pieces of the machine.
use Rattle.std.specs.Prelude.{◌≡◌, ℕ, Option, Some, None, Result, Ok, Err}
use Rattle.model_value.specs.Action.{Action}
use Rattle.model_value.specs.Input.{Input}
use Rattle.model_says.specs.Says.{step_limit}
use Rattle.model_wire.specs.declared.event.Event.TheVariants as event
use Rattle.model_machine.specs.State.{State, noted}
use Rattle.model_machine.specs.Step.{step}
use Rattle.model_machine.specs.Turn.{effect, run_below}
use Rattle.model_machine.specs.Went.{Went, Stops}
use Rattle.law_reach.specs.Changes.{runner_of}
use Rattle.aio_wire.specs.declared.stop.Stop.{Stop}
use Rattle.aio_extra.specs.Added.{Added}
use Rattle.aio_step.specs.declared.steps.Stepped.{Stepped}
use Rattle.aio_step.specs.declared.steps.Stepped.TheVariants as went
use Rattle.aio_step.specs.Stepping.{HearsMade, IsCalled, TaskSteps}
use Rattle.aio_body.specs.declared.run_state.RunState.{RunState}
use Rattle.aio_body.specs.Asking.{Piece, WentBegins}
use Rattle.aio_body.specs.Stands.{Context, IsBetween}
use Rattle.aio_body.specs.Taken.{IsNext, IsTaken}
use Rattle.aio_core.specs.Turning.{at_bar}

-- from a state, with a bar and how many handles are left before it
abbrev pub running : {X : Type 0} → (a : Added X) → (old new : RunState X) → Piece a (State a.Kept × (ℕ × ℕ)) (Went a.Kept) Stepped
running a old new =
    record {
      from = λ c at. IsBetween c old at.0 × ((c.bar ≡ at.1.0) × (c.left ≡ at.1.1));
      does = λ at. run_below step_limit a.meaning at.1.0 at.1.1 at.0;
      ends = Stops;
      says = λ c went it. TaskSteps (at_bar c) new went it;
      begins = WentBegins;
    }

-- a handle runs
abbrev pub running_one : {X : Type 0} → (a : Added X) → Action → (old new : RunState X) → Piece a (State a.Kept) (Went a.Kept) Stepped
running_one a action old new =
    record {
      from = λ c s. IsNext action c old s;
      does = λ s. effect step_limit a.meaning action (noted (event.Ran action) s);
      ends = Stops;
      says = λ c went it. TaskSteps c new went it;
      begins = WentBegins;
    }

-- and it was noted that it does
abbrev pub acting : {X : Type 0} → (a : Added X) → Action → (old new : RunState X) → Piece a (State a.Kept) (Went a.Kept) Stepped
acting a action old new =
    record {
      from = λ c s. IsTaken action c old s;
      does = effect step_limit a.meaning action;
      ends = Stops;
      says = λ c went it. TaskSteps c new went it;
      begins = WentBegins;
    }

-- one that steps no task goes on, unless it stops the run
abbrev pub goes_as : {R : Type 0} → Result R Stop → Result Stepped Stop
goes_as (Ok said) = Ok went.Goes
goes_as (Err why) = Err why

-- which task it steps, if it does, and with what
abbrev pub StepsBy : {X : Type 0} → (a : Added X) → Action → RunState X → Option (ℕ × Input) → Type 0
StepsBy a action body None = runner_of action ≡ None
StepsBy a action body (Some it) =
    HearsMade it.1 body
    × ((c : Context a) (s : State a.Kept) → IsTaken action c body s
    → IsCalled it.0 c body s × (effect step_limit a.meaning action s ≡ step step_limit a.meaning it.0 it.1 s))
