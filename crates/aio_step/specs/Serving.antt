-- What one answer of a coroutine leads to, whatever comes after it.
use Rattle.std.specs.Prelude.{◌≡◌, ℕ, ◌<◌, false, Bool, List, ◌++◌, length}
use Rattle.model_value.specs.Input.{Input}
use Rattle.model_says.specs.Says.{step_limit}
use Rattle.model_wire.specs.declared.event.End.TheVariants as end
use Rattle.model_wire.specs.Event.{Event}
use Rattle.model_wire.specs.Trace.{End}
use Rattle.model_machine.specs.Extra.{Extra}
use Rattle.model_machine.specs.Sound.{IsStateSound}
use Rattle.model_machine.specs.State.{State, resumed}
use Rattle.model_machine.specs.Step.{says_of, served}
use Rattle.model_machine.specs.Went.{Went, Goes, Stops}
use Rattle.aio_gen.specs.declared.generator.Gen.{Gen}
use Rattle.aio_extra.specs.Added.{Added}
use Rattle.aio_body.specs.declared.run_state.RunState.{RunState}
use Rattle.model_value.specs.declared.input.Input.TheVariants.{Send, Throw}
use Rattle.aio_body.specs.declared.reply.RequestReply.{RequestReply}
use Rattle.aio_body.specs.declared.reply.RequestReply.TheVariants as said
use Rattle.aio_body.specs.Asked.{HasSuspended}
use Rattle.aio_body.specs.Asking.{Piece, WentBegins}
use Rattle.aio_body.specs.Stands.{Context, IsBetween, holding}
use Rattle.aio_step.specs.declared.steps.Served.{Served}
use Rattle.aio_step.specs.declared.steps.Served.TheVariants.{Answered, Suspends, Ended}
use Rattle.aio_step.specs.declared.steps.Stepped.TheVariants as went
use Rattle.aio_step.specs.Stepping.{IsServing}

-- what a machine makes of what comes after
abbrev pub Onward : Type 0 → Type 0
Onward S = (State S → Went S) → Went S

pub record GoesOnWith {X : Type 0} {a : Added X} (task : ℕ) (next : Input) (c : Context a) (body : RunState X) (coroutine : Gen)
    (machine : Onward a.Kept) : Type 0 where
  pub now : State a.Kept
  pub serving : IsServing task false next coroutine c body now
  pub goes : (go_on : State a.Kept → Went a.Kept) → machine go_on ≡ go_on (resumed false task next now)

pub record SuspendsAt {X : Type 0} {a : Added X} (task : ℕ) (c : Context a) (body : RunState X) (coroutine : Gen) (machine : Onward a.Kept) : Type 0 where
  pub now : State a.Kept
  pub suspended : HasSuspended task (holding coroutine c) body now
  pub made : task < length now.generators
  pub sound : IsStateSound a.meaning now
  pub goes : (go_on : State a.Kept → Went a.Kept) → machine go_on ≡ Goes now

pub record EndsAt {X : Type 0} {a : Added X} (c : Context a) (body : RunState X) (machine : Onward a.Kept) : Type 0 where
  pub now : State a.Kept
  pub between : IsBetween c body now
  pub goes : (go_on : State a.Kept → Went a.Kept) → machine go_on ≡ Goes now

pub record RunsAway {X : Type 0} {a : Added X} (task : ℕ) (c : Context a) (body : RunState X) (machine : Onward a.Kept) : Type 0 where
  pub last : State a.Kept
  pub told : last.events ≡ c.past ++ body.events.events
  pub goes : (go_on : State a.Kept → Went a.Kept) → machine go_on ≡ Stops (end.Runaway task) last

abbrev pub LeadsOn : {X : Type 0} {a : Added X} → ℕ → Context a → RunState X → Gen → Served → Onward a.Kept → Type 0
LeadsOn task c body coroutine (Answered next) machine = GoesOnWith task next c body coroutine machine
LeadsOn task c body coroutine Suspends machine = SuspendsAt task c body coroutine machine
LeadsOn task c body coroutine (Ended went.Goes) machine = EndsAt c body machine
LeadsOn task c body coroutine (Ended (went.Runaway other)) machine = (other ≡ task) × RunsAway task c body machine

-- what the coroutine says as it was resumed is served
abbrev pub serves_once : {S : Type 0} → Extra S → ℕ → State S → Onward S
serves_once added task s go_on = served step_limit added (says_of step_limit added task s) task go_on s

abbrev pub halted : {S : Type 0} → End → State S → Onward S
halted how last go_on = Stops how last

-- with these events begins what is left, whatever comes after, as that only adds events
abbrev pub OnwardBegins : {S : Type 0} → List Event → Onward S → Type 0
OnwardBegins {S} events machine =
    (go_on : State S → Went S) → ((s : State S) → WentBegins s.events (go_on s)) → WentBegins events (machine go_on)

abbrev pub serving_once : {X : Type 0} → (a : Added X) → (task : ℕ) (fresh : Bool) (input : Input) (coroutine after : Gen) (old new : RunState X)
    → Piece a (State a.Kept) (Onward a.Kept) Served
serving_once a task fresh input coroutine after old new =
    record {
      from = λ c s. IsServing task fresh input coroutine c old s;
      does = λ s. serves_once a.meaning task (resumed fresh task input s);
      ends = halted;
      says = λ c said machine. LeadsOn task c new after said machine;
      begins = OnwardBegins;
    }

-- what an answer is to the step
abbrev pub served_of : RequestReply → Served
served_of (said.Answers value) = Answered (Send value)
served_of (said.Raises fault) = Answered (Throw fault)
served_of said.Suspends = Suspends
