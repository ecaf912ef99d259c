-- A request of the task whose step goes on, and what it comes to.
use Rattle.std.specs.Prelude.{◌≡◌, ℕ, Some, None, Result, IfOk}
use Rattle.model_value.specs.Request.{Request}
use Rattle.model_says.specs.Endings.{Asks}
use Rattle.model_says.specs.Says.{step_limit}
use Rattle.model_machine.specs.Replies as plain
use Rattle.model_machine.specs.Replies.{reply}
use Rattle.model_machine.specs.Sound.{IsLeft, IsOpenedAt}
use Rattle.model_machine.specs.State as resume_point
use Rattle.model_machine.specs.State.{State}
use Rattle.model_machine.specs.Step.{says_of}
use Rattle.aio_base.specs.declared.memory.Memory.{Memory}
use Rattle.aio_extra.specs.Added.{Added}
use Rattle.aio_body.specs.declared.run_state.RunState.{RunState}
use Rattle.aio_body.specs.declared.reply.RequestReply.{RequestReply}
use Rattle.aio_body.specs.declared.reply.RequestReply.TheVariants.{Answers, Raises, Suspends}
use Rattle.aio_body.specs.Stands.{Context, Stands}
use Rattle.law_replies.specs.InStep.{IsAsked, IsStepSound}

-- a task's step goes on, and its coroutine is taken out
pub record IsInStep {X : Type 0} {a : Added X} (task : ℕ) (c : Context a) (body : RunState X) (s : State a.Kept) : Type 0 where
  pub stands : Stands (Some task) c body s
  pub called : body.parts.called ≡ None
  pub running : body.parts.running ≡ Some task

-- its step has ended, and its coroutine isn't put back yet
pub record HasSuspended {X : Type 0} {a : Added X} (task : ℕ) (c : Context a) (body : RunState X) (s : State a.Kept) : Type 0 where
  pub stands : Stands (Some task) c body s
  pub called : body.parts.called ≡ None
  pub running : body.parts.running ≡ None

-- the step goes on, and the state is sound
pub record IsGoing {X : Type 0} {a : Added X} (task : ℕ) (c : Context a) (body : RunState X) (s : State a.Kept) : Type 0 where
  pub in_step : IsInStep task c body s
  pub sound : IsStepSound a.meaning task s

-- and the task's coroutine asks this
pub record IsAskingFor {X : Type 0} {a : Added X} (task : ℕ) (request : Request) (c : Context a) (body : RunState X) (s : State a.Kept) : Type 0 where
  pub going : IsGoing task c body s
  pub says : says_of step_limit a.meaning task s ≡ Asks request

-- A step has begun: the request at which the task stood decides what the input means.
pub record IsDeciding {X : Type 0} {a : Added X} (task : ℕ) (stood : resume_point.ResumePoint) (c : Context a) (body : RunState X) (s : State a.Kept) : Type 0
  where
    pub in_step : IsInStep task c body s
    pub request : Request
    pub asked : IsAsked a.meaning task stood request s
    -- the group at whose exit the task stood goes on being left
    pub leaving : (id : ℕ) → stood ≡ resume_point.Leaving id → IsLeft s id
    -- what it stood at was opened
    pub opened : IsOpenedAt s.streams stood

-- a step of some task goes on
abbrev pub SomeGoes : {X : Type 0} {a : Added X} → Context a → RunState X → State a.Kept → Type 0
SomeGoes c body s = (task : ℕ) × IsGoing task c body s

-- what came of a request, and the state that is stood for then
abbrev pub Says : {X : Type 0} {a : Added X} → ℕ → Context a → RunState X → RequestReply → plain.RequestReply a.Kept → Type 0
Says task c body (Answers value) (plain.Answers said now) = (value ≡ said) × IsInStep task c body now
Says task c body (Raises fault) (plain.Raises said now) = (fault ≡ said) × IsInStep task c body now
Says task c body Suspends (plain.Suspends now) = HasSuspended task c body now
Says task c body _ _ = ⊥

-- A call comes to what the machine's reply is, whatever the state that was stood for.
abbrev pub Replies : {X : Type 0} → (a : Added X) → ℕ → (State a.Kept → plain.RequestReply a.Kept) → (old new : RunState X) → Result RequestReply Memory
    → Type 0
Replies a task machine old new result =
    IfOk result (λ said. (c : Context a) (s : State a.Kept) → IsGoing task c old s → Says task c new said (machine s))

-- It serves a request that was asked as the table of requests says.
abbrev pub Serves : {X : Type 0} → Added X → ℕ → Request → (old new : RunState X) → Result RequestReply Memory → Type 0
Serves a task request old new result =
    IfOk result (λ said. (c : Context a) (s : State a.Kept) → IsAskingFor task request c old s
    → Says task c new said (reply a.meaning task request s))
