-- A step of a task, piece by piece.
use Rattle.std.specs.Prelude.{◌≡◌, ℕ, true, false, Bool, List, ◌∷◌, ◌++◌, Some, None}
use Rattle.model_value.specs.Input.{Input}
use Rattle.model_wire.specs.declared.event.End.TheVariants as end
use Rattle.model_wire.specs.declared.event.Event.TheVariants as event
use Rattle.model_loop.specs.Parts.{Handle}
use Rattle.model_loop.specs.Tasks.{Begun, begin_step}
use Rattle.model_loop.specs.Ways.{steps}
use Rattle.model_machine.specs.Sound.{IsStateSound, sends_made}
use Rattle.model_machine.specs.State as plain
use Rattle.model_machine.specs.State.{State, generator_of, noted, resumed, stands, unbooked_in}
use Rattle.model_says.specs.Says.{step_limit}
use Rattle.model_machine.specs.Replies as reply
use Rattle.model_machine.specs.Replies.{decides}
use Rattle.model_machine.specs.Step.{given_up, serve_all, step}
use Rattle.model_machine.specs.Went.{Went, Goes, Stops}
use Rattle.aio_gen.specs.declared.generator.Gen.{Gen}
use Rattle.aio_body.specs.Readers.{reader_as}
use Rattle.aio_extra.specs.Added.{Added}
use Rattle.aio_body.specs.declared.run_state.RunState.{RunState}
use Rattle.aio_body.specs.declared.resume_point.ResumePoint.{ResumePoint}
use Rattle.aio_body.specs.declared.resume_point.ResumePoint.TheVariants as resume_point
use Rattle.aio_step.specs.declared.steps.Started.{Started}
use Rattle.aio_step.specs.declared.steps.Stepped as stepped
use Rattle.aio_step.specs.declared.steps.Stepped.TheVariants as went
use Rattle.aio_body.specs.declared.reply.RequestReply.{RequestReply}
use Rattle.aio_body.specs.Asked.{IsInStep, IsDeciding, Says}
use Rattle.aio_body.specs.Asking.{Piece, ReplyBegins, WentBegins}
use Rattle.aio_body.specs.Ids.{ids_in}
use Rattle.aio_body.specs.Stands.{Context, Stands, IsBetween, holding}
use Rattle.law_replies.specs.InStep.{IsStepSound}

-- ---- what a step comes to
-- it goes on, or the task ran away and what happened is told
abbrev pub TaskSteps : {X : Type 0} {a : Added X} → Context a → RunState X → stepped.Stepped → Went a.Kept → Type 0
TaskSteps c body went.Goes (Goes now) = IsBetween c body now
TaskSteps c body (went.Runaway task) (Stops it last) =
    (it ≡ end.Runaway task) × (last.events ≡ c.past ++ body.events.events)
TaskSteps c body _ _ = ⊥

-- ---- how it begins
-- The task's handle was taken from the queue, and it was noted that it runs; the step hasn't begun.
pub record IsCalled {X : Type 0} {a : Added X} (task : ℕ) (c : Context a) (body : RunState X) (s : State a.Kept) : Type 0 where
  pub before : State a.Kept
  pub handle : Handle
  pub rest : List Handle
  pub pending : before.loop.parts.pending ≡ handle ∷ rest
  pub live : handle.dead ≡ false
  pub steps : steps task handle.action ≡ true
  pub sound : IsStateSound a.meaning before
  pub after : s ≡ noted (event.Ran handle.action) (unbooked_in (λ p. record p { pending = rest }) before)
  pub stands : Stands None c body s
  pub called : body.parts.called ≡ Some task
  pub running : body.parts.running ≡ None

-- what an input names was made
abbrev pub HearsMade : {X : Type 0} → Input → RunState X → Type 0
HearsMade input body = sends_made (ids_in body) input ≡ true

-- the machine's step, as it has begun
abbrev pub begun_by : {S : Type 0} → ℕ → Input → State S → Begun
begun_by task input s = begin_step task input (given_up (generator_of task s).resume_point s.loop.parts)

abbrev pub begun_in : {S : Type 0} → ℕ → Input → State S → State S
begun_in task input s = stands plain.Asked task (unbooked_in (λ p. (begun_by task input s).parts) s)

-- what a step begins at decides the same in code
abbrev pub DecidesAs : ResumePoint → plain.ResumePoint → Type 0
DecidesAs resume_point.Asked plain.Asked = Unit {0}
DecidesAs (resume_point.Sleeping timer future) (plain.Sleeping tag) = Unit {0}
DecidesAs (resume_point.Leaving group) (plain.Leaving id) = group ≡ id
DecidesAs (resume_point.Serving key) (plain.Serving kept) = key ≡ kept
DecidesAs (resume_point.Connecting conn future) (plain.Connecting id) = conn ≡ id
DecidesAs (resume_point.Yielding whom) (plain.Yielding drained) = whom ≡ drained
DecidesAs (resume_point.Reading from op on) (plain.Reading source asked future) =
    (reader_as from ≡ source) × (op ≡ asked) × (on ≡ future)
DecidesAs (resume_point.ReadingAll from taken on) (plain.ReadingAll source had future) =
    (reader_as from ≡ source) × (taken ≡ had) × (on ≡ future)
DecidesAs _ _ = ⊥

abbrev pub IsDecidingAs : {X : Type 0} {a : Added X} → ℕ → ResumePoint → Context a → RunState X → State a.Kept → Type 0
IsDecidingAs task code c body s = (stood : plain.ResumePoint) × (DecidesAs code stood × IsDeciding task stood c body s)

pub record HasBegun {X : Type 0} {a : Added X} (task : ℕ) (input : Input) (c : Context a) (s : State a.Kept) (started : Started)
    (body : RunState X) : Type 0 where
  pub deciding : IsDeciding task (generator_of task s).resume_point (holding started.coroutine c) body (begun_in task input s)
  pub heard : started.input ≡ (begun_by task input s).input
  pub decides : DecidesAs started.resume_point (generator_of task s).resume_point

-- ---- how it goes on
-- the coroutine is to be resumed with this
pub record IsServing {X : Type 0} {a : Added X} (task : ℕ) (fresh : Bool) (input : Input) (coroutine : Gen) (c : Context a)
    (body : RunState X) (s : State a.Kept) : Type 0 where
  pub in_step : IsInStep task (holding coroutine c) body s
  pub sound : IsStepSound a.meaning task (resumed fresh task input s)

-- ---- as pieces of the machine
abbrev pub stepping : {X : Type 0} → (a : Added X) → ℕ → Input → (old new : RunState X) → Piece a (State a.Kept) (Went a.Kept) stepped.Stepped
stepping a task input old new =
    record {
      from = λ c s. IsCalled task c old s;
      does = step step_limit a.meaning task input;
      ends = Stops;
      says = λ c went it. TaskSteps c new went it;
      begins = WentBegins;
    }

-- from a state, and the request at which the task stood
abbrev pub deciding : {X : Type 0} → (a : Added X) → ℕ → ResumePoint → Input → (old new : RunState X)
    → Piece a (State a.Kept × plain.ResumePoint) (reply.RequestReply a.Kept) RequestReply
deciding a task code input old new =
    record {
      from = λ c at. IsDeciding task at.1 c old at.0 × DecidesAs code at.1;
      does = λ at. decides a.meaning at.1 task input at.0;
      ends = reply.Halts;
      says = λ c said it. Says task c new said it;
      begins = ReplyBegins;
    }

abbrev pub serving_on : {X : Type 0} → (a : Added X) → ℕ → Input → Gen → (old new : RunState X) → Piece a (State a.Kept) (Went a.Kept) stepped.Stepped
serving_on a task input coroutine old new =
    record {
      from = λ c s. IsServing task true input coroutine c old s;
      does = λ s. serve_all step_limit a.meaning task (resumed true task input s);
      ends = Stops;
      says = λ c went it. TaskSteps c new went it;
      begins = WentBegins;
    }
