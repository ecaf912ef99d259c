-- What the input of a step means, at the request at which its task stood, and how the step goes on by it.
use Rattle.std.proofs.Common.{◌≡◌, ℕ, ◌<◌, true, length, ◌∙◌, refl, sym, ap, subst, arith}
use Rattle.std.proofs.lemmas.Bool.{eq-eqb}
use Rattle.model_value.specs.Input.{Input}
use Rattle.model_value.specs.Value.{Value, Exc}
use Rattle.model_value.specs.declared.input.Input.TheVariants.{Send, Throw}
use Rattle.model_loop.specs.Tasks.{lives, next_task}
use Rattle.model_machine.specs.Extra.{Extra}
use Rattle.model_machine.specs.Replies as machine
use Rattle.model_machine.specs.Replies.{decides, replied}
use Rattle.model_machine.specs.Sound.{IsStateSound}
use Rattle.model_machine.specs.State as plain
use Rattle.model_machine.specs.State.{State, generator_of, resumed}
use Rattle.model_machine.specs.Step.{taken_as}
use Rattle.model_machine.specs.Went.{Went, Goes, Stops}
use Rattle.model_wire.specs.Trace.{End}
use Rattle.law_replies.proofs.Counts.{lives_within}
use Rattle.law_replies.specs.InStep.{RepliesInStep}
use Rattle.law_runs.proofs.Kept.{reply_state, decides-keeps}
use Rattle.aio_timer.specs.declared.live.TimerId.{TimerId}
use Rattle.aio_body.specs.Readers.{reader_as}
use Rattle.aio_gen.specs.declared.generator.Gen.{Gen}
use Rattle.aio_extra.specs.Added.{Added}
use Rattle.aio_body.specs.declared.run_state.RunState.{RunState}
use Rattle.aio_body.specs.declared.reply.RequestReply.{RequestReply}
use Rattle.aio_body.specs.declared.reply.RequestReply.TheVariants as said
use Rattle.aio_body.specs.declared.resume_point.ResumePoint.{ResumePoint}
use Rattle.aio_body.specs.declared.resume_point.ResumePoint.TheVariants.{Asked, Sleeping, Leaving, Serving, Connecting, Yielding, Reading, ReadingAll}
use Rattle.aio_body.specs.Asked.{IsInStep, HasSuspended, Says}
use Rattle.aio_body.specs.Outcomes.{reply_of}
use Rattle.aio_body.specs.Stands.{Context, holding}
use Rattle.aio_step.specs.declared.steps.Started.{Started}
use Rattle.aio_step.specs.Stepping.{DecidesAs, HasBegun, HearsMade, IsCalled, IsServing, begun_by, begun_in}
use Rattle.aio_step.proofs.Called.{called_sound}

module _ {X : Type 0} {a : Added X} where
  -- ---- what it means
  pub says_replied : (task : ℕ) (c : Context a) (body : RunState X) (s : State a.Kept) (input : Input) → IsInStep task c body s
      → Says task c body (reply_of input) (replied input s)
  says_replied task c body s (Send value) h = (refl, h)
  says_replied task c body s (Throw fault) h = (refl, h)

  pub asked_decides : (task : ℕ) (c : Context a) (body : RunState X) (s : State a.Kept) (input : Input) (stood : plain.ResumePoint) → DecidesAs Asked stood
      → IsInStep task c body s → Says task c body (reply_of input) (decides a.meaning stood task input s)
  asked_decides task c body s input plain.Asked d h = says_replied task c body s input h
  asked_decides task c body s input (plain.Sleeping tag) d h = absurd d
  asked_decides task c body s input (plain.Leaving id) d h = absurd d
  asked_decides task c body s input (plain.Serving key) d h = absurd d
  asked_decides task c body s input (plain.Connecting conn) d h = absurd d
  asked_decides task c body s input (plain.Yielding whom) d h = absurd d
  asked_decides task c body s input (plain.Reading from op on) d h = absurd d
  asked_decides task c body s input (plain.ReadingAll from had on) d h = absurd d

  pub sleeping_decides : (timer : TimerId) (future : ℕ) (task : ℕ) (c : Context a) (body : RunState X) (s : State a.Kept) (input : Input)
      (stood : plain.ResumePoint)
      → DecidesAs (Sleeping timer future) stood → IsInStep task c body s → Says task c body (reply_of input) (decides a.meaning stood task input s)
  sleeping_decides timer future task c body s input plain.Asked d h = absurd d
  sleeping_decides timer future task c body s input (plain.Sleeping tag) d h = says_replied task c body s input h
  sleeping_decides timer future task c body s input (plain.Leaving id) d h = absurd d
  sleeping_decides timer future task c body s input (plain.Serving key) d h = absurd d
  sleeping_decides timer future task c body s input (plain.Connecting conn) d h = absurd d
  sleeping_decides timer future task c body s input (plain.Yielding whom) d h = absurd d
  sleeping_decides timer future task c body s input (plain.Reading from op on) d h = absurd d
  sleeping_decides timer future task c body s input (plain.ReadingAll from had on) d h = absurd d

-- what the machine's task stands at, where the code's stands at this: of a sleep the code has no tag
abbrev pub stood_as : ResumePoint → (other : plain.ResumePoint) → plain.ResumePoint
stood_as Asked other = plain.Asked
stood_as (Sleeping timer future) other = other
stood_as (Leaving group) other = plain.Leaving group
stood_as (Serving key) other = plain.Serving key
stood_as (Connecting conn future) other = plain.Connecting conn
stood_as (Yielding whom) other = plain.Yielding whom
stood_as (Reading from op on) other = plain.Reading (reader_as from) op on
stood_as (ReadingAll from taken on) other = plain.ReadingAll (reader_as from) taken on

pub stood_is : (code : ResumePoint) (other : plain.ResumePoint) → DecidesAs code other → stood_as code other ≡ other
stood_is Asked plain.Asked d = refl
stood_is (Sleeping timer future) (plain.Sleeping tag) d = refl
stood_is (Leaving group) (plain.Leaving id) d = ap plain.Leaving d
stood_is (Serving key) (plain.Serving kept) d = ap plain.Serving d
stood_is (Connecting conn future) (plain.Connecting id) d = ap plain.Connecting d
stood_is (Yielding whom) (plain.Yielding drained) d = ap plain.Yielding d
stood_is (Reading from op on) (plain.Reading source asked future) d = cc
stood_is (ReadingAll from taken on) (plain.ReadingAll source had future) d = cc
stood_is _ _ d = absurd d

-- ---- how the step goes on
module _ {X : Type 0} {a : Added X} where
  -- the coroutine is resumed
  pub record Resumes (task : ℕ) (next : Input) (c : Context a) (body : RunState X) (coroutine : Gen) (it : machine.RequestReply a.Kept) : Type 0 where
    pub now : State a.Kept
    pub serving : IsServing task true next coroutine c body now
    pub goes : (go_on : State a.Kept → Went a.Kept) → taken_as it true task go_on ≡ go_on (resumed true task next now)

  -- or waits on
  pub record WaitsOn (task : ℕ) (c : Context a) (body : RunState X) (it : machine.RequestReply a.Kept) : Type 0 where
    pub now : State a.Kept
    pub suspended : HasSuspended task c body now
    pub sound : IsStateSound a.meaning now
    pub kept : reply_state it ≡ now
    pub goes : (go_on : State a.Kept → Went a.Kept) → taken_as it true task go_on ≡ Goes now

module _ {X : Type 0} {a : Added X} (task : ℕ) (c : Context a) (body : RunState X) (coroutine : Gen) where
  pub answers_so : (value : Value) (it : machine.RequestReply a.Kept) → Says task (holding coroutine c) body (said.Answers value) it
      → RepliesInStep a.meaning true task it → Resumes task (Send value) c body coroutine it
  answers_so value (machine.Answers v now) h sound =
      subst (λ x. Resumes task (Send x) c body coroutine (machine.Answers v now)) (sym h.0) (record {
        now = now;
        serving = record { in_step = h.1; sound = sound };
        goes = λ go_on. refl;
      })
  answers_so value (machine.Raises fault now) h sound = absurd h
  answers_so value (machine.Suspends now) h sound = absurd h
  answers_so value (machine.Halts end last) h sound = absurd h

  pub raises_so : (fault : Exc) (it : machine.RequestReply a.Kept) → Says task (holding coroutine c) body (said.Raises fault) it
      → RepliesInStep a.meaning true task it → Resumes task (Throw fault) c body coroutine it
  raises_so fault (machine.Raises f now) h sound =
      subst (λ x. Resumes task (Throw x) c body coroutine (machine.Raises f now)) (sym h.0) (record {
        now = now;
        serving = record { in_step = h.1; sound = sound };
        goes = λ go_on. refl;
      })
  raises_so fault (machine.Answers value now) h sound = absurd h
  raises_so fault (machine.Suspends now) h sound = absurd h
  raises_so fault (machine.Halts end last) h sound = absurd h

  pub suspends_so : (it : machine.RequestReply a.Kept) → Says task (holding coroutine c) body said.Suspends it → RepliesInStep a.meaning true task it
      → WaitsOn task (holding coroutine c) body it
  suspends_so (machine.Suspends now) h sound = record { now = now; suspended = h; sound = sound; kept = refl; goes = λ go_on. refl }
  suspends_so (machine.Answers value now) h sound = absurd h
  suspends_so (machine.Raises fault now) h sound = absurd h
  suspends_so (machine.Halts end last) h sound = absurd h

-- ---- from a step that has begun
-- what the machine decides
abbrev pub decided : {S : Type 0} (added : Extra S) → ℕ → Input → State S → machine.RequestReply S
decided added task input s = decides added (generator_of task s).resume_point task (begun_by task input s).input (begun_in task input s)

-- a stop of it is one of the step
pub stops_first : {S : Type 0} (task : ℕ) (go_on : State S → Went S) (how : End) (last : State S) (it : machine.RequestReply S) → it ≡ machine.Halts how last
    → taken_as it true task go_on ≡ Stops how last
stops_first task go_on how last it e = ap (λ x. taken_as x true task go_on) e

-- `c` is what the step began with, and `d` what stays once its input was decided
module _ {X : Type 0} {a : Added X} (task : ℕ) (input : Input) (c : Context a) (old : RunState X) (s : State a.Kept) (h : IsCalled task c old s)
    (made : HearsMade input old) (started : Started) (begun : RunState X) (b : HasBegun task input c s started begun) (d : Context a) (body : RunState X) where
  abbrev pub Decides : RequestReply → Type 0
  Decides it =
      Says task (holding started.coroutine d) body it (decides a.meaning (generator_of task s).resume_point task started.input (begun_in task input s))

  says_decided : (it : RequestReply) → Decides it → Says task (holding started.coroutine d) body it (decided a.meaning task input s)
  says_decided it says =
      subst (λ x. Says task (holding started.coroutine d) body it (decides a.meaning (generator_of task s).resume_point task x (begun_in task input s)))
      b.heard says

  sound : RepliesInStep a.meaning true task (decided a.meaning task input s)
  sound = called_sound task c old s h input made

  pub answers_first : (value : Value) → Decides (said.Answers value) → Resumes task (Send value) d body started.coroutine (decided a.meaning task input s)
  answers_first value says =
      answers_so task d body started.coroutine value (decided a.meaning task input s) (says_decided (said.Answers value) says) sound

  pub raises_first : (fault : Exc) → Decides (said.Raises fault) → Resumes task (Throw fault) d body started.coroutine (decided a.meaning task input s)
  raises_first fault says = raises_so task d body started.coroutine fault (decided a.meaning task input s) (says_decided (said.Raises fault) says) sound

  pub suspends_first : Decides said.Suspends → WaitsOn task (holding started.coroutine d) body (decided a.meaning task input s)
  suspends_first says = suspends_so task d body started.coroutine (decided a.meaning task input s) (says_decided said.Suspends says) sound

  -- the task was made before
  pub made_first : WaitsOn task (holding started.coroutine d) body (decided a.meaning task input s) → task < length body.slots.items
  made_first w =
      let living = b.deciding.asked.others.loop.parts.runs task (eq-eqb task task refl) in
      let there = within (begun_in task input s) living b.deciding.asked.others.generators in
      let more = (decides-keeps a.meaning (generator_of task s).resume_point task (begun_by task input s).input (begun_in task input s)).generators in
      let same : length (reply_state (decided a.meaning task input s)).generators ≡ length body.slots.items =
      ap (λ (x : State a.Kept). length x.generators) w.kept ∙ w.suspended.stands.told ∙ sym w.suspended.stands.made in
      omega (arith, there, more, same)
    where
      within : (t : State a.Kept) → lives t.loop.parts task ≡ true → length t.generators ≡ next_task t.loop.parts → task < length t.generators
      within t living count = subst (λ n. task < n) (sym count) (lives_within t.loop.parts task living)
