-- A task's step. Source: `tasks.py`, `Task.__step` and `sleep`.
use Rattle.std.specs.Prelude.{ℕ, zero, suc, ◌+◌, ◌*◌, Bool, true, false, length, Ok, Err}
use Rattle.model_value.specs.Input.{Input}
use Rattle.model_value.specs.declared.input.Input.TheVariants.{Send, Throw}
use Rattle.model_says.specs.Endings.{Saying, Asks, Returns, Raises as Raised, Runaway, saying_of}
use Rattle.model_says.specs.Says.{course}
use Rattle.model_says.specs.Tape.{Tape}
use Rattle.model_wire.specs.declared.event.End.TheVariants as end
use Rattle.model_loop.specs.Handles.{revoke}
use Rattle.model_loop.specs.Parts.{Parts}
use Rattle.model_loop.specs.Tasks.{begin_step, finish}
use Rattle.model_machine.specs.Extra.{Extra}
use Rattle.model_machine.specs.Replies.{RequestReply, Answers, Raises, Suspends, Halts, reply, decides}
use Rattle.model_machine.specs.State.{ResumePoint, Asked, Sleeping, Leaving, Serving, Connecting, Yielding, Reading, ReadingAll, State, generator_of, resumed}
use Rattle.model_machine.specs.State.{stands, unbooked_in}
use Rattle.model_machine.specs.Went.{Went, Goes, Stops}

-- the handle of a sleep is given up as its task is resumed, for whatever reason
abbrev pub given_up : ResumePoint → Parts → Parts
given_up Asked p = p
given_up (Sleeping tag) p = revoke tag p
given_up (Leaving group) p = p
given_up (Serving key) p = p
given_up (Connecting conn) p = p
given_up (Yielding whom) p = p
given_up (Reading from op on) p = p
given_up (ReadingAll from taken on) p = p

-- How often a coroutine may be answered in the step that this tape begins: each statement asks twice at most, as a `with`
-- does, and for each input on a tape so many statements may begin. It is never answered so often.
abbrev pub most_answers : (limit : ℕ) → Tape → ℕ
most_answers limit tape = 3 + 2 * (limit * (length tape + 1))

-- the answer goes to the coroutine's tape, and it says on
abbrev pub taken_as : {S : Type 0} → RequestReply S → (fresh : Bool) → (task : ℕ) → (State S → Went S) → Went S
taken_as (Answers value now) fresh task go_on = go_on (resumed fresh task (Send value) now)
taken_as (Raises exception now) fresh task go_on = go_on (resumed fresh task (Throw exception) now)
taken_as (Suspends now) fresh task go_on = Goes now
taken_as (Halts end last) fresh task go_on = Stops end last

-- `limit` is how many statements a step may begin.
module _ {S : Type 0} (limit : ℕ) (added : Extra S) where
  -- what a task's coroutine says now
  abbrev pub says_of : (task : ℕ) → State S → Saying
  says_of task s =
      let it = generator_of task s in
      saying_of (course limit s.program it.coroutine it.arguments it.tape)

  abbrev pub served : Saying → (task : ℕ) → (State S → Went S) → State S → Went S
  served (Asks request) task go_on s = taken_as (reply added task request s) false task go_on
  served (Returns value) task go_on s = Goes (unbooked_in (finish task (Ok value)) s)
  served (Raised exception) task go_on s = Goes (unbooked_in (finish task (Err exception)) s)
  served Runaway task go_on s = Stops (end.Runaway task) s

  -- a task says on until its step ends, answered at most so often
  unfoldable pub serve : (answers task : ℕ) → State S → Went S
  serve zero task s = Stops (end.Runaway task) s
  serve (suc answers) task s = served (says_of task s) task (serve answers task) s

  abbrev pub serve_all : (task : ℕ) → State S → Went S
  serve_all task s = serve (most_answers limit (generator_of task s).tape) task s

  -- A step: the task waits for nothing any more and its sleep keeps no handle. The request at which it stands says what the
  -- input means, and what the coroutine says then is served.
  unfoldable pub step : (task : ℕ) → Input → State S → Went S
  step task input s =
      let resume_point = (generator_of task s).resume_point in
      let begun = begin_step task input (given_up resume_point s.loop.parts) in
      taken_as (decides added resume_point task begun.input (stands Asked task (unbooked_in (λ p. begun.parts) s)))
      true task (serve_all task)
