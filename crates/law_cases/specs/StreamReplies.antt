-- What a request on listeners, connections and children comes to, and a callback of one, by cases: one for each way in which
-- it changes the state, whatever is open. What an answer names was made. Where what the task stood at was opened, what it stands at then is too; a task that
-- asks in its step stands at nothing.
use Rattle.std.specs.Prelude.{◌≡◌, ℕ, ◌<◌, true, Some, length}
use Rattle.model_value.specs.Request.{Request}
use Rattle.model_value.specs.Value.{Value, Exc, Outcome}
use Rattle.model_wire.specs.declared.event.Handed.{Handed}
use Rattle.model_wire.specs.Trace.{End}
use Rattle.model_loop.specs.Futures.{is_pending}
use Rattle.model_loop.specs.Tasks.{next_task, pause}
use Rattle.model_stream.specs.Streams.{Streams}
use Rattle.model_machine.specs.Outcomes.{input_of}
use Rattle.model_machine.specs.Replies.{RequestReply, Answers, Raises, Suspends, Halts, ended, most_ids, replied, waits}
use Rattle.model_machine.specs.Sound.{IsOpenedAt, IsOpenedWriter, ids_of, names_made, stands_at}
use Rattle.model_machine.specs.State.{ResumePoint, Asked, Yielding, State, stands, unbooked_in, with_streams}
use Rattle.model_machine.specs.Turn.{handled_if}
use Rattle.model_machine.specs.Went.{Went, Goes, Stops}
use Rattle.law_cases.specs.Closed.{stands_at_streams}
use Rattle.law_cases.specs.TreeEnd.{IsStreamsEnd, IsTreeEnd}

pub data StreamReplies {S : Type 0} (task : ℕ) (stood : ResumePoint) (s : State S) (asked : Request) : RequestReply S → Type 0 where
  refuses : (fault : Exc) → StreamReplies task stood s asked (Raises fault s)
  tells : (value : Value) → names_made (ids_of s) value ≡ true → StreamReplies task stood s asked (Answers value s)
  hands_on : (on : ℕ) (outcome : Outcome) → ended s on ≡ Some outcome → StreamReplies task stood s asked (replied (input_of outcome) s)
  awaits : (on : ℕ) → is_pending s.loop.parts on ≡ true → stands_at Asked asked ≡ true → StreamReplies task stood s asked (Suspends (waits task on s))
  -- in a tree a call has no answer that fits
  halts : (how : End) (last : State S) → IsTreeEnd s last → StreamReplies task stood s asked (Halts how last)
  -- after a tree
  answers : (t : State S) (streams : Streams) (value : Value) → IsStreamsEnd s t streams
      → names_made (ids_of (with_streams streams t)) value ≡ true
      → StreamReplies task stood s asked (Answers value (with_streams streams t))
  raises : (t : State S) (streams : Streams) (fault : Exc) → IsStreamsEnd s t streams
      → StreamReplies task stood s asked (Raises fault (with_streams streams t))
  waits_on : (t : State S) (streams : Streams) (on : ℕ) → IsStreamsEnd s t streams → is_pending t.loop.parts on ≡ true
      → stands_at Asked asked ≡ true → StreamReplies task stood s asked (Suspends (waits task on (with_streams streams t)))
  stands_on : (t : State S) (streams : Streams) (resume_point : ResumePoint) (on : ℕ) → IsStreamsEnd s t streams
      → is_pending t.loop.parts on ≡ true → stands_at_streams resume_point ≡ true → stands_at resume_point asked ≡ true
      → (IsOpenedAt s.streams stood → IsOpenedAt streams resume_point)
      → StreamReplies task stood s asked (Suspends (stands resume_point task (waits task on (with_streams streams t))))
  yields : (t : State S) (streams : Streams) (whom : Handed) → IsStreamsEnd s t streams → stands_at (Yielding whom) asked ≡ true
      → (IsOpenedAt s.streams stood → IsOpenedWriter streams whom)
      → StreamReplies task stood s asked (Suspends (stands (Yielding whom) task (unbooked_in (pause task) (with_streams streams t))))

pub data StreamGoes {S : Type 0} (s : State S) : Went S → Type 0 where
  stays_so : StreamGoes s (Goes s)
  goes_so : (t : State S) (streams : Streams) → IsStreamsEnd s t streams → StreamGoes s (Goes (with_streams streams t))
  stops : (how : End) (last : State S) → IsTreeEnd s last → StreamGoes s (Stops how last)
  -- the handler of a connection is made
  handles : (coroutine conn : ℕ) → next_task s.loop.parts < most_ids → conn < length s.streams.connections
      → StreamGoes s (handled_if true coroutine conn s)
