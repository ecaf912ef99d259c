-- What a request of a task leaves, and what it needs that its task's tape tells.
use Rattle.std.specs.Prelude.{◌≡◌, ℕ, ◌<◌, true, false, Some, None, length, slice_get}
use Rattle.model_value.specs.declared.request.Request.TheVariants.{Await, TimeoutExit, GroupExit, Extra}
use Rattle.model_value.specs.Request.{Request}
use Rattle.model_loop.specs.Futures.{future_outcome, is_pending}
use Rattle.model_loop.specs.Groups.{group_of}
use Rattle.model_loop.specs.Entries.{entries, no_sleep_as}
use Rattle.model_loop.specs.Owning.{is_plain}
use Rattle.model_loop.specs.Sound.{IsSound}
use Rattle.model_loop.specs.Timeouts.{timeout_of}
use Rattle.model_machine.specs.Arguments.{as_awaited, as_timeout, as_group}
use Rattle.model_machine.specs.Replies.{RequestReply, Answers, Raises, Suspends, Halts}
use Rattle.model_machine.specs.Sound.{AreStreamsFutures}
use Rattle.model_machine.specs.State.{ResumePoint, Asked, Sleeping, Leaving, Serving, Connecting, Yielding, Reading, ReadingAll, State}
use Rattle.model_machine.specs.Told.{told_in}
use Rattle.law_cases.specs.Closed.{is_to_streams}
use Rattle.law_changes.specs.Telling.{is_open}
use Rattle.law_turns.specs.SoundState.{HasSoundLoop}

-- inside a step of the task
abbrev pub RunsSound : {S : Type 0} → ℕ → State S → Type 0
RunsSound task s = IsSound (Some task) (told_in s.events) s.loop

-- the futures of `future()` are plain
abbrev pub HasPlainFutures : {S : Type 0} → State S → Type 0
HasPlainFutures s = (id on : ℕ) → slice_get s.futures id ≡ Some on → is_plain s.loop.parts on ≡ true

-- a request that was answered leaves the step sound, and one that ends the step the whole
abbrev pub RepliesSound : {S : Type 0} → ℕ → RequestReply S → Type 0
RepliesSound task (Answers value now) = RunsSound task now
RepliesSound task (Raises fault now) = RunsSound task now
RepliesSound task (Suspends now) = HasSoundLoop now
RepliesSound task (Halts end last) = Unit {0}

-- What is awaited is there; a block that is left is open; what connections and children keep are plain futures. Requests that
-- are added are none of these.
abbrev pub IsFit : {S : Type 0} → Request → State S → Type 0
IsFit (Await x) s =
    (on : ℕ) → as_awaited s x ≡ Some on → future_outcome s.loop.parts on ≡ None → is_pending s.loop.parts on ≡ true
IsFit (TimeoutExit timeout raised) s =
    (id : ℕ) → as_timeout timeout ≡ Some id
    → (id < length s.loop.timeouts) × (is_open (timeout_of s.loop id).state ≡ true)
IsFit (GroupExit group raised) s =
    (id : ℕ) → as_group group ≡ Some id
    → (id < length s.loop.groups) × ((group_of s.loop id).entered ≡ true) × ((group_of s.loop id).exiting ≡ false)
IsFit (Extra code arguments) s = ⊥
IsFit asked s = is_to_streams asked ≡ true → AreStreamsFutures s

-- A task whose step begins stands at nothing that was added; a sleep's tag names ends of sleeps alone, a group whose exit it
-- left waiting is exiting, and what connections and children keep are plain futures.
abbrev pub IsResumePoint : {S : Type 0} → ResumePoint → State S → Type 0
IsResumePoint Asked s = Unit {0}
IsResumePoint (Sleeping tag) s = entries (no_sleep_as tag) s.loop.parts ≡ 0
IsResumePoint (Leaving id) s =
    (id < length s.loop.groups) × ((group_of s.loop id).exiting ≡ true) × ((group_of s.loop id).ended ≡ false)
IsResumePoint (Serving key) s = ⊥
IsResumePoint (Connecting conn) s = AreStreamsFutures s
IsResumePoint (Yielding whom) s = AreStreamsFutures s
IsResumePoint (Reading from op on) s = AreStreamsFutures s
IsResumePoint (ReadingAll from taken on) s = AreStreamsFutures s
