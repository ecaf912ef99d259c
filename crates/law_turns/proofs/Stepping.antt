-- A task's step begins: what it stands at says what the input means, and the loop stays sound.
use Rattle.std.proofs.Common.{◌≡◌, ℕ, ◌<◌, ◌⊎◌, true, false, cond, not, ◌&&◌, List, [], ◌∷◌, ◌++◌, Option}
use Rattle.std.proofs.Common.{Some, None, map, length, refl, ap, sym, subst, ◌∙◌, inl, inr}
use Rattle.std.proofs.Common.{arith}
use Rattle.std.proofs.lemmas.Bool.{cases_eq, eq-eqb, ne_eqb, false≢true}
use Rattle.model_value.specs.Action.{Action}
use Rattle.model_value.specs.declared.action.Action.TheVariants.{SleepDone, GroupDone}
use Rattle.model_value.specs.declared.input.Input.TheVariants.{Send}
use Rattle.model_value.specs.declared.request.Request.TheVariants as request
use Rattle.model_value.specs.Input.{Input}
use Rattle.model_value.specs.Request.{Request}
use Rattle.model_value.specs.Value.{Value, Nothing}
use Rattle.model_wire.specs.declared.event.Event.TheVariants as event
use Rattle.model_loop.specs.Parts.{Handle}
use Rattle.model_loop.specs.Loop.{Loop, in_parts}
use Rattle.model_loop.specs.Handles.{cancelled_if, revoke}
use Rattle.model_loop.specs.Tasks.{begin_step}
use Rattle.model_loop.specs.Groups.{GroupExit, Waits, Passes, Raises as RaisedBy, group_of, exit_woken, hear, set_group}
use Rattle.model_loop.specs.Owning.{is_plain}
use Rattle.model_loop.specs.Ways.{steps}
use Rattle.model_loop.specs.Entries.{entries, is_sleep_end, no_sleep_as}
use Rattle.model_loop.specs.Sound.{IsSound}
use Rattle.model_machine.specs.Extra.{Extra}
use Rattle.model_machine.specs.Replies.{Answers, decides, exits_as, exits_group}
use Rattle.law_cases.specs.Closed.{stands_at_streams}
use Rattle.model_machine.specs.Sound.{AreStreamsFutures, stands_at}
use Rattle.model_machine.specs.State.{ResumePoint, Asked, Sleeping, Leaving, Serving, Connecting, Yielding}
use Rattle.model_machine.specs.State.{Reading, ReadingAll, State, noted, stands, unbooked_in, with_loop}
use Rattle.model_machine.specs.Step.{given_up}
use Rattle.model_machine.specs.Told.{told_by, told_in}
use Rattle.law_steps.specs.Frames.{taken}
use Rattle.law_groups.proofs.Quiet.{handles-first}
use Rattle.law_groups.proofs.Waits.{waits_pending}
use Rattle.law_sound.proofs.Steps.{begin_step_sound, revoke_step_sound, suspend_step_sound}
use Rattle.law_sound.proofs.GroupSteps.{exit_woken_step_sound}
use Rattle.law_turns.specs.Replied.{RunsSound, RepliesSound, IsResumePoint}
use Rattle.law_turns.specs.SoundState.{HasSoundLoop}
use Rattle.law_turns.proofs.Turning.{as_told, tells_none}
use Rattle.law_turns.proofs.Requests.{begin_after}
use Rattle.law_cases.proofs.Composing.{streams_more}
use Rattle.law_cases.specs.StreamReplies.{StreamReplies}
use Rattle.law_cases.proofs.Replying.{streams_decide, woken_at}
use Rattle.law_turns.proofs.Replying.{replied_sound}
use Rattle.law_turns.proofs.Streaming.{streams_sound}

-- a step tells no group
step_tells_none : (task : ℕ) (it : Action) → steps task it ≡ true → (group : ℕ) → told_by group it [] ≡ []
step_tells_none task (GroupDone id other) h group = absurd (false≢true h)
step_tells_none task _ h group = refl

step_ends_no_sleep : (task : ℕ) (it : Action) → steps task it ≡ true → not (is_sleep_end it) ≡ true
step_ends_no_sleep task (SleepDone other future) h = absurd (false≢true h)
step_ends_no_sleep task _ h = refl

-- ---- the loop, once the step began
module _ (told : ℕ → List ℕ) (task : ℕ) (handle : Handle) (rest : List Handle) (l : Loop)
    (first : l.parts.pending ≡ handle ∷ rest) (live : handle.dead ≡ false) (mine : steps task handle.action ≡ true)
    (sound : IsSound None told l) where
  begun_plainly : (input : Input) → IsSound (Some task) told (record l { parts = (begin_step task input (taken rest l.parts)).parts })
  begun_plainly input = begin_step_sound told task input handle rest l first live mine sound

  -- the handle that runs isn't the sleep's
  other_tag : (tag : ℕ) → entries (no_sleep_as tag) l.parts ≡ 0 → cancelled_if tag handle ≡ handle
  other_tag tag none = go (cases_eq handle.tag tag)
    where
      go : (handle.tag ≡ tag) ⊎ (handle.tag ≡ tag → ⊥) → cancelled_if tag handle ≡ handle
      go (inl same) =
          let a = handles-first (no_sleep_as tag) handle rest l.parts first in
          let b : ◌≡◌ {A = ℕ} (cond (not handle.dead && no_sleep_as tag handle.tag handle.action) 1 0) 1 =
          ap (λ d. cond (not d && no_sleep_as tag handle.tag handle.action) 1 0) live
          ∙ ap (λ b. cond (b && not (is_sleep_end handle.action)) 1 0) (eq-eqb handle.tag tag same)
          ∙ ap (λ b. cond b 1 0) (step_ends_no_sleep task handle.action mine) in
          absurd (omega (arith, a, b, none))
      go (inr n) = ap (λ b. cond b (record handle { dead = true }) handle) (ne_eqb handle.tag tag n)

  begun_awake : (tag : ℕ) (input : Input) → entries (no_sleep_as tag) l.parts ≡ 0
      → IsSound (Some task) told (record l { parts = (begin_step task input (revoke tag (taken rest l.parts))).parts })
  begun_awake tag input none =
      begin_step_sound told task input handle (map (cancelled_if tag) rest) (in_parts (revoke tag) l)
      (ap (map (cancelled_if tag)) first ∙ ap (λ h. h ∷ map (cancelled_if tag) rest) (other_tag tag none)) live mine
      (revoke_step_sound None told tag l none sound)

-- ---- and what the task stands at
module _ {S : Type 0} (added : Extra S) (s : State S) (task : ℕ) (input : Input) (handle : Handle) (rest : List Handle)
    (first : s.loop.parts.pending ≡ handle ∷ rest) (live : handle.dead ≡ false) (mine : steps task handle.action ≡ true)
    (sound : HasSoundLoop s) where
  abbrev gone : State S
  gone = noted (event.Ran handle.action) (unbooked_in (λ p. record p { pending = rest }) s)

  abbrev begun : ResumePoint → State S
  begun resume_point =
      stands Asked task (unbooked_in (λ p. (begin_step task input (given_up resume_point gone.loop.parts)).parts) gone)

  told_as_before : (running : Option ℕ) (l : Loop) → IsSound running (told_in s.events) l
      → IsSound running (told_in (s.events ++ event.Ran handle.action ∷ [])) l
  told_as_before running l h =
      as_told running (told_in s.events) (told_in (s.events ++ event.Ran handle.action ∷ [])) l
      (tells_none s.events handle.action (step_tells_none task handle.action mine)) h

  pub runs : (resume_point : ResumePoint) → IsResumePoint resume_point s → RunsSound task (begun resume_point)
  runs Asked fit = told_as_before (Some task) _ (begun_plainly (told_in s.events) task handle rest s.loop first live mine sound input)
  runs (Sleeping tag) fit =
      told_as_before (Some task) _ (begun_awake (told_in s.events) task handle rest s.loop first live mine sound tag input fit)
  runs (Leaving id) fit = told_as_before (Some task) _ (begun_plainly (told_in s.events) task handle rest s.loop first live mine sound input)
  runs (Serving key) fit = absurd fit
  runs (Connecting conn) fit = told_as_before (Some task) _ (begun_plainly (told_in s.events) task handle rest s.loop first live mine sound input)
  runs (Yielding whom) fit = told_as_before (Some task) _ (begun_plainly (told_in s.events) task handle rest s.loop first live mine sound input)
  runs (Reading from op on) fit = told_as_before (Some task) _ (begun_plainly (told_in s.events) task handle rest s.loop first live mine sound input)
  runs (ReadingAll from taken on) fit = told_as_before (Some task) _ (begun_plainly (told_in s.events) task handle rest s.loop first live mine sound input)

  pub leaves : (id : ℕ) (with_ : Input) (now : State S) → RunsSound task now
      → (id < length now.loop.groups) × ((group_of now.loop id).exiting ≡ true) × ((group_of now.loop id).ended ≡ false)
      → RepliesSound task (exits_group (exit_woken with_ id now.loop) task id now)
  leaves id with_ now h open_ = at (exit_woken with_ id now.loop).answer refl
    where
      woken : IsSound (Some task) (told_in now.events) (exit_woken with_ id now.loop).loop
      woken = exit_woken_step_sound (Some task) (told_in now.events) with_ id now.loop open_.0 open_.1 open_.2 h

      at : (answer : GroupExit) → (exit_woken with_ id now.loop).answer ≡ answer
          → RepliesSound task (exits_as answer task id (with_loop (exit_woken with_ id now.loop).loop now))
      at (Waits on) e =
          suspend_step_sound (told_in now.events) task on (exit_woken with_ id now.loop).loop
          (waits_pending id (hear with_ id (set_group id (record (group_of now.loop id) { exit_future = None }) now.loop)) on e) woken
      at Passes e = woken
      at (RaisedBy fault) e = woken

  -- a request of a kind at which a task may stand so
  asked_at : ResumePoint → Request
  asked_at (Connecting conn) = request.Connect Nothing
  asked_at (Yielding whom) = request.Drain Nothing
  asked_at (Reading from op on) = request.ReadLine Nothing
  asked_at (ReadingAll from taken on) = request.Read Nothing Nothing
  asked_at _ = request.Pause

  stands_there : (resume_point : ResumePoint) → stands_at_streams resume_point ≡ true → stands_at resume_point (asked_at resume_point) ≡ true
  unfolding asked_at
  stands_there (Connecting conn) is = refl
  stands_there (Yielding whom) is = refl
  stands_there (Reading from op on) is = refl
  stands_there (ReadingAll from taken on) is = refl
  stands_there Asked is = absurd (false≢true is)
  stands_there (Sleeping tag) is = absurd (false≢true is)
  stands_there (Leaving group) is = absurd (false≢true is)
  stands_there (Serving key) is = absurd (false≢true is)

  woken_sound : (resume_point : ResumePoint) (now : State S) → RunsSound task now → RunsSound task (woken_at resume_point now)
  woken_sound Asked now h = h
  woken_sound (Sleeping tag) now h = h
  woken_sound (Leaving group) now h = h
  woken_sound (Serving key) now h = h
  woken_sound (Connecting conn) now h = h
  woken_sound (Yielding whom) now h = h
  woken_sound (Reading from op on) now h = h
  woken_sound (ReadingAll from taken on) now h = h

  -- at a request on listeners, connections and children
  streams_begin : (resume_point : ResumePoint) (with_ : Input) (now : State S) → stands_at_streams resume_point ≡ true → AreStreamsFutures now
      → RunsSound task now
      → RepliesSound task (decides added resume_point task with_ now)
  streams_begin resume_point with_ now is kept h =
      at (streams_decide added task now kept (asked_at resume_point) resume_point with_ is (stands_there resume_point is))
    where
      at : ((value : Value) × (with_ ≡ Send value) × (decides added resume_point task with_ now ≡ Answers value now))
          ⊎ StreamReplies task resume_point (woken_at resume_point now) (asked_at resume_point) (decides added resume_point task with_ now)
          → RepliesSound task (decides added resume_point task with_ now)
      at (inl told) = subst (RepliesSound task) (sym told.2) h
      at (inr it) =
          streams_sound task resume_point (woken_at resume_point now) (asked_at resume_point) (decides added resume_point task with_ now) it
          (woken_sound resume_point now h)

  -- what was plain is so once the step began
  kept_begun : (resume_point : ResumePoint) → given_up resume_point gone.loop.parts ≡ gone.loop.parts → AreStreamsFutures s
      → AreStreamsFutures (begun resume_point)
  kept_begun resume_point same kept =
      streams_more (λ future. is_plain s.loop.parts future ≡ true) (λ future. is_plain (begun resume_point).loop.parts future ≡ true)
      (λ future h. subst (λ p. is_plain (begin_step task input p).parts future ≡ true) (sym same)
      ((begin_after (λ value. true) false None task input gone.loop.parts).plain future h)) s.streams kept

  pub step_begins : (resume_point : ResumePoint) → IsResumePoint resume_point s
      → RepliesSound task (decides added resume_point task (begin_step task input (given_up resume_point gone.loop.parts)).input (begun resume_point))
  step_begins Asked fit = replied_sound task (begin_step task input gone.loop.parts).input (begun Asked) (runs Asked fit)
  step_begins (Sleeping tag) fit =
      replied_sound task (begin_step task input (revoke tag gone.loop.parts)).input (begun (Sleeping tag)) (runs (Sleeping tag) fit)
  step_begins (Leaving id) fit =
      leaves id (begin_step task input gone.loop.parts).input (begun (Leaving id)) (runs (Leaving id) fit) fit
  step_begins (Serving key) fit = absurd fit
  step_begins (Connecting conn) fit =
      streams_begin (Connecting conn) (begin_step task input gone.loop.parts).input (begun (Connecting conn)) refl (kept_begun (Connecting conn) refl fit)
      (runs (Connecting conn) fit)
  step_begins (Yielding whom) fit =
      streams_begin (Yielding whom) (begin_step task input gone.loop.parts).input (begun (Yielding whom)) refl (kept_begun (Yielding whom) refl fit)
      (runs (Yielding whom) fit)
  step_begins (Reading from op on) fit =
      streams_begin (Reading from op on) (begin_step task input gone.loop.parts).input (begun (Reading from op on)) refl
      (kept_begun (Reading from op on) refl fit)
      (runs (Reading from op on) fit)
  step_begins (ReadingAll from taken on) fit =
      streams_begin (ReadingAll from taken on) (begin_step task input gone.loop.parts).input (begun (ReadingAll from taken on)) refl
      (kept_begun (ReadingAll from taken on) refl fit)
      (runs (ReadingAll from taken on) fit)
