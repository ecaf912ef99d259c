-- Each callback of a turn leaves a sound state.
use Rattle.std.proofs.Common.{◌≡◌, ℕ, zero, suc, Bool, true, false, cond, not, ◌&&◌, List, [], ◌∷◌, ◌++◌, Option, Some, None}
use Rattle.std.proofs.Common.{refl, sym, ap, subst, ◌∙◌, arith}
use Rattle.std.specs.Option.{option_and_then, option_map_or}
use Rattle.std.proofs.lemmas.Bool.{eq-eqb, false≢true}
use Rattle.model_value.specs.Action.{Action}
use Rattle.model_value.specs.Input.{Input}
use Rattle.model_value.specs.Value.{Nothing, Outcome}
use Rattle.model_value.specs.declared.action.Action.TheVariants as action
use Rattle.model_value.specs.declared.input.Input.TheVariants.{Send, Throw}
use Rattle.model_value.specs.declared.outcome.Outcome.TheVariants.{Value as Returned}
use Rattle.model_says.specs.Endings.{Saying, Asks, Returns, Raises as Raised, Runaway}
use Rattle.model_says.specs.Says.{step_limit}
use Rattle.model_wire.specs.declared.event.Event.TheVariants as event
use Rattle.model_loop.specs.Cycles.{cycle_exception}
use Rattle.model_loop.specs.Deadlines.{fires}
use Rattle.model_loop.specs.Futures.{future_outcome, settle}
use Rattle.model_loop.specs.Groups.{child_done}
use Rattle.model_loop.specs.Loop.{TimeoutState, Created, Active, Expiring, Expired, Finished, in_parts}
use Rattle.model_loop.specs.Owning.{is_main_done}
use Rattle.model_loop.specs.Parts.{Handle}
use Rattle.model_loop.specs.Tasks.{waiter_of}
use Rattle.model_loop.specs.Timeouts.{fire, is_active, timeout_of}
use Rattle.model_loop.specs.Ways.{steps}
use Rattle.model_machine.specs.Extra.{Extra}
use Rattle.model_machine.specs.Outcomes.{input_of, woken_with}
use Rattle.model_machine.specs.Replies.{RequestReply, Answers, Raises, Suspends, Halts, reply}
use Rattle.model_machine.specs.Sound.{IsStateSound, is_open, ids_of, names_made, sends_made}
use Rattle.model_machine.specs.State.{State, generator_of, noted, unbooked_in}
use Rattle.model_machine.specs.Step.{most_answers, says_of, serve, serve_all, served, step, taken_as}
use Rattle.model_machine.specs.Told.{told_by, told_in}
use Rattle.model_machine.specs.Turn.{effect, ran, run_first}
use Rattle.model_machine.specs.Went.{Went}
use Rattle.law_steps.specs.Frames.{taken, is_followed}
use Rattle.law_sound.proofs.Steps.{dead_sound, off, tags_of_sound, unfollowed_sound}
use Rattle.law_steps.proofs.Stepping.{taken-where}
use Rattle.law_groups.proofs.Firing.{was_active}
use Rattle.law_turns.specs.FitsTurn.{FitsAction, FitsLive}
use Rattle.law_turns.specs.SoundState.{HasSoundLoop, LeavesSoundLoop}
use Rattle.law_turns.proofs.Running.{first_sound}
use Rattle.law_turns.proofs.Turning.{as_told, tells_none}
use Rattle.law_turns.specs.After.{is_step, IsLoopAfter}
use Rattle.law_turns.proofs.Deadlines.{fire_loop}
use Rattle.law_turns.proofs.Loops.{child_done_loop, loop_on, parts_loop}
use Rattle.law_turns.proofs.Parts.{settle_after, taken_after}
use Rattle.law_replies.specs.Added.{KeepsSound}
use Rattle.law_cases.specs.Trees.{is_of_streams}
use Rattle.law_cases.proofs.Going.{effect_is}
use Rattle.law_turns.proofs.Streaming.{streams_unfollowed}
use Rattle.law_replies.proofs.Handling.{goes_in}
use Rattle.law_replies.specs.InStep.{IsStepSound, LeavesStateSound, RepliesInStep}
use Rattle.law_runs.proofs.Beginning.{begins_in}
use Rattle.law_runs.proofs.Finishing.{returns_sound, raises_sound}
use Rattle.law_replies.proofs.Given.{ended_made}
use Rattle.law_replies.proofs.Keeping.{apart_of}
use Rattle.law_replies.proofs.Kept.{futures_stay}
use Rattle.law_replies.proofs.Nobody.{nobody, over_as}
use Rattle.law_replies.proofs.Replying.{reply_in}

-- ---- a task's step
module _ {S : Type 0} (added : Extra S) (keeps : KeepsSound added) (task : ℕ) where
  after_in : (go_on : State S → Went S) → ((t : State S) → IsStepSound added task t → LeavesStateSound added (go_on t)) → (fresh : Bool)
      (r : RequestReply S) → RepliesInStep added fresh task r → LeavesStateSound added (taken_as r fresh task go_on)
  after_in go_on each fresh (Answers value now) h = each _ h
  after_in go_on each fresh (Raises fault now) h = each _ h
  after_in go_on each fresh (Suspends now) h = h
  after_in go_on each fresh (Halts end last) h = tt

  served_in : (go_on : State S → Went S) → ((t : State S) → IsStepSound added task t → LeavesStateSound added (go_on t)) → (saying : Saying)
      (t : State S) → IsStepSound added task t → says_of step_limit added task t ≡ saying
      → LeavesStateSound added (served step_limit added saying task go_on t)
  served_in go_on each (Asks asked) t its says = after_in go_on each false (reply added task asked t) (reply_in added keeps task t its asked says)
  served_in go_on each (Returns value) t its says = returns_sound added task t its value says
  served_in go_on each (Raised fault) t its says = raises_sound added task t its fault says
  served_in go_on each Runaway t its says = tt

  pub serve_in : (answers : ℕ) (t : State S) → IsStepSound added task t → LeavesStateSound added (serve step_limit added answers task t)
  unfolding serve
  serve_in zero t its = tt
  serve_in (suc answers) t its =
      served_in (serve step_limit added answers task) (λ u h. serve_in answers u h) (says_of step_limit added task t) t its refl

  pub step_in : (s : State S) (input : Input) (handle : Handle) (rest : List Handle) → s.loop.parts.pending ≡ handle ∷ rest → handle.dead ≡ false
      → steps task handle.action ≡ true → IsStateSound added s → sends_made (ids_of s) input ≡ true
      → LeavesStateSound added (step step_limit added task input (noted (event.Ran handle.action) (unbooked_in (λ p. record p { pending = rest }) s)))
  unfolding step
  step_in s input handle rest first live mine sound given_ =
      after_in (serve_all step_limit added task) (λ t h. serve_in (most_answers step_limit (generator_of task t).tape) t h) true _
      (begins_in added s task input handle rest first live mine sound keeps given_)

-- ---- what a task is woken with
pub woken_made : {S : Type 0} (added : Extra S) (s : State S) → IsStateSound added s → (task : ℕ)
    → sends_made (ids_of s) (woken_with s.loop.parts task) ≡ true
woken_made added s sound task = at (waiter_of s.loop.parts task)
  where
    until : (on : ℕ) (o : Option Outcome) → future_outcome s.loop.parts on ≡ o
        → sends_made (ids_of s) (option_map_or input_of o (Send Nothing)) ≡ true
    until on None e = refl
    until on (Some outcome) e = ended_made added None None s (apart_of added None None s sound) on outcome e

    at : (o : Option ℕ)
        → sends_made (ids_of s) (option_map_or input_of (option_and_then (future_outcome s.loop.parts) o) (Send Nothing)) ≡ true
    at None = refl
    at (Some on) = until on (future_outcome s.loop.parts on) refl

active_open : (state : TimeoutState) → is_active state ≡ true → is_open state ≡ true
active_open Active h = refl
active_open Created h = absurd (false≢true h)
active_open Expiring h = absurd (false≢true h)
active_open Expired h = absurd (false≢true h)
active_open Finished h = absurd (false≢true h)

-- ---- callbacks
module _ {S : Type 0} (added : Extra S) (keeps : KeepsSound added) (s : State S) (handle : Handle) (rest : List Handle)
    (first : s.loop.parts.pending ≡ handle ∷ rest) (sound : IsStateSound added s) where
  abbrev out : State S
  out = unbooked_in (λ p. record p { pending = rest }) s

  taken_by : ((other : ℕ) → (not handle.dead && is_step other handle.action) ≡ false)
      → IsLoopAfter (names_made (ids_of s)) false None None None None s.loop (in_parts (taken rest) s.loop)
  taken_by none =
      parts_loop (names_made (ids_of s)) refl false None None None None s.loop (taken rest s.loop.parts)
      (taken_after (names_made (ids_of s)) false None handle rest s.loop.parts first (λ other f. none other))

  no_step : (it : Action) → handle.action ≡ it → ((other : ℕ) → is_step other it ≡ false) → (other : ℕ)
      → (not handle.dead && is_step other handle.action) ≡ false
  no_step it is none other = ap (λ a. not handle.dead && is_step other a) is ∙ ap (λ b. not handle.dead && b) (none other) ∙ off (not handle.dead)

  dead_in : handle.dead ≡ true → IsStateSound added out
  dead_in dead =
      let a = taken_by (λ other. ap (λ d. not d && is_step other handle.action) dead) in
      nobody added s sound out (record { program = refl; generators = refl; streams = refl; extra = refl; scripts = futures_stay }) refl (over_as added s sound (in_parts (taken rest) s.loop) a) a
      (dead_sound (told_in s.events) handle rest s.loop first dead sound.loop)

  -- a handle that the loop doesn't follow, and fires nothing
  idle_loop : (it : Action) → handle.action ≡ it → is_followed it ≡ false → ((id : ℕ) → fires id it ≡ false)
      → ((group : ℕ) → told_by group it [] ≡ []) → HasSoundLoop (noted (event.Ran it) out)
  idle_loop it is unfollowed no_fire none =
      as_told None (told_in s.events) (told_in (s.events ++ event.Ran it ∷ [])) (in_parts (taken rest) s.loop)
      (tells_none s.events it none)
      (unfollowed_sound it unfollowed no_fire (told_in s.events) handle rest s.loop first is sound.loop)

  pub idle_in : (it : Action) → handle.action ≡ it → is_followed it ≡ false → ((id : ℕ) → fires id it ≡ false)
      → ((group : ℕ) → told_by group it [] ≡ []) → ((other : ℕ) → is_step other it ≡ false) → IsStateSound added (noted (event.Ran it) out)
  idle_in it is unfollowed no_fire none steps_none =
      let a = taken_by (no_step it is steps_none) in
      nobody added s sound (noted (event.Ran it) out) (record { program = refl; generators = refl; streams = refl; extra = refl; scripts = futures_stay }) refl
      (over_as added s sound (in_parts (taken rest) s.loop) a) a (idle_loop it is unfollowed no_fire none)

  main_in : handle.action ≡ action.MainDone → handle.dead ≡ false → IsStateSound added (record (noted (event.Ran action.MainDone) out) { main_done = true })
  main_in is live =
      let a = taken_by (no_step action.MainDone is (λ other. refl)) in
      nobody added s sound (record (noted (event.Ran action.MainDone) out) { main_done = true })
      (record { program = refl; generators = refl; streams = refl; extra = refl; scripts = futures_stay }) refl
      (λ done. sound.main_told.pending (
      let b = taken-where is_main_done handle rest s.loop.parts first in
      let c : ◌≡◌ {A = ℕ} (cond (not handle.dead && is_main_done handle.action) 1 0) 1 =
      ap (λ d. cond (not d && is_main_done handle.action) 1 0) live ∙ ap (λ x. cond (is_main_done x) 1 0) is in
      omega (arith, b, c))) a (idle_loop action.MainDone is refl (λ id. refl) (λ g. refl))

  -- the loop's own laws, of a live handle by its action
  loop_of : (it : Action) → handle.action ≡ it → handle.dead ≡ false → FitsAction step_limit added it s (noted (event.Ran it) out)
      → LeavesSoundLoop (effect step_limit added it (noted (event.Ran it) out))
  loop_of it is live fit =
      subst (λ a. LeavesSoundLoop (effect step_limit added a (noted (event.Ran a) out))) is
      (subst (λ d. LeavesSoundLoop (ran step_limit added d handle.action out)) live
      (first_sound step_limit added s handle rest first sound.loop
      (subst (λ d. FitsLive step_limit added d handle.action s (noted (event.Ran handle.action) out)) (sym live)
      (subst (λ a. FitsAction step_limit added a s (noted (event.Ran a) out)) (sym is) fit))))

  steps_in : (it : Action) (task : ℕ) (input : Input) → handle.action ≡ it → steps task it ≡ true → handle.dead ≡ false
      → sends_made (ids_of s) input ≡ true → LeavesStateSound added (step step_limit added task input (noted (event.Ran it) out))
  steps_in it task input is mine live given_ =
      subst (λ a. LeavesStateSound added (step step_limit added task input (noted (event.Ran a) out))) is
      (step_in added keeps task s input handle rest first live (ap (steps task) is ∙ mine) sound given_)

  -- of listeners, connections and children
  streams_handle : (it : Action) → handle.action ≡ it → is_of_streams it ≡ true → ((id : ℕ) → fires id it ≡ false)
      → ((group : ℕ) → told_by group it [] ≡ []) → ((other : ℕ) → is_step other it ≡ false)
      → LeavesStateSound added (effect step_limit added it (noted (event.Ran it) out))
  streams_handle it is of no_fire none steps_none =
      let here = idle_in it is (streams_unfollowed it of) no_fire none steps_none in
      goes_in added (noted (event.Ran it) out) here (effect step_limit added it (noted (event.Ran it) out))
      (effect_is (noted (event.Ran it) out) here.streams step_limit added it of)

  lively : (it : Action) → handle.action ≡ it → handle.dead ≡ false → LeavesStateSound added (effect step_limit added it (noted (event.Ran it) out))
  unfolding effect
  lively (action.Step task) is live = steps_in (action.Step task) task (Send Nothing) is (eq-eqb task task refl) live refl
  lively (action.StepInCycle task cycle) is live =
      steps_in (action.StepInCycle task cycle) task (Throw (cycle_exception cycle)) is (eq-eqb task task refl) live refl
  lively (action.Wakeup task) is live =
      steps_in (action.Wakeup task) task (woken_with out.loop.parts task) is (eq-eqb task task refl) live (woken_made added s sound task)
  lively (action.SleepDone task future) is live =
      let a = taken_by (no_step (action.SleepDone task future) is (λ other. refl)) in
      let b = loop_on (names_made (ids_of s)) refl false None None None None s.loop (in_parts (taken rest) s.loop) _
      (parts_loop (names_made (ids_of s)) refl false None None None None (in_parts (taken rest) s.loop)
      (settle future (Returned Nothing) (taken rest s.loop.parts))
      (settle_after (names_made (ids_of s)) false None future (Returned Nothing) (taken rest s.loop.parts) refl)) a in
      nobody added s sound _ (record { program = refl; generators = refl; streams = refl; extra = refl; scripts = futures_stay }) refl
      (over_as added s sound (in_parts (settle future (Returned Nothing)) (in_parts (taken rest) s.loop)) b) b
      (loop_of (action.SleepDone task future) is live (λ of. absurd (false≢true of)))
  lively (action.GroupDone group task) is live =
      let a = taken_by (no_step (action.GroupDone group task) is (λ other. refl)) in
      let b = loop_on (names_made (ids_of s)) refl false None None None None s.loop (in_parts (taken rest) s.loop) _
      (child_done_loop (names_made (ids_of s)) refl false None None None None group task (in_parts (taken rest) s.loop)) a in
      nobody added s sound _ (record { program = refl; generators = refl; streams = refl; extra = refl; scripts = futures_stay }) refl
      (over_as added s sound (child_done group task (in_parts (taken rest) s.loop)) b) b
      (loop_of (action.GroupDone group task) is live (λ of. absurd (false≢true of)))
  lively (action.Fires timeout) is live =
      let a = taken_by (no_step (action.Fires timeout) is (λ other. refl)) in
      let b = loop_on (names_made (ids_of s)) refl false None None None None s.loop (in_parts (taken rest) s.loop) _
      (fire_loop (names_made (ids_of s)) refl false None None None None timeout (in_parts (taken rest) s.loop)
      (active_open (timeout_of s.loop timeout).state
      (was_active timeout handle rest s.loop first live is (tags_of_sound None (told_in s.events) s.loop sound.loop)))) a in
      nobody added s sound _ (record { program = refl; generators = refl; streams = refl; extra = refl; scripts = futures_stay }) refl
      (over_as added s sound (fire timeout (in_parts (taken rest) s.loop)) b) b (loop_of (action.Fires timeout) is live (λ of. absurd (false≢true of)))
  lively action.MainDone is live = main_in is live
  lively (action.ExtraItem code bytes) is live =
      keeps.item code bytes (noted (event.Ran (action.ExtraItem code bytes)) out)
      (idle_in (action.ExtraItem code bytes) is refl (λ id. refl) (λ g. refl) (λ other. refl))
  lively (action.Extra key) is live =
      keeps.act key (noted (event.Ran (action.Extra key)) out) (idle_in (action.Extra key) is refl (λ id. refl) (λ g. refl) (λ other. refl))
  lively it is live = streams_handle it is refl (λ id. refl) (λ g. refl) (λ other. refl)

  pub callback_in : LeavesStateSound added (run_first step_limit added handle rest s)
  callback_in = at handle.dead refl
    where
      at : (dead : Bool) → handle.dead ≡ dead → LeavesStateSound added (ran step_limit added dead handle.action out)
      at true e = dead_in e
      at false e = lively handle.action refl e
