-- The callbacks of a turn keep the loop sound, where each step among them is fit.
use Rattle.std.proofs.Common.{◌≡◌, ℕ, zero, suc, Bool, true, false, not, ◌&&◌, List, [], ◌∷◌, ◌++◌, None, length, nat_lt, refl, ap, sym, subst, ◌∙◌}
use Rattle.std.proofs.lemmas.Bool.{eq-eqb}
use Rattle.model_value.specs.Action.{Action}
use Rattle.model_value.specs.Input.{Input}
use Rattle.model_value.specs.Value.{Nothing}
use Rattle.model_value.specs.declared.action.Action.TheVariants as action
use Rattle.model_value.specs.declared.input.Input.TheVariants.{Send, Throw}
use Rattle.model_wire.specs.declared.event.Event.TheVariants as event
use Rattle.model_loop.specs.Cycles.{cycle_exception}
use Rattle.model_loop.specs.Deadlines.{fires}
use Rattle.model_loop.specs.Loop.{in_parts}
use Rattle.model_loop.specs.Parts.{Handle}
use Rattle.model_loop.specs.Ways.{steps}
use Rattle.model_machine.specs.Extra.{Extra}
use Rattle.model_machine.specs.Mids.{then_mids, mids_if, next_mids, mids_below, mids_from}
use Rattle.model_machine.specs.Outcomes.{woken_with}
use Rattle.model_machine.specs.Sound.{AreStreamsFutures}
use Rattle.model_machine.specs.State.{State, generator_of, noted, unbooked_in}
use Rattle.model_machine.specs.Step.{step}
use Rattle.model_machine.specs.Told.{told_by, told_in}
use Rattle.model_machine.specs.Turn.{effect, run_first, run_if, next_below, run_below, run_pending}
use Rattle.model_machine.specs.Went.{Went, Goes, Stops, went_on}
use Rattle.law_steps.specs.Frames.{taken, is_followed}
use Rattle.law_sound.proofs.Steps.{idle_sound}
use Rattle.law_cases.specs.Trees.{is_of_streams}
use Rattle.law_cases.proofs.Going.{effect_is}
use Rattle.law_turns.specs.Fits.{FitsStep}
use Rattle.law_turns.specs.FitsTurn.{AreSound, GoesOnFit, FitsAction, FitsLive, FitsIf, FitsNext, FitsBelow, FitsPending}
use Rattle.law_turns.specs.Replied.{IsResumePoint}
use Rattle.law_turns.specs.SoundState.{HasSoundLoop, LeavesSoundLoop}
use Rattle.law_turns.proofs.Serving.{step_handle}
use Rattle.law_turns.proofs.Streaming.{goes_sound, streams_unfollowed}
use Rattle.law_turns.proofs.Turning.{as_told, tells_none, dead_handle, live_as, main_done_handle, sleep_done_handle, fires_handle, group_done_handle}

module _ {S : Type 0} (limit : ℕ) (added : Extra S) where
  module _ (s : State S) (handle : Handle) (rest : List Handle) (first : s.loop.parts.pending ≡ handle ∷ rest)
      (sound : HasSoundLoop s) where
    abbrev out : State S
    out = unbooked_in (λ p. record p { pending = rest }) s

    -- ---- one that does nothing here
    off : (b : Bool) → (b && false) ≡ false
    off true = refl
    off false = refl

    idle_handle : (it : Action) → handle.action ≡ it → is_followed it ≡ false → ((id : ℕ) → fires id it ≡ false)
        → ((group : ℕ) → told_by group it [] ≡ []) → HasSoundLoop (noted (event.Ran it) out)
    idle_handle it is unfollowed no_fire none =
        as_told None (told_in s.events) (told_in (s.events ++ event.Ran it ∷ [])) (in_parts (taken rest) s.loop)
        (tells_none s.events it none)
        (idle_sound (told_in s.events) handle rest s.loop first
        (λ test follows. ap (λ a. not handle.dead && test a) is ∙ ap (λ b. not handle.dead && b) (follows it unfollowed) ∙ off (not handle.dead))
        (λ id. ap (λ a. not handle.dead && fires id a) is ∙ ap (λ b. not handle.dead && b) (no_fire id) ∙ off (not handle.dead)) sound)

    -- ---- one that steps a task
    steps_task : (it : Action) (task : ℕ) (input : Input) → handle.action ≡ it → steps task it ≡ true → handle.dead ≡ false
        → IsResumePoint (generator_of task s).resume_point s → FitsStep limit added task input (noted (event.Ran it) out)
        → LeavesSoundLoop (step limit added task input (noted (event.Ran it) out))
    steps_task it task input is mine live resume_point fit =
        subst (λ a. LeavesSoundLoop (step limit added task input (noted (event.Ran a) out))) is
        (step_handle limit added s task input handle rest first live (ap (steps task) is ∙ mine) sound resume_point
        (subst (λ a. FitsStep limit added task input (noted (event.Ran a) out)) (sym is) fit))

    -- ---- one of listeners, connections and children
    streams_handle : (it : Action) → handle.dead ≡ false → handle.action ≡ it → is_of_streams it ≡ true → ((id : ℕ) → fires id it ≡ false)
        → ((group : ℕ) → told_by group it [] ≡ []) → AreStreamsFutures s → LeavesSoundLoop (run_first limit added handle rest s)
    streams_handle it live is of no_fire none kept =
        live_as limit added s handle rest first sound it live is
        (goes_sound (noted (event.Ran it) out) (effect limit added it (noted (event.Ran it) out))
        (effect_is (noted (event.Ran it) out) (record { connections = kept.connections; children = kept.children }) limit added it of)
        (idle_handle it is (streams_unfollowed it of) no_fire none))

    lively : (it : Action) → handle.dead ≡ false → handle.action ≡ it → FitsAction limit added it s (noted (event.Ran it) out)
        → LeavesSoundLoop (run_first limit added handle rest s)
    unfolding effect
    lively (action.Step task) live is fit =
        live_as limit added s handle rest first sound (action.Step task) live is
        (steps_task (action.Step task) task (Send Nothing) is (eq-eqb task task refl) live fit.0 fit.1)
    lively (action.StepInCycle task cycle) live is fit =
        live_as limit added s handle rest first sound (action.StepInCycle task cycle) live is
        (steps_task (action.StepInCycle task cycle) task (Throw (cycle_exception cycle)) is (eq-eqb task task refl) live fit.0 fit.1)
    lively (action.Wakeup task) live is fit =
        live_as limit added s handle rest first sound (action.Wakeup task) live is
        (steps_task (action.Wakeup task) task (woken_with out.loop.parts task) is (eq-eqb task task refl) live fit.0 fit.1)
    lively (action.SleepDone task future) live is fit = sleep_done_handle limit added s handle rest first sound task future live is
    lively (action.GroupDone group task) live is fit = group_done_handle limit added s handle rest first sound group task live is
    lively (action.Fires timeout) live is fit = fires_handle limit added s handle rest first sound timeout live is
    lively action.MainDone live is fit = main_done_handle limit added s handle rest first sound live is
    lively (action.ExtraItem code bytes) live is fit =
        live_as limit added s handle rest first sound (action.ExtraItem code bytes) live is fit
    lively (action.Extra key) live is fit = live_as limit added s handle rest first sound (action.Extra key) live is fit
    lively it live is fit = streams_handle it live is refl (λ id. refl) (λ g. refl) (fit refl)

    handle_sound : (dead : Bool) → handle.dead ≡ dead → FitsLive limit added dead handle.action s (noted (event.Ran handle.action) out)
        → LeavesSoundLoop (run_first limit added handle rest s)
    handle_sound true e fit = dead_handle limit added s handle rest first sound e
    handle_sound false e fit = lively handle.action e refl fit

    pub first_sound : FitsLive limit added handle.dead handle.action s (noted (event.Ran handle.action) out)
        → LeavesSoundLoop (run_first limit added handle rest s)
    first_sound fit = handle_sound handle.dead refl fit

  -- ---- all before the bar
  went_sound : (Fits : State S → Type 0) (go_on : State S → Went S)
      → ((t : State S) → HasSoundLoop t → Fits t → LeavesSoundLoop (go_on t)) → (w : Went S) → LeavesSoundLoop w → GoesOnFit Fits w
      → LeavesSoundLoop (went_on go_on w)
  went_sound Fits go_on each (Goes now) h fit = each now h fit
  went_sound Fits go_on each (Stops end last) h fit = tt

  next_sound : (bar : ℕ) (Fits : State S → Type 0) (go_on : State S → Went S)
      → ((t : State S) → HasSoundLoop t → Fits t → LeavesSoundLoop (go_on t)) → (handles : List Handle) (s : State S)
      → s.loop.parts.pending ≡ handles → HasSoundLoop s → FitsNext limit added bar handles Fits s
      → LeavesSoundLoop (next_below limit added bar handles go_on s)
  next_sound bar Fits go_on each [] s e sound fit = sound
  next_sound bar Fits go_on each (handle ∷ rest) s e sound fit = at (nat_lt handle.stamp bar) fit
    where
      at : (b : Bool) → FitsIf limit added b handle rest Fits s → LeavesSoundLoop (run_if limit added b handle rest go_on s)
      at false fit = sound
      at true fit =
          went_sound Fits go_on each (run_first limit added handle rest s) (first_sound s handle rest e sound fit.0) fit.1

  pub below_sound : (bar count : ℕ) (s : State S) → HasSoundLoop s → FitsBelow limit added bar count s
      → LeavesSoundLoop (run_below limit added bar count s)
  unfolding run_below FitsBelow
  below_sound bar zero s sound fit = sound
  below_sound bar (suc count) s sound fit =
      next_sound bar (FitsBelow limit added bar count) (run_below limit added bar count)
      (λ t h f. below_sound bar count t h f) s.loop.parts.pending s refl sound fit

  -- ---- and the states between them
  then_sound : (Fits : State S → Type 0) (go_on : State S → List (State S))
      → ((t : State S) → HasSoundLoop t → Fits t → AreSound (go_on t)) → (w : Went S) → LeavesSoundLoop w → GoesOnFit Fits w
      → AreSound (then_mids go_on w)
  then_sound Fits go_on each (Goes now) h fit = (h, each now h fit)
  then_sound Fits go_on each (Stops end last) h fit = tt

  next_mids_sound : (bar : ℕ) (Fits : State S → Type 0) (go_on : State S → List (State S))
      → ((t : State S) → HasSoundLoop t → Fits t → AreSound (go_on t)) → (handles : List Handle) (s : State S)
      → s.loop.parts.pending ≡ handles → HasSoundLoop s → FitsNext limit added bar handles Fits s
      → AreSound (next_mids limit added bar handles go_on s)
  next_mids_sound bar Fits go_on each [] s e sound fit = tt
  next_mids_sound bar Fits go_on each (handle ∷ rest) s e sound fit = at (nat_lt handle.stamp bar) fit
    where
      at : (b : Bool) → FitsIf limit added b handle rest Fits s → AreSound (mids_if limit added b handle rest go_on s)
      at false fit = tt
      at true fit =
          then_sound Fits go_on each (run_first limit added handle rest s) (first_sound s handle rest e sound fit.0) fit.1

  pub mids_sound : (bar count : ℕ) (s : State S) → HasSoundLoop s → FitsBelow limit added bar count s
      → AreSound (mids_below limit added bar count s)
  unfolding mids_below FitsBelow
  mids_sound bar zero s sound fit = tt
  mids_sound bar (suc count) s sound fit =
      next_mids_sound bar (FitsBelow limit added bar count) (mids_below limit added bar count)
      (λ t h f. mids_sound bar count t h f) s.loop.parts.pending s refl sound fit

-- ---- a turn from its bar on
pub pending_sound : {S : Type 0} (limit : ℕ) (added : Extra S) (s : State S) → HasSoundLoop s → FitsPending limit added s
    → LeavesSoundLoop (run_pending limit added s)
pending_sound limit added s sound fit =
    below_sound limit added s.loop.parts.next_stamp (length s.loop.parts.pending) s sound fit

pub between_sound : {S : Type 0} (limit : ℕ) (added : Extra S) (s : State S) → HasSoundLoop s → FitsPending limit added s
    → AreSound (mids_from limit added s)
between_sound limit added s sound fit =
    (sound, mids_sound limit added s.loop.parts.next_stamp (length s.loop.parts.pending) s sound fit)
