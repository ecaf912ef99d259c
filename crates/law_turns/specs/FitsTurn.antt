-- What the callbacks of a turn need: each step of a task is fit, what is added keeps the loop sound by itself, and what
-- connections and children keep are plain futures.
use Rattle.std.specs.Prelude.{◌≡◌, ℕ, zero, suc, Bool, true, false, List, [], ◌∷◌, length, nat_lt}
use Rattle.model_value.specs.Action.{Action}
use Rattle.model_value.specs.Value.{Nothing}
use Rattle.model_value.specs.declared.action.Action.TheVariants as action
use Rattle.model_value.specs.declared.input.Input.TheVariants.{Send, Throw}
use Rattle.model_wire.specs.declared.event.Event.TheVariants as event
use Rattle.model_loop.specs.Cycles.{cycle_exception}
use Rattle.model_loop.specs.Parts.{Handle}
use Rattle.model_machine.specs.Extra.{Extra}
use Rattle.model_machine.specs.Outcomes.{woken_with}
use Rattle.model_machine.specs.Sound.{AreStreamsFutures}
use Rattle.model_machine.specs.State.{State, generator_of, noted, unbooked_in}
use Rattle.model_machine.specs.Turn.{effect, run_first}
use Rattle.model_machine.specs.Went.{Went, Goes, Stops}
use Rattle.law_cases.specs.Trees.{is_of_streams}
use Rattle.law_turns.specs.Fits.{FitsStep}
use Rattle.law_turns.specs.Replied.{IsResumePoint}
use Rattle.law_turns.specs.SoundState.{HasSoundLoop, LeavesSoundLoop}

-- all of these states are sound
abbrev pub AreSound : {S : Type 0} → List (State S) → Type 0
AreSound [] = Unit {0}
AreSound (s ∷ states) = HasSoundLoop s × AreSound states

-- what goes on does so
abbrev pub GoesOnFit : {S : Type 0} → (State S → Type 0) → Went S → Type 0
GoesOnFit then_ (Goes now) = then_ now
GoesOnFit then_ (Stops end last) = Unit {0}

module _ {S : Type 0} (limit : ℕ) (added : Extra S) where
  -- `s` is the state before the handle was taken out, and `gone` the one after that
  abbrev pub FitsAction : Action → (s gone : State S) → Type 0
  FitsAction (action.Step task) s gone =
      IsResumePoint (generator_of task s).resume_point s × FitsStep limit added task (Send Nothing) gone
  FitsAction (action.StepInCycle task cycle) s gone =
      IsResumePoint (generator_of task s).resume_point s × FitsStep limit added task (Throw (cycle_exception cycle)) gone
  FitsAction (action.Wakeup task) s gone =
      IsResumePoint (generator_of task s).resume_point s × FitsStep limit added task (woken_with gone.loop.parts task) gone
  FitsAction (action.ExtraItem code bytes) s gone =
      LeavesSoundLoop (effect limit added (action.ExtraItem code bytes) gone)
  FitsAction (action.Extra key) s gone = LeavesSoundLoop (effect limit added (action.Extra key) gone)
  FitsAction it s gone = is_of_streams it ≡ true → AreStreamsFutures s

  -- a dead handle needs nothing
  abbrev pub FitsLive : (dead : Bool) → Action → (s gone : State S) → Type 0
  FitsLive true it s gone = Unit {0}
  FitsLive false it s gone = FitsAction it s gone

  abbrev pub FitsIf : (below : Bool) → Handle → List Handle → (State S → Type 0) → State S → Type 0
  FitsIf true handle rest then_ s =
      FitsLive handle.dead handle.action s
      (noted (event.Ran handle.action) (unbooked_in (λ p. record p { pending = rest }) s))
      × GoesOnFit then_ (run_first limit added handle rest s)
  FitsIf false handle rest then_ s = Unit {0}

  abbrev pub FitsNext : (bar : ℕ) → List Handle → (State S → Type 0) → State S → Type 0
  FitsNext bar [] then_ s = Unit {0}
  FitsNext bar (handle ∷ rest) then_ s = FitsIf (nat_lt handle.stamp bar) handle rest then_ s

  -- the callbacks before the bar
  unfoldable pub FitsBelow : (bar count : ℕ) → State S → Type 0
  FitsBelow bar zero s = Unit {0}
  FitsBelow bar (suc count) s = FitsNext bar s.loop.parts.pending (FitsBelow bar count) s

  -- all that are pending as a turn comes to its bar
  abbrev pub FitsPending : State S → Type 0
  FitsPending s = FitsBelow s.loop.parts.next_stamp (length s.loop.parts.pending) s
