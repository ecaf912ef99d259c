-- A task's step keeps the loop sound, where each request that it makes is fit.
use Rattle.std.proofs.Common.{◌≡◌, ℕ, zero, suc, Bool, true, false, List, ◌∷◌, Ok, Err}
use Rattle.model_value.specs.Input.{Input}
use Rattle.model_says.specs.Endings.{Saying, Asks, Returns, Raises as Raised, Runaway}
use Rattle.model_wire.specs.declared.event.Event.TheVariants as event
use Rattle.model_loop.specs.Parts.{Handle}
use Rattle.model_loop.specs.Ways.{steps}
use Rattle.model_machine.specs.Extra.{Extra}
use Rattle.model_machine.specs.Replies.{RequestReply, Answers, Raises, Suspends, Halts, reply}
use Rattle.model_machine.specs.State.{State, generator_of, noted, unbooked_in}
use Rattle.model_machine.specs.Step.{taken_as, says_of, served, serve, serve_all, most_answers, step}
use Rattle.model_machine.specs.Told.{told_in}
use Rattle.model_machine.specs.Went.{Went}
use Rattle.law_sound.proofs.Steps.{finish_step_sound}
use Rattle.law_turns.specs.Fits.{FitsAfter, FitsSaying, FitsWithin, FitsAll, FitsStep}
use Rattle.law_turns.specs.Replied.{RunsSound, RepliesSound, IsResumePoint}
use Rattle.law_turns.specs.SoundState.{HasSoundLoop, LeavesSoundLoop}
use Rattle.law_turns.proofs.Streaming.{reply_sound}
use Rattle.law_turns.proofs.Stepping.{step_begins}

module _ {S : Type 0} (limit : ℕ) (added : Extra S) (task : ℕ) where
  -- what comes after an answer
  after_sound : (Fits : State S → Type 0) (go_on : State S → Went S)
      → ((t : State S) → RunsSound task t → Fits t → LeavesSoundLoop (go_on t)) → (fresh : Bool) (r : RequestReply S)
      → RepliesSound task r → FitsAfter Fits fresh task r → LeavesSoundLoop (taken_as r fresh task go_on)
  after_sound Fits go_on each fresh (Answers value now) h fit = each _ h fit
  after_sound Fits go_on each fresh (Raises fault now) h fit = each _ h fit
  after_sound Fits go_on each fresh (Suspends now) h fit = h
  after_sound Fits go_on each fresh (Halts end last) h fit = tt

  served_sound : (Fits : State S → Type 0) (go_on : State S → Went S)
      → ((t : State S) → RunsSound task t → Fits t → LeavesSoundLoop (go_on t)) → (saying : Saying) (s : State S)
      → RunsSound task s → FitsSaying limit added task Fits saying s → LeavesSoundLoop (served limit added saying task go_on s)
  served_sound Fits go_on each (Asks request) s sound fit =
      after_sound Fits go_on each false (reply added task request s) (reply_sound task added request s sound fit.1 fit.0) fit.2
  served_sound Fits go_on each (Returns value) s sound fit =
      finish_step_sound (told_in s.events) task (Ok value) s.loop fit sound
  served_sound Fits go_on each (Raised fault) s sound fit =
      finish_step_sound (told_in s.events) task (Err fault) s.loop fit sound
  served_sound Fits go_on each Runaway s sound fit = tt

  serve_sound : (answers : ℕ) (s : State S) → RunsSound task s → FitsWithin limit added task answers s
      → LeavesSoundLoop (serve limit added answers task s)
  unfolding serve FitsWithin
  serve_sound zero s sound fit = tt
  serve_sound (suc answers) s sound fit =
      served_sound (FitsWithin limit added task answers) (serve limit added answers task)
      (λ t h f. serve_sound answers t h f) (says_of limit added task s) s sound fit

  -- ---- a handle that steps the task
  module _ (s : State S) (handle : Handle) (rest : List Handle) (first : s.loop.parts.pending ≡ handle ∷ rest)
      (live : handle.dead ≡ false) (mine : steps task handle.action ≡ true) (sound : HasSoundLoop s)
      (resume_point : IsResumePoint (generator_of task s).resume_point s) where
    abbrev gone : State S
    gone = noted (event.Ran handle.action) (unbooked_in (λ p. record p { pending = rest }) s)

    pub stepped : (input : Input) → FitsStep limit added task input gone → LeavesSoundLoop (step limit added task input gone)
    unfolding step
    stepped input fit =
        after_sound (FitsAll limit added task) (serve_all limit added task)
        (λ t h f. serve_sound (most_answers limit (generator_of task t).tape) t h f) true _
        (step_begins added s task input handle rest first live mine sound (generator_of task s).resume_point resume_point) fit

-- ---- the whole callback
pub step_handle : {S : Type 0} (limit : ℕ) (added : Extra S) (s : State S) (task : ℕ) (input : Input) (handle : Handle)
    (rest : List Handle) → s.loop.parts.pending ≡ handle ∷ rest → handle.dead ≡ false → steps task handle.action ≡ true
    → HasSoundLoop s → IsResumePoint (generator_of task s).resume_point s
    → FitsStep limit added task input (noted (event.Ran handle.action) (unbooked_in (λ p. record p { pending = rest }) s))
    → LeavesSoundLoop (step limit added task input (noted (event.Ran handle.action) (unbooked_in (λ p. record p { pending = rest }) s)))
step_handle limit added s task input handle rest first live mine sound resume_point fit =
    stepped limit added task s handle rest first live mine sound resume_point input fit
