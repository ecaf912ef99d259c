-- A task's must_cancel stays in what doesn't step it: requests and steps of other tasks, callbacks, and what a turn does besides.
use Rattle.std.proofs.Common.{◌≡◌, ◌⊎◌, ℕ, Bool, true, false, cond, not, ◌&&◌, List, Option, Some, None, slice_get, sym, ap, ◌∙◌}
use Rattle.std.specs.Option.{option_map_or}
use Rattle.std.proofs.lemmas.Bool.{eq-eqb, false≢true}
use Rattle.model_value.specs.Action.{Action}
use Rattle.model_value.specs.declared.action.Action.TheVariants as action
use Rattle.model_value.specs.Input.{Input}
use Rattle.model_value.specs.Value.{Outcome}
use Rattle.model_wire.specs.Call.{Answer}
use Rattle.model_loop.specs.Handles.{soon_all}
use Rattle.model_loop.specs.Parts.{Handle, Parts, Task}
use Rattle.model_loop.specs.Tasks.{begin_step, cancelling_input, must_cancel_of}
use Rattle.model_loop.specs.Ways.{steps}
use Rattle.model_machine.specs.Extra.{Extra}
use Rattle.model_machine.specs.State.{ResumePoint, Asked, Sleeping, Leaving, Serving, Connecting, Yielding, Reading, ReadingAll, State, generator_of}
use Rattle.model_machine.specs.State.{unbooked_in}
use Rattle.model_machine.specs.Step.{given_up}
use Rattle.model_machine.specs.Outcomes.{finished_as}
use Rattle.model_machine.specs.Outside.{news_of, time_of}
use Rattle.model_machine.specs.Turn.{at_time, cancelled_if, finished_if, run_first, turn_over, woken_by}
use Rattle.model_machine.specs.Went.{state_of}
use Rattle.law_cancel.proofs.Effects.{soon_all-tasks}
use Rattle.law_groups.proofs.Due.{due-tasks}
use Rattle.law_reach.specs.Changes.{runner_of}
use Rattle.law_reach.proofs.Loops.{loop_of}
use Rattle.law_reach.proofs.Running.{ran_goes}
use Rattle.law_reach.proofs.Turning.{taken_loop}
use Rattle.law_promises.proofs.Falling.{cancels_input}
use Rattle.law_promises.proofs.MustCancelStays.{end_keeps, nobody}
use Rattle.law_promises.proofs.TakingBack.{followed_then, row_followed}
use Rattle.law_promises.specs.KeepsMustCancel.{AllTakenBack}
use Rattle.law_promises.specs.MustCancelIn.{IsMustCancel, ThrowsCancel}

apart : (it : Action) (me : ℕ) → steps me it ≡ false → runner_of it ≡ Some me → ⊥
apart it me h e = at it h e
  where
    same : (task : ℕ) → steps me (action.Step task) ≡ false → Some task ≡ Some me → ⊥
    same task h e = absurd (false≢true (sym h ∙ eq-eqb task me cc))

    at : (it : Action) → steps me it ≡ false → runner_of it ≡ Some me → ⊥
    at (action.Step task) h e = same task h e
    at (action.StepInCycle task cycle) h e = same task h e
    at (action.Wakeup task) h e = same task h e
    at _ h e = absurd cc

pub first_must_cancel : {S : Type 0} (me limit : ℕ) (added : Extra S) (handle : Handle) (rest : List Handle) (s : State S)
    → steps me handle.action ≡ false → IsMustCancel me s
    → IsMustCancel me (state_of (run_first limit added handle rest s)) ⊎ AllTakenBack me s.loop (state_of (run_first limit added handle rest s)).loop
first_must_cancel me limit added handle rest s h m =
    let out = unbooked_in (λ p. record p { pending = rest }) s in
    let ran = loop_of added (ran_goes limit added handle.dead handle.action out).reaches in
    (followed_then me s.loop out.loop _ (row_followed me (taken_loop rest s.loop) (nobody me)) (row_followed me ran (apart handle.action me h))).keeps m

pub woken_by_must_cancel : {S : Type 0} (me : ℕ) (answer : Answer) (s : State S) → IsMustCancel me s → IsMustCancel me (unbooked_in (woken_by answer) s)
woken_by_must_cancel me answer s m =
    let came = soon_all (news_of answer) (at_time (time_of answer) s.loop.parts) in
    ap (λ (tasks : List Task). option_map_or (λ (t : Task). t.must_cancel) (slice_get tasks me) false)
    (due-tasks came ∙ soon_all-tasks (news_of answer) (at_time (time_of answer) s.loop.parts)) ∙ m

pub over_must_cancel : {S : Type 0} (me : ℕ) (done_before : Bool) (s : State S) → IsMustCancel me s → IsMustCancel me (state_of (turn_over done_before s))
over_must_cancel me done_before s m = at (s.main_done && not done_before)
  where
    finished : (o : Option Outcome) (b : Bool) → IsMustCancel me (state_of (finished_if o (cancelled_if b s)))
    finished None true = end_keeps s.loop me m
    finished (Some outcome) true = end_keeps s.loop me m
    finished None false = m
    finished (Some outcome) false = m

    at : (b : Bool) → IsMustCancel me (state_of (finished_if (finished_as (cancelled_if b s)) (cancelled_if b s)))
    at b = finished (finished_as (cancelled_if b s)) b

-- ---- its own step
given_up_must_cancel : (task : ℕ) (resume_point : ResumePoint) (p : Parts) → must_cancel_of p task ≡ true → must_cancel_of (given_up resume_point p) task ≡ true
given_up_must_cancel task Asked p m = m
given_up_must_cancel task (Sleeping tag) p m = m
given_up_must_cancel task (Leaving group) p m = m
given_up_must_cancel task (Serving key) p m = m
given_up_must_cancel task (Connecting conn) p m = m
given_up_must_cancel task (Yielding whom) p m = m
given_up_must_cancel task (Reading from op on) p m = m
given_up_must_cancel task (ReadingAll from taken on) p m = m

pub thrown : {S : Type 0} (s : State S) (task : ℕ) (input : Input) → IsMustCancel task s
    → ThrowsCancel (begin_step task input (given_up (generator_of task s).resume_point s.loop.parts)).input
thrown s task input m =
    let h = given_up_must_cancel task (generator_of task s).resume_point s.loop.parts m in
    let c = cancels_input input in
    (c.0, ap (λ b. cond b (cancelling_input input) input) h ∙ c.1, c.2)
