-- Callbacks, turns and runs leave what is owed covered, so the ledger is right.
use Rattle.std.proofs.Common.{◌≡◌, ℕ, zero, suc, Bool, true, false, not, ◌&&◌, List, [], ◌∷◌, Option, Some, None, Ok, Err, filter, nat_le, nat_lt}
use Rattle.std.proofs.Common.{refl, ap, subst, ◌∙◌, le_refl, arith}
use Rattle.std.proofs.lemmas.Bool.{eq-eqb}
use Rattle.model_value.specs.Action.{Action}
use Rattle.model_value.specs.Input.{Input}
use Rattle.model_value.specs.Value.{Nothing, Outcome}
use Rattle.model_value.specs.declared.action.Action.TheVariants as action
use Rattle.model_value.specs.declared.input.Input.TheVariants.{Send, Throw}
use Rattle.model_value.specs.declared.outcome.Outcome.TheVariants.{Value as Returned}
use Rattle.model_tree.specs.Syntax.{Program}
use Rattle.model_says.specs.Endings.{Saying, Asks, Returns, Raises as Raised, Runaway}
use Rattle.model_says.specs.Says.{step_limit}
use Rattle.model_wire.specs.declared.event.Event.TheVariants as event
use Rattle.model_wire.specs.Call.{Answer}
use Rattle.model_wire.specs.Journal.{Entry}
use Rattle.model_loop.specs.Cycles.{cycle_exception}
use Rattle.model_loop.specs.Ending.{cancel_everything}
use Rattle.model_loop.specs.Futures.{settle}
use Rattle.model_loop.specs.Handles.{by_deadline, due, fall_due, soon_all}
use Rattle.model_loop.specs.Loop.{Loop, in_parts}
use Rattle.model_loop.specs.Parts.{Handle, Parts, Timer}
use Rattle.model_loop.specs.Sound.{IsSound}
use Rattle.model_loop.specs.Tasks.{begin_step, finish, next_task}
use Rattle.model_loop.specs.Ways.{steps}
use Rattle.model_machine.specs.Extra.{Extra}
use Rattle.model_machine.specs.Outcomes.{finished_as, woken_with}
use Rattle.model_machine.specs.Outside.{news_of, time_of}
use Rattle.model_machine.specs.Replies.{RequestReply, Answers, Raises, Suspends, Halts, reply}
use Rattle.model_machine.specs.Sound.{IsStateSound, ids_of, sends_made}
use Rattle.model_machine.specs.State.{ResumePoint, Asked, Sleeping, Leaving, Serving, Connecting, Yielding, Reading}
use Rattle.model_machine.specs.State.{ReadingAll, State, generator_of, noted, stands, start, unbooked_in}
use Rattle.model_machine.specs.Step.{given_up, most_answers, says_of, serve, serve_all, served, step, taken_as}
use Rattle.model_machine.specs.Turn.{at_time, cancelled_if, effect, finished_if, ran, run_first}
use Rattle.model_machine.specs.Turn.{turn, turn_over, woken_by}
use Rattle.model_machine.specs.Went.{Went, Goes, Stops, state_of}
use Rattle.law_cancel.proofs.Effects.{soon_all-tasks}
use Rattle.law_turns.proofs.Requests.{begin_after}
use Rattle.law_replies.specs.Added.{KeepsSound}
use Rattle.law_replies.proofs.Replying.{reply_in as replies_sound}
use Rattle.law_replies.specs.InStep.{IsStepSound, LeavesStateSound, RepliesInStep}
use Rattle.law_changes.proofs.Folds.{on}
use Rattle.law_changes.proofs.PartsRows.{begin_row}
use Rattle.law_cases.specs.Trees.{is_of_streams}
use Rattle.law_cases.proofs.Going.{effect_is}
use Rattle.law_promises.proofs.Streaming.{goes_covers}
use Rattle.law_reach.proofs.Running.{given_up_row}
use Rattle.law_runs.proofs.Beginning.{begins_in, begun_asked, resume_point_fit, stepped_lives}
use Rattle.law_runs.proofs.Callbacks.{woken_made}
use Rattle.law_runs.proofs.Folding.{turn_through}
use Rattle.law_runs.proofs.Turning.{turn_in}
use Rattle.law_promises.proofs.Later.{any, later_due, later_same, later_soon_all, later_then}
use Rattle.law_promises.specs.Taken.{EachAfter, HasRightLedgers}
use Rattle.law_promises.proofs.Reading.{reads_right}
use Rattle.law_promises.proofs.OwedByExits.{MayEnd}
use Rattle.law_promises.proofs.OwedByGroups.{child_covers}
use Rattle.law_promises.proofs.Loops.{IsGood, all_good, easy_alone, easy_end, easy_finish, easy_settle, fire_covers}
use Rattle.law_promises.proofs.Owed.{covers, easy_parts, easy_then, right_on, same_counts}
use Rattle.law_promises.specs.Owed.{IsCovered, IsRight}
use Rattle.law_promises.proofs.Replies.{Covers, decides_in, reply_in, right_of}

given_tasks : (st : ResumePoint) (p : Parts) → next_task (given_up st p) ≡ next_task p
given_tasks Asked p = refl
given_tasks (Sleeping tag) p = refl
given_tasks (Leaving group) p = refl
given_tasks (Serving key) p = refl
given_tasks (Connecting conn) p = refl
given_tasks (Yielding whom) p = refl
given_tasks (Reading from op on) p = refl
given_tasks (ReadingAll from taken on) p = refl

leaving_serves : (group key : ℕ) → Leaving group ≡ Serving key → ⊥
leaving_serves group key e = absurd (cc)

-- ---- a task's step
module _ {S : Type 0} (added : Extra S) (keeps : KeepsSound added) (task : ℕ) where
  after_in : (go_on : State S → Went S) → ((t : State S) → IsStepSound added task t → IsCovered t.loop → IsCovered (state_of (go_on t)).loop)
      → (fresh : Bool) (r : RequestReply S) → RepliesInStep added fresh task r → Covers r → IsCovered (state_of (taken_as r fresh task go_on)).loop
  after_in go_on each fresh (Answers value now) h c = each _ h c
  after_in go_on each fresh (Raises fault now) h c = each _ h c
  after_in go_on each fresh (Suspends now) h c = c
  after_in go_on each fresh (Halts end last) h c = c

  step_right : (t : State S) → IsStepSound added task t → IsRight t.loop
  step_right t its = right_of t (Some task) _ its.others.loop its.others.blocks its.others.generators

  served_in : (go_on : State S → Went S) → ((t : State S) → IsStepSound added task t → IsCovered t.loop → IsCovered (state_of (go_on t)).loop)
      → (saying : Saying) (t : State S) → IsStepSound added task t → IsCovered t.loop → says_of step_limit added task t ≡ saying
      → IsCovered (state_of (served step_limit added saying task go_on t)).loop
  served_in go_on each (Asks asked) t its c says =
      after_in go_on each false (reply added task asked t) (replies_sound added keeps task t its asked says) (reply_in added task t its c asked says)
  served_in go_on each (Returns value) t its c says =
      covers t.loop (in_parts (finish task (Ok value)) t.loop) (easy_finish task (Ok value) t.loop) (step_right t its) c
  served_in go_on each (Raised fault) t its c says =
      covers t.loop (in_parts (finish task (Err fault)) t.loop) (easy_finish task (Err fault) t.loop) (step_right t its) c
  served_in go_on each Runaway t its c says = c

  serve_in : (answers : ℕ) (t : State S) → IsStepSound added task t → IsCovered t.loop
      → IsCovered (state_of (serve step_limit added answers task t)).loop
  unfolding serve
  serve_in zero t its c = c
  serve_in (suc answers) t its c =
      served_in (serve step_limit added answers task) (λ u h d. serve_in answers u h d) (says_of step_limit added task t) t its c refl

  begun_good : (st : ResumePoint) (input : Input) (l : Loop) (rest : List Handle) → IsGood l
      → IsGood (record l { parts = (begin_step task input (given_up st (record l.parts { pending = rest }))).parts })
  begun_good st input l rest is =
      let gone = record l.parts { pending = rest } in
      let up = given_up st gone in
      let q = (begin_step task input up).parts in
      let m = record l { parts = gone } in
      let a = easy_then l m (record l { parts = q }) (easy_parts l gone (later_same l.parts gone refl refl) (λ other. le_refl _))
      (easy_alone task m (on (given_up_row task st gone) (begin_row task input up))) in
      record {
        right = right_on l (record l { parts = q }) a.later ((begin_after any false None task input up).same refl ∙ given_tasks st gone) (λ other. le_refl _)
            is.right;
        covered = covers l (record l { parts = q }) a is.right is.covered;
      }

  step_in : (s : State S) (input : Input) (handle : Handle) (rest : List Handle) → s.loop.parts.pending ≡ handle ∷ rest → handle.dead ≡ false
      → steps task handle.action ≡ true → IsStateSound added s → sends_made (ids_of s) input ≡ true → IsGood s.loop
      → IsCovered (state_of (step step_limit added task input
      (noted (event.Ran handle.action) (unbooked_in (λ p. record p { pending = rest }) s)))).loop
  unfolding step
  step_in s input handle rest first live mine sound given_ is =
      let gone = noted (event.Ran handle.action) (unbooked_in (λ p. record p { pending = rest }) s) in
      let resume_point = (generator_of task s).resume_point in
      let begun = begin_step task input (given_up resume_point gone.loop.parts) in
      let awake = stands Asked task (unbooked_in (λ p. begun.parts) gone) in
      let a = sound.asking task (stepped_lives added s task input handle rest first live mine sound) refl in
      after_in (serve_all step_limit added task) (λ t h d. serve_in (most_answers step_limit (generator_of task t).tape) t h d) true _
      (begins_in added s task input handle rest first live mine sound keeps given_)
      (decides_in added resume_point task begun.input awake
      (begun_asked added s task input handle rest first live mine sound a.asked a.says).others.streams a.asked a.stands
      (λ group at. leaves group at (begun_asked added s task input handle rest first live mine sound a.asked a.says).others.loop)
      (begun_good resume_point input s.loop rest is))
    where
      -- a group at whose exit it stands, once its step began
      leaves : (group : ℕ) → (generator_of task s).resume_point ≡ Leaving group → {told : ℕ → List ℕ} {p : Parts}
          → IsSound (Some task) told (record s.loop { parts = p }) → MayEnd group (record s.loop { parts = p })
      leaves group at now =
          let f = resume_point_fit added s task input handle rest first live mine sound (Leaving group) at (λ key x. leaving_serves group key x) in
          let entered = (sound.loop.groups group).orderly.exiting_entered f.1 in
          record { within = f.0; entered = entered; open_ = f.2; living = λ none. (now.groups group).tellings.parent_lives entered f.2 }

-- ---- a callback
module _ {S : Type 0} (added : Extra S) (keeps : KeepsSound added) (s : State S) (handle : Handle) (rest : List Handle)
    (first : s.loop.parts.pending ≡ handle ∷ rest) (sound : IsStateSound added s) (c : IsCovered s.loop) where
  abbrev out : State S
  out = unbooked_in (λ p. record p { pending = rest }) s

  right : IsRight s.loop
  right = right_of s None _ sound.loop sound.blocks sound.generators

  good : IsGood out.loop
  good =
      let a = easy_parts s.loop (record s.loop.parts { pending = rest }) (later_same _ _ refl refl) (λ task. le_refl _) in
      record { right = right_on s.loop out.loop a.later refl a.owes right; covered = covers s.loop out.loop a right c }

  steps_in : (it : Action) (task : ℕ) (input : Input) → handle.action ≡ it → steps task it ≡ true → handle.dead ≡ false
      → sends_made (ids_of s) input ≡ true → IsCovered (state_of (step step_limit added task input (noted (event.Ran it) out))).loop
  steps_in it task input is mine live given_ =
      subst (λ a. IsCovered (state_of (step step_limit added task input (noted (event.Ran a) out))).loop) is
      (step_in added keeps task s input handle rest first live (ap (steps task) is ∙ mine) sound given_ (record { right = right; covered = c }))

  -- of listeners, connections and children
  streams_handle : (it : Action) → is_of_streams it ≡ true → IsCovered (state_of (effect step_limit added it (noted (event.Ran it) out))).loop
  streams_handle it of =
      goes_covers (noted (event.Ran it) out) good.right good.covered (effect step_limit added it (noted (event.Ran it) out))
      (effect_is (noted (event.Ran it) out) (record { connections = sound.streams.connections; children = sound.streams.children }) step_limit added it of)

  lively : (it : Action) → handle.action ≡ it → handle.dead ≡ false → IsCovered (state_of (effect step_limit added it (noted (event.Ran it) out))).loop
  unfolding effect
  lively (action.Step task) is live = steps_in (action.Step task) task (Send Nothing) is (eq-eqb task task refl) live refl
  lively (action.StepInCycle task cycle) is live =
      steps_in (action.StepInCycle task cycle) task (Throw (cycle_exception cycle)) is (eq-eqb task task refl) live refl
  lively (action.Wakeup task) is live =
      steps_in (action.Wakeup task) task (woken_with out.loop.parts task) is (eq-eqb task task refl) live (woken_made added s sound task)
  lively (action.SleepDone task future) is live =
      covers out.loop (in_parts (settle future (Returned Nothing)) out.loop) (easy_settle future (Returned Nothing) out.loop) good.right good.covered
  lively (action.GroupDone group task) is live = child_covers group task out.loop sound.loop.parts.owns good.right good.covered
  lively (action.Fires timeout) is live = fire_covers timeout out.loop sound.loop.parts.owns good.right good.covered
  lively (action.ExtraItem code bytes) is live =
      (all_good (added.item code bytes (noted (event.Ran (action.ExtraItem code bytes)) out)).steps out.loop good).covered
  lively (action.Extra key) is live = (all_good (added.act key (noted (event.Ran (action.Extra key)) out)).steps out.loop good).covered
  lively action.MainDone is live = good.covered
  lively (action.Made conn) is live = streams_handle (action.Made conn) refl
  lively (action.StartRead conn) is live = streams_handle (action.StartRead conn) refl
  lively (action.Lost conn broken) is live = streams_handle (action.Lost conn broken) refl
  lively (action.HandlerDone conn task) is live = streams_handle (action.HandlerDone conn task) refl
  lively (action.ReadableServer server) is live = streams_handle (action.ReadableServer server) refl
  lively (action.Readable conn) is live = streams_handle (action.Readable conn) refl
  lively (action.Writable conn) is live = streams_handle (action.Writable conn) refl
  lively (action.Up conn) is live = streams_handle (action.Up conn) refl
  lively (action.Down conn) is live = streams_handle (action.Down conn) refl
  lively (action.WritableChild child) is live = streams_handle (action.WritableChild child) refl
  lively (action.ChildItem child told) is live = streams_handle (action.ChildItem child told) refl
  lively (action.LostChild child broken) is live = streams_handle (action.LostChild child broken) refl

  pub first_in : IsCovered (state_of (run_first step_limit added handle rest s)).loop
  first_in = at handle.dead refl
    where
      at : (dead : Bool) → handle.dead ≡ dead → IsCovered (state_of (ran step_limit added dead handle.action out)).loop
      at true e = good.covered
      at false e = lively handle.action refl e

-- ---- all callbacks before the bar
fall_due-tasks : (timers : List Timer) (p : Parts) → (fall_due timers p).tasks ≡ p.tasks
fall_due-tasks [] p = refl
fall_due-tasks (timer ∷ timers) p = fall_due-tasks timers _

due_tasks : (p : Parts) → (due p).tasks ≡ p.tasks
due_tasks p =
    fall_due-tasks (by_deadline (filter (λ (timer : Timer). nat_le timer.when p.time) p.timers))
    (record p { timers = filter (λ (timer : Timer). nat_lt p.time timer.when) p.timers })

module _ {S : Type 0} (added : Extra S) where
  state_right : (s : State S) → IsStateSound added s → IsRight s.loop
  state_right s sound = right_of s None _ sound.loop sound.blocks sound.generators

  module _ (keeps : KeepsSound added) where
    -- ---- a turn
    over_in : (done_before : Bool) (s : State S) → IsStateSound added s → IsCovered s.loop → IsCovered (state_of (turn_over done_before s)).loop
    over_in done_before s sound c = at (s.main_done && not done_before)
      where
        cancelled : IsCovered (cancel_everything s.loop)
        cancelled = covers s.loop (cancel_everything s.loop) (easy_end s.loop) (state_right s sound) c

        finished : (o : Option Outcome) (b : Bool) → IsCovered (state_of (finished_if o (cancelled_if b s))).loop
        finished None true = cancelled
        finished (Some outcome) true = cancelled
        finished None false = c
        finished (Some outcome) false = c

        at : (b : Bool) → IsCovered (state_of (finished_if (finished_as (cancelled_if b s)) (cancelled_if b s))).loop
        at b = finished (finished_as (cancelled_if b s)) b

    woken_covers : (answer : Answer) (s : State S) → IsStateSound added s → IsCovered s.loop → IsCovered (unbooked_in (woken_by answer) s).loop
    woken_covers answer s sound c =
        let woken = unbooked_in (woken_by answer) s in
        let p = at_time (time_of answer) s.loop.parts in
        let came = soon_all (news_of answer) p in
        let later = later_then s.loop.parts p woken.loop.parts (later_same s.loop.parts p refl refl)
        (later_then p came woken.loop.parts (later_soon_all (news_of answer) p) (later_due came)) in
        let a = easy_parts s.loop woken.loop.parts later
        (same_counts s.loop.parts woken.loop.parts (due_tasks came ∙ soon_all-tasks (news_of answer) p)) in
        covers s.loop woken.loop a (state_right s sound) c

    turn_covers : (s : State S) → IsStateSound added s → IsCovered s.loop → IsCovered (state_of (turn step_limit added s)).loop
    turn_covers = turn_through added keeps (λ s t. IsCovered s.loop → IsCovered t.loop) (record {
      same = λ s c. c;
      next = λ s t u a b c. b (a c);
      asked = λ call s sound c. c;
      got = λ call answer entries s sound c. c;
      woken = woken_covers;
      first = λ s handle rest e sound c. first_in added keeps s handle rest e sound c;
      over = over_in;
    })

    -- ---- a run
    each_in : (each : State S → Type 0) (w : Went S) → LeavesStateSound added w → IsCovered (state_of w).loop
        → ((t : State S) → IsStateSound added t → IsCovered t.loop → each t) → EachAfter each w
    each_in each (Goes now) h c rest = rest now h c
    each_in each (Stops end last) h c rest = reads_right last.loop.ledger c.found

    pub run_in : (turns : ℕ) (s : State S) → IsStateSound added s → IsCovered s.loop → HasRightLedgers added turns s
    unfolding HasRightLedgers
    run_in zero s sound c = reads_right s.loop.ledger c.found
    run_in (suc turns) s sound c = (
      reads_right s.loop.ledger c.found,
      each_in (HasRightLedgers added turns) (turn step_limit added s) (turn_in added keeps s sound)
          (turn_covers s sound c) (λ t h d. run_in turns t h d),
    )

pub begins_covered : {S : Type 0} (most : ℕ) (state : S) (program : Program) (answers : List Entry) → IsCovered (start most state program answers).loop
begins_covered most state program answers = record {
  timeouts_few = omega arith;
  groups_few = omega arith;
  covered = λ task h none. omega arith;
  found = tt;
}
