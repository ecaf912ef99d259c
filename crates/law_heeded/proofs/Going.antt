-- What isn't of what is added leaves its futures, and lets nobody come to hold one.
use Rattle.std.proofs.Common.{◌≡◌, ℕ, Bool, true, false, List, ◌∷◌, Option, Some, None, Result, refl, sym, ap, subst, ◌∙◌, arith, le_refl}
use Rattle.std.proofs.lemmas.Bool.{false≢true}
use Rattle.model_value.specs.Action.{Action}
use Rattle.model_value.specs.declared.action.Action.TheVariants as action
use Rattle.model_value.specs.declared.request.Request.TheVariants as request
use Rattle.model_value.specs.Input.{Input}
use Rattle.model_value.specs.Request.{Request}
use Rattle.model_value.specs.Value.{Exc, Value}
use Rattle.model_wire.specs.declared.event.Event.TheVariants as event
use Rattle.model_wire.specs.Call.{Answer}
use Rattle.model_wire.specs.Journal.{Entry}
use Rattle.model_loop.specs.Ending.{cancel_everything}
use Rattle.model_loop.specs.Futures.{next_future}
use Rattle.model_loop.specs.Loop.{Loop, in_parts}
use Rattle.model_loop.specs.Handles.{soon_all}
use Rattle.model_loop.specs.Parts.{Handle, Parts}
use Rattle.model_loop.specs.Tasks.{begin_step, finish}
use Rattle.model_loop.specs.Ways.{steps}
use Rattle.model_machine.specs.Extra.{Extra}
use Rattle.model_machine.specs.Replies.{decides, reply}
use Rattle.model_machine.specs.Sound.{StandsUnder}
use Rattle.model_machine.specs.State.{ResumePoint, Asked, Serving, State, generator_of, in_loop, resumed, stands, unbooked_in}
use Rattle.model_machine.specs.Step.{given_up}
use Rattle.model_machine.specs.Outside.{news_of, time_of}
use Rattle.model_machine.specs.Turn.{at_time, call_of, run_first, woken_by}
use Rattle.model_machine.specs.Went.{state_of}
use Rattle.law_apart.specs.Apart as apart
use Rattle.law_apart.specs.Apart.{IsApart, steps_or_extra}
use Rattle.law_apart.proofs.Callbacks.{first_on}
use Rattle.law_apart.proofs.Loops.{Safe, begin_safe, end_safe, finish_safe, woken_safe}
use Rattle.law_apart.proofs.Requests as apart_by
use Rattle.law_apart.proofs.Requests.{StateBoth}
use Rattle.law_cancel.proofs.Effects.{soon_all-tasks}
use Rattle.law_calls.specs.Told.{is_of_extra}
use Rattle.law_changes.proofs.LoopRows as rows
use Rattle.law_changes.proofs.LoopRows.{in_parts_row}
use Rattle.law_changes.proofs.PartsRows as parts_rows
use Rattle.law_changes.proofs.Folds.{on}
use Rattle.law_changes.specs.Changes.{FallsDue, LeavesPending}
use Rattle.law_kept.specs.Walks as kept
use Rattle.law_kept.proofs.Loops as kept_rows
use Rattle.law_kept.proofs.Loops.{Row}
use Rattle.law_kept.proofs.Standing.{set_nowhere}
use Rattle.law_reach.proofs.Running.{given_up_row}
use Rattle.law_reach.specs.Reaches.{left_by}
use Rattle.law_heeded.specs.Owned.{AreApart, is_own}
use Rattle.law_heeded.specs.Walks.{Beside, heard, runs}
use Rattle.law_heeded.proofs.Quiet.{IsQuiet, decides_quiet, first_quiet, heard_quiet, loop_quiet, noted_quiet, out_quiet, quiet_then}
use Rattle.law_heeded.proofs.Quiet.{ran_untold, reply_quiet, resumed_quiet, stands_quiet}
use Rattle.law_heeded.proofs.Still.{Still, change_still, row_still, same_tasks, still_then}

woken_still : (answer : Answer) (p : Parts) → Still None p (woken_by answer p)
woken_still answer p =
    let timed = at_time (time_of answer) p in
    let came = soon_all (news_of answer) timed in
    still_then None p came (woken_by answer p) (same_tasks None p came (soon_all-tasks (news_of answer) timed)) (change_still None FallsDue came refl)

pub asked_serves : (key : ℕ) → Asked ≡ Serving key → ⊥
asked_serves key e = absurd (cc)

module _ {S : Type 0} (added : Extra S) where
  pub record Both (s t : State S) : Type 0 where
    pub beside : Beside added s t
    pub apart : AreApart added t

  abbrev pub Goes : State S → State S → Type 0
  Goes s t = AreApart added s → Both s t

  -- the task that runs stands at no request of what is added
  abbrev pub Nowhere : (r : Option ℕ) → State S → Type 0
  Nowhere r s = (task key : ℕ) → r ≡ Some task → StandsUnder s.generators task key → ⊥

  -- so many were made by then
  pub apart_later : (s t : State S) → t.extra ≡ s.extra → (a : AreApart added s)
      → StateBoth (is_own added s.extra) (next_future s.loop.parts) a.below s t → AreApart added t
  apart_later s t same a b =
      let more = b.leaves.more in
      record {
        below = λ future own.
            let l = a.below future (ap (λ (extra : S). is_own added extra future) (sym same) ∙ own) in omega (arith, l, more);
        apart = subst (λ extra. IsApart (is_own added extra) (next_future t.loop.parts) t) (sym same) (record {
          loop = record {
            parts = record {
              reached = le_refl _;
              pending = b.apart.loop.parts.pending;
              timers = b.apart.loop.parts.timers;
              callbacks = b.apart.loop.parts.callbacks;
              tasks = b.apart.loop.parts.tasks;
            };
            groups = b.apart.loop.groups;
          };
          streams = b.apart.streams;
          scripts = b.apart.scripts;
        });
      }

  -- what is quiet, and leaves them
  abbrev pub LeavesOurs : State S → State S → Type 0
  LeavesOurs s t = (a : AreApart added s) → StateBoth (is_own added s.extra) (next_future s.loop.parts) a.below s t

  pub both : (r : Option ℕ) (s t : State S) → IsQuiet r s t → Nowhere r t → LeavesOurs s t → Goes s t
  both r s t quiet nowhere leaves a =
      let b = leaves a in
      record {
        beside = record {
          all = quiet.all;
          told = quiet.told;
          leaves = b.leaves;
          tasks = quiet.still.tasks;
          waits = λ task key stands_there. quiet.still.waiters task (λ e. nowhere task key e stands_there);
        };
        apart = apart_later s t quiet.all.kept a b;
      }

  -- nobody runs
  none_runs : (s : State S) → Nowhere None s
  none_runs s task key e = absurd (cc)

  -- of the loop alone
  loop_goes : (r : Option ℕ) (s : State S) (l : Loop) → Row s.loop l → Still r s.loop.parts l.parts
      → ((ours : ℕ → Bool) (made : ℕ) (below : apart.AreBelow ours made) → Safe ours made below s.loop l) → Nowhere r s
      → Goes s (record s { loop = l })
  loop_goes r s l row other safe nowhere =
      both r s (record s { loop = l }) (loop_quiet r s l row other) nowhere
      (λ a. apart_by.loop_beside (is_own added s.extra) (next_future s.loop.parts) a.below s l
      (safe (is_own added s.extra) (next_future s.loop.parts) a.below) a.apart)

  -- ---- in a task's step
  module _ (task : ℕ) where
    pub resumed_goes : (fresh : Bool) (input : Input) (s : State S) → Nowhere (Some task) s → Goes s (resumed fresh task input s)
    resumed_goes fresh input s nowhere =
        both (Some task) s (resumed fresh task input s) (resumed_quiet (Some task) fresh task input s)
        (λ other key e st. nowhere other key e ((resumed_quiet (Some task) fresh task input s).all.stands other key st))
        (λ a. apart_by.beside_as (is_own added s.extra) (next_future s.loop.parts) a.below s (resumed fresh task input s) refl refl refl a.apart)

    -- a request of the loop's own, and what it makes of its input, where it stood at none of what is added
    stays_nowhere : (s t : State S) → IsQuiet (Some task) s t → Nowhere (Some task) s → Nowhere (Some task) t
    stays_nowhere s t quiet nowhere other key e st = nowhere other key e (quiet.all.stands other key st)

    as_apart : (asked : Request) → kept.is_extra_request asked ≡ false → apart.is_extra_request asked ≡ false
    as_apart (request.Extra code arguments) other = absurd (false≢true (sym other))
    as_apart _ other = refl

    pub reply_goes : (asked : Request) (s : State S) → kept.is_extra_request asked ≡ false → Nowhere (Some task) s
        → Goes s (left_by (reply added task asked s))
    reply_goes asked s other nowhere =
        let t = left_by (reply added task asked s) in
        let quiet = reply_quiet added task asked s other in
        both (Some task) s t quiet (stays_nowhere s t quiet nowhere)
        (λ a. apart_by.reply_goes (is_own added s.extra) (next_future s.loop.parts) a.below added task asked s (as_apart asked other) a.apart)

    as_none : (resume_point : ResumePoint) → kept.serves_none resume_point ≡ true → apart.serves_none resume_point ≡ true
    as_none (Serving key) none = absurd (false≢true none)
    as_none _ none = refl

    pub decides_goes : (resume_point : ResumePoint) (input : Input) (s : State S) → kept.serves_none resume_point ≡ true → Nowhere (Some task) s
        → Goes s (left_by (decides added resume_point task input s))
    decides_goes resume_point input s none nowhere =
        let t = left_by (decides added resume_point task input s) in
        let quiet = decides_quiet added task resume_point input s none in
        both (Some task) s t quiet (stays_nowhere s t quiet nowhere)
        (λ a. apart_by.decides_goes (is_own added s.extra) (next_future s.loop.parts) a.below added task resume_point input s (as_none resume_point none)
        a.apart)

    pub finish_goes : (end : Result Value Exc) (s : State S) → Nowhere (Some task) s → Goes s (unbooked_in (finish task end) s)
    finish_goes end s nowhere =
        loop_goes (Some task) s (in_parts (finish task end) s.loop) (kept_rows.finish_row task end s.loop)
        (row_still (Some task) (in_parts_row s.loop (parts_rows.finish_row task end s.loop.parts)))
        (λ ours made below. finish_safe ours made below task end s.loop) nowhere

    -- ---- its step begins
    module _ (input : Input) (handle : Handle) (rest : List Handle) (s : State S) (first : s.loop.parts.pending ≡ handle ∷ rest)
        (mine : steps task handle.action ≡ true) where
      abbrev gone : State S
      gone = runs handle.action rest s

      abbrev out : State S
      out = unbooked_in (λ p. record p { pending = rest }) s

      abbrev pub point : ResumePoint
      point = (generator_of task s).resume_point

      abbrev begun : Loop
      begun = record gone.loop { parts = (begin_step task input (given_up point gone.loop.parts)).parts }

      abbrev pub awake : State S
      awake = stands Asked task (record gone { loop = begun })

      its_own : (it : Action) → steps task it ≡ true → is_of_extra it ≡ false
      its_own (action.Step other) is = refl
      its_own (action.StepInCycle other cycle) is = refl
      its_own (action.Wakeup other) is = refl
      its_own _ is = absurd (false≢true is)

      still : Still (Some task) gone.loop.parts begun.parts
      still =
          row_still (Some task) (in_parts_row gone.loop
          (on (given_up_row task point gone.loop.parts) (parts_rows.begin_row task input (given_up point gone.loop.parts))))

      quiet : IsQuiet (Some task) s awake
      quiet =
          quiet_then (Some task) s out awake (out_quiet (Some task) handle rest s first)
          (quiet_then (Some task) out gone awake
          (noted_quiet (Some task) (event.Ran handle.action) out (ran_untold handle.action (its_own handle.action mine)))
          (quiet_then (Some task) gone (record gone { loop = begun }) awake
          (loop_quiet (Some task) gone begun (kept_rows.begin_row task input point gone.loop) still)
          (stands_quiet (Some task) Asked task (record gone { loop = begun }) asked_serves)))

      pub awake_nowhere : (key : ℕ) → StandsUnder awake.generators task key → ⊥
      awake_nowhere key st = set_nowhere s.generators task _ key asked_serves st

      nobody : Nowhere (Some task) awake
      nobody other key e st = awake_nowhere key (subst (λ t. StandsUnder awake.generators t key) (sym (same task other e)) st)
        where
          same : (task other : ℕ) → Some task ≡ Some other → task ≡ other
          same task other e = cc

      pub begin_goes : Goes s awake
      begin_goes =
          both (Some task) s awake quiet nobody (λ a.
          let ours = is_own added s.extra in
          let made = next_future s.loop.parts in
          apart_by.beside_then ours made a.below s out awake (apart_by.parts_beside ours made a.below (LeavesPending rest) s (λ b. (handle, first)))
          (apart_by.beside_then ours made a.below out gone awake (apart_by.beside_as ours made a.below out gone refl refl refl)
          (apart_by.beside_then ours made a.below gone (record gone { loop = begun }) awake
          (apart_by.loop_beside ours made a.below gone begun (begin_safe ours made a.below task input point gone.loop))
          (apart_by.stands_beside ours made a.below Asked task (record gone { loop = begun })))) a.apart)

  -- ---- where no task runs
  pub out_goes : (handle : Handle) (rest : List Handle) (s : State S) → s.loop.parts.pending ≡ handle ∷ rest
      → Goes s (unbooked_in (λ p. record p { pending = rest }) s)
  out_goes handle rest s first =
      both None s (unbooked_in (λ p. record p { pending = rest }) s) (out_quiet None handle rest s first)
      (none_runs (unbooked_in (λ p. record p { pending = rest }) s)) (λ a.
      apart_by.parts_beside (is_own added s.extra) (next_future s.loop.parts) a.below (LeavesPending rest) s (λ b. (handle, first)) a.apart)

  -- as it runs
  pub ran_apart : (by : Action) (handle : Handle) (rest : List Handle) (s : State S) → s.loop.parts.pending ≡ handle ∷ rest → AreApart added s
      → AreApart added (runs by rest s)
  ran_apart by handle rest s first a =
      let b = (out_goes handle rest s first a).apart in
      record { below = b.below; apart = record { loop = b.apart.loop; streams = b.apart.streams; scripts = b.apart.scripts } }

  pub first_goes : (limit : ℕ) (handle : Handle) (rest : List Handle) (s : State S) → s.loop.parts.pending ≡ handle ∷ rest
      → steps_or_extra handle.action ≡ false → Goes s (state_of (run_first limit added handle rest s))
  first_goes limit handle rest s first other =
      let t = state_of (run_first limit added handle rest s) in
      both None s t (first_quiet limit added handle rest s first other) (none_runs t)
      (λ a. first_on (is_own added s.extra) (next_future s.loop.parts) a.below limit added handle rest s first other a.apart)

  pub end_goes : (s : State S) → Goes s (in_loop cancel_everything s)
  end_goes s =
      loop_goes None s (cancel_everything s.loop) (kept_rows.end_row s.loop) (row_still None (rows.end_row None s.loop))
      (λ ours made below. end_safe ours made below s.loop) (none_runs s)

  pub woken_goes : (answer : Answer) (s : State S) → Goes s (unbooked_in (woken_by answer) s)
  woken_goes answer s =
      loop_goes None s (in_parts (woken_by answer) s.loop) (kept_rows.woken_row answer s.loop) (woken_still answer s.loop.parts)
      (λ ours made below. woken_safe ours made below answer s.loop) (none_runs s)

  -- the select of a turn is answered
  pub selected_goes : (came : Answer) (left : List Entry) (s : State S) → Goes s (heard (call_of added s) came left s)
  selected_goes came left s =
      let t = heard (call_of added s) came left s in
      both None s t (heard_quiet None (call_of added s) came left s (refl, refl)) (none_runs t)
      (λ a. apart_by.beside_as (is_own added s.extra) (next_future s.loop.parts) a.below s t refl refl refl a.apart)
