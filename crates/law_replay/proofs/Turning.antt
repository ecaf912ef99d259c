-- A step, a callback, a turn and a run go by the answers that they have alone.
use Rattle.std.proofs.Common.{◌≡◌, ℕ, zero, suc, refl, ap, sym, ◌∙◌, append-nil, append_assoc, Bool, true, false, not, ◌&&◌, List, [], ◌∷◌, ◌++◌, map}
use Rattle.std.proofs.Common.{Option, Some, None, nat_lt, length, subst}
use Rattle.std.proofs.lemmas.List.{map-append}
use Rattle.std.specs.List.{AllByRecursion as Each}
use Rattle.model_value.specs.Action.{Action}
use Rattle.model_value.specs.declared.action.Action.TheVariants as action
use Rattle.model_value.specs.declared.outcome.Outcome.TheVariants.{Value as Returned, Failed, Cancelled}
use Rattle.model_value.specs.Input.{Input}
use Rattle.model_value.specs.Value.{Outcome}
use Rattle.model_tree.specs.Syntax.{Program}
use Rattle.model_says.specs.Endings.{Saying, Asks, Returns, Raises as Raised, Runaway}
use Rattle.model_says.specs.Says.{step_limit}
use Rattle.model_wire.specs.declared.event.Event.TheVariants as event
use Rattle.model_wire.specs.declared.event.Handed.TheVariants as to
use Rattle.model_wire.specs.Call.{Answer}
use Rattle.model_wire.specs.Event.{Event}
use Rattle.model_wire.specs.Journal.{Entry, Answered}
use Rattle.model_wire.specs.JournalText.{entries_of}
use Rattle.model_wire.specs.Trace.{End}
use Rattle.model_loop.specs.Futures.{next_future}
use Rattle.model_loop.specs.Parts.{Handle}
use Rattle.model_loop.specs.Tasks.{begin_step, next_task}
use Rattle.model_stream.specs.Doing.{Doing}
use Rattle.model_stream.specs.Requests.{close}
use Rattle.model_stream.specs.Streams.{Streams, act, handler_of}
use Rattle.model_machine.specs.Extra.{Extra, ExtraCall, called}
use Rattle.model_machine.specs.Outcomes.{finished_as}
use Rattle.model_machine.specs.Replies.{RequestReply, Answers, Raises, Suspends, Halts, decides, most_ids, reply}
use Rattle.model_machine.specs.Run.{Run, run_after, run_on, turns_over}
use Rattle.model_machine.specs.State.{State, Asked, generator_of, noted, resumed, stands, start, unbooked_in}
use Rattle.model_machine.specs.Step.{given_up, most_answers, says_of, serve, serve_all, served, step, taken_as}
use Rattle.model_machine.specs.Turn.{call_of, cancelled_if, effect, finished_if, goes_with, handled_if, has_returned, is_stalled, made_by, next_below, ran}
use Rattle.model_machine.specs.Turn.{run_below, run_first, run_if, run_pending, streams_go, turn, turn_over, turn_unless, turned_by, woken_by}
use Rattle.model_machine.specs.Went.{Went, Goes, Stops, state_of, went_on}
use Rattle.model_program.specs.Runs.{run_over}
use Rattle.model_commands.specs.Recorded.{recorded}
use Rattle.law_journal.specs.JournalTexts.{MayBeAnswered}
use Rattle.law_journal.specs.RecordedAnswers.{answers_of}
use Rattle.law_replay.specs.Foreseeing.{ForeseesNothing}
use Rattle.law_replay.specs.Reads.{MayFollow, ReadsAlone}
use Rattle.law_replay.proofs.Reading.{Alone, Reads, answers_of-append, ask_alone, does_alone, over, reads_more, reads_none}
use Rattle.law_replay.proofs.Replying as replying
use Rattle.law_replay.proofs.Replying.{decides_alone, reply_alone}

module _ {S : Type 0} where
  abbrev put : List Entry → Went S → Went S
  put answers (Goes now) = Goes (over answers now)
  put answers (Stops how last) = Stops how (over answers last)

  abbrev Follows : Went S → List Entry → Type 0
  Follows (Goes now) more = Unit {0}
  Follows (Stops how last) more = MayFollow how more

  abbrev ReadsFrom : List Entry → List Answer → Went S → (List Entry → Went S) → Type 0
  ReadsFrom answers had it by = Reads state_of put Follows answers had it by

  abbrev ReadsIn : State S → Went S → (List Entry → Went S) → Type 0
  ReadsIn s it by = ReadsFrom s.answers (answers_of s.events) it by

  abbrev IsAlone : (State S → Went S) → Type 0
  IsAlone f = Alone state_of put Follows f

  stops : (answers : List Entry) (had used : List Answer) (how : End) (last : State S) (by : List Entry → Went S) → answers ≡ map Answered used ++ last.answers
      → answers_of last.events ≡ had ++ used → MayFollow how last.answers
      → ((more : List Entry) → MayFollow how more → by (map Answered used ++ more) ≡ Stops how (over more last))
      → ReadsFrom answers had (Stops how last) by
  stops answers had used how last by are told follows again =
      record { used = used; are = are; told = told; follows = follows; again = again }

  still : (s : State S) (it : Went S) (by : List Entry → Went S) → s.answers ≡ (state_of it).answers → (state_of it).events ≡ s.events
      → Follows it (state_of it).answers → ((more : List Entry) → by more ≡ put more it) → ReadsIn s it by
  still s it by are events follows again =
      reads_none state_of put Follows s.answers (answers_of s.events) it by are (ap answers_of events) follows (λ more may. again more)

  -- ---- one thing after another
  taken_alone : (task : ℕ) (fresh : Bool) (go_on : State S → Went S) → IsAlone go_on → (answers : List Entry) (had : List Answer) (it : RequestReply S)
      (by : List Entry → RequestReply S) → Reads replying.state replying.put replying.Follows answers had it by
      → ReadsFrom answers had (taken_as it fresh task go_on) (λ more. taken_as (by more) fresh task go_on)
  taken_alone task fresh go_on each answers had it by r = at it r
    where
      others : List Entry → Went S
      others more = taken_as (by more) fresh task go_on

      then_on : (input : Input) (now : State S) (used : List Answer) → answers ≡ map Answered used ++ now.answers → answers_of now.events ≡ had ++ used
          → ((more : List Entry) → others (map Answered used ++ more) ≡ go_on (resumed fresh task input (over more now)))
          → ReadsFrom answers had (go_on (resumed fresh task input now)) others
      then_on input now used are told goes =
          reads_more state_of put Follows answers now.answers had (answers_of now.events) used (go_on (resumed fresh task input now)) others
          (λ more. go_on (over more (resumed fresh task input now))) are told goes (each (resumed fresh task input now))

      at : (it : RequestReply S) → Reads replying.state replying.put replying.Follows answers had it by → ReadsFrom answers had
          (taken_as it fresh task go_on) others
      at (Answers value now) r =
          then_on _ now r.used r.are r.told (λ more. ap (λ (w : RequestReply S). taken_as w fresh task go_on) (r.again more tt))
      at (Raises fault now) r =
          then_on _ now r.used r.are r.told (λ more. ap (λ (w : RequestReply S). taken_as w fresh task go_on) (r.again more tt))
      at (Suspends now) r =
          record {
            used = r.used;
            are = r.are;
            told = r.told;
            follows = tt;
            again = λ more may. ap (λ (w : RequestReply S). taken_as w fresh task go_on) (r.again more tt);
          }
      at (Halts how last) r =
          record {
            used = r.used;
            are = r.are;
            told = r.told;
            follows = r.follows;
            again = λ more may. ap (λ (w : RequestReply S). taken_as w fresh task go_on) (r.again more may);
          }

  went_alone : (next : State S → Went S) → IsAlone next → (answers : List Entry) (had : List Answer) (it : Went S) (by : List Entry → Went S)
      → ReadsFrom answers had it by → ReadsFrom answers had (went_on next it) (λ more. went_on next (by more))
  went_alone next each answers had it by r = at it r
    where
      others : List Entry → Went S
      others more = went_on next (by more)

      at : (it : Went S) → ReadsFrom answers had it by → ReadsFrom answers had (went_on next it) others
      at (Goes now) r =
          reads_more state_of put Follows answers now.answers had (answers_of now.events) r.used (next now) others (λ more. next (over more now)) r.are r.told
          (λ more. ap (went_on next) (r.again more tt)) (each now)
      at (Stops how last) r =
          record {
            used = r.used;
            are = r.are;
            told = r.told;
            follows = r.follows;
            again = λ more may. ap (went_on next) (r.again more may);
          }

  module _ (limit : ℕ) (added : Extra S) (foresees : ForeseesNothing added) where
    -- ---- steps
    served_alone : (said : Saying) (task : ℕ) (go_on : State S → Went S) → IsAlone go_on → IsAlone (served limit added said task go_on)
    served_alone (Asks asked) task go_on each s =
        taken_alone task false go_on each s.answers (answers_of s.events) (reply added task asked s) (λ more. reply added task asked (over more s))
        (reply_alone added foresees task asked s)
    served_alone (Returns value) task go_on each s = still s _ _ refl refl tt (λ more. refl)
    served_alone (Raised fault) task go_on each s = still s _ _ refl refl tt (λ more. refl)
    served_alone Runaway task go_on each s = still s _ _ refl refl tt (λ more. refl)

    serve_alone : (answers task : ℕ) → IsAlone (serve limit added answers task)
    unfolding serve
    serve_alone zero task s = still s _ _ refl refl tt (λ more. refl)
    serve_alone (suc answers) task s =
        served_alone (says_of limit added task s) task (serve limit added answers task) (serve_alone answers task) s

    step_alone : (task : ℕ) (input : Input) → IsAlone (step limit added task input)
    unfolding step
    step_alone task input s =
        let resume_point = (generator_of task s).resume_point in
        let begun = begin_step task input (given_up resume_point s.loop.parts) in
        let awake : State S = stands Asked task (unbooked_in (λ p. begun.parts) s) in
        taken_alone task true (serve_all limit added task)
        (λ t. serve_alone (most_answers limit (generator_of task t).tape) task t)
        s.answers (answers_of s.events) (decides added resume_point task begun.input awake)
        (λ more. decides added resume_point task begun.input (over more awake)) (decides_alone added foresees task resume_point begun.input awake)

    -- ---- callbacks
    go_alone : (tree : Doing Streams) → IsAlone (streams_go tree)
    go_alone tree s = does_alone state_of put Follows Stops stops tree goes_with (λ streams t. still t _ _ refl refl tt (λ more. refl)) s

    made_alone : (handler : Option ℕ) (conn : ℕ) → IsAlone (made_by handler conn)
    made_alone None conn s = still s _ _ refl refl tt (λ more. refl)
    made_alone (Some coroutine) conn s = at (nat_lt (next_task s.loop.parts) most_ids)
      where
        at : (b : Bool) → ReadsIn s (handled_if b coroutine conn s) (λ more. handled_if b coroutine conn (over more s))
        at true = still s _ _ refl refl tt (λ more. refl)
        at false = go_alone (close (to.Conn conn) s.streams) s

    acts_alone : (it : Action) (s : State S) → ReadsIn s (streams_go (act (next_future s.loop.parts) true it s.streams) s)
        (λ more. streams_go (act (next_future s.loop.parts) true it s.streams) (over more s))
    acts_alone it s = go_alone (act (next_future s.loop.parts) true it s.streams) s

    called_alone : (calls : State S → ExtraCall S) → ((s : State S) (more : List Entry) → calls (over more s) ≡ calls s)
        → IsAlone (λ s. Goes (called (calls s) s))
    called_alone calls same s =
        still s _ _ refl refl tt (λ more. ap (λ (it : ExtraCall S). Goes (called it (over more s))) (same s more))

    effect_alone : (it : Action) → IsAlone (effect limit added it)
    unfolding effect
    effect_alone (action.Step task) s = step_alone task _ s
    effect_alone (action.StepInCycle task cycle) s = step_alone task _ s
    effect_alone (action.Wakeup task) s = step_alone task _ s
    effect_alone (action.SleepDone task future) s = still s _ _ refl refl tt (λ more. refl)
    effect_alone (action.GroupDone group task) s = still s _ _ refl refl tt (λ more. refl)
    effect_alone (action.Fires timeout) s = still s _ _ refl refl tt (λ more. refl)
    effect_alone action.MainDone s = still s _ _ refl refl tt (λ more. refl)
    effect_alone (action.ExtraItem code bytes) s = called_alone (added.item code bytes) (foresees.item code bytes) s
    effect_alone (action.Extra key) s = called_alone (added.act key) (foresees.act key) s
    effect_alone (action.Made conn) s = made_alone (handler_of conn s.streams) conn s
    effect_alone (action.HandlerDone conn task) s =
        go_alone (act (next_future s.loop.parts) (has_returned s.loop.parts task) (action.HandlerDone conn task) s.streams) s
    effect_alone (action.StartRead conn) s = acts_alone (action.StartRead conn) s
    effect_alone (action.Lost conn broken) s = acts_alone (action.Lost conn broken) s
    effect_alone (action.ReadableServer server) s = acts_alone (action.ReadableServer server) s
    effect_alone (action.Readable conn) s = acts_alone (action.Readable conn) s
    effect_alone (action.Writable conn) s = acts_alone (action.Writable conn) s
    effect_alone (action.Up conn) s = acts_alone (action.Up conn) s
    effect_alone (action.Down conn) s = acts_alone (action.Down conn) s
    effect_alone (action.WritableChild child) s = acts_alone (action.WritableChild child) s
    effect_alone (action.ChildItem child told) s = acts_alone (action.ChildItem child told) s
    effect_alone (action.LostChild child broken) s = acts_alone (action.LostChild child broken) s

    ran_alone : (dead : Bool) (it : Action) → IsAlone (ran limit added dead it)
    ran_alone true it s = still s _ _ refl refl tt (λ more. refl)
    ran_alone false it s =
        reads_more state_of put Follows s.answers s.answers (answers_of s.events) (answers_of (s.events ++ event.Ran it ∷ [])) []
        (effect limit added it (noted (event.Ran it) s)) _ (λ more. effect limit added it (over more (noted (event.Ran it) s))) refl
        (answers_of-append s.events (event.Ran it ∷ [])) (λ more. refl) (effect_alone it (noted (event.Ran it) s))

    below_alone : (bar count : ℕ) → IsAlone (run_below limit added bar count)
    unfolding run_below
    below_alone bar zero s = still s _ _ refl refl tt (λ more. refl)
    below_alone bar (suc count) s = at (below_alone bar count) s.loop.parts.pending
      where
        on : IsAlone (run_below limit added bar count) → (b : Bool) (handle : Handle) (handles : List Handle)
            → ReadsIn s (run_if limit added b handle handles (run_below limit added bar count) s)
            (λ more. run_if limit added b handle handles (run_below limit added bar count) (over more s))
        on rest true handle handles =
            let taken : State S = unbooked_in (λ p. record p { pending = handles }) s in
            went_alone (run_below limit added bar count) rest s.answers (answers_of s.events)
            (run_first limit added handle handles s) (λ more. run_first limit added handle handles (over more s))
            (ran_alone handle.dead handle.action taken)
        on rest false handle handles = still s _ _ refl refl tt (λ more. refl)

        at : IsAlone (run_below limit added bar count) → (pending : List Handle) → ReadsIn s
            (next_below limit added bar pending (run_below limit added bar count) s)
            (λ more. next_below limit added bar pending (run_below limit added bar count) (over more s))
        at rest [] = still s _ _ refl refl tt (λ more. refl)
        at rest (handle ∷ handles) = on rest (nat_lt handle.stamp bar) handle handles

    -- ---- turns
    finished_alone : (o : Option Outcome) → IsAlone (finished_if o)
    finished_alone None s = still s _ _ refl refl tt (λ more. refl)
    finished_alone (Some (Returned value)) s = still s _ _ refl refl tt (λ more. refl)
    finished_alone (Some (Failed fault)) s = still s _ _ refl refl tt (λ more. refl)
    finished_alone (Some Cancelled) s = still s _ _ refl refl tt (λ more. refl)

    over_alone : (done_before : Bool) → IsAlone (turn_over done_before)
    over_alone done_before s = at (s.main_done && not done_before)
      where
        at : (b : Bool) → ReadsIn s (finished_if (finished_as (cancelled_if b s)) (cancelled_if b s))
            (λ more. finished_if (finished_as (cancelled_if b (over more s))) (cancelled_if b (over more s)))
        at true = finished_alone (finished_as (cancelled_if true s)) (cancelled_if true s)
        at false = finished_alone (finished_as s) s

    turned_alone : (answer : Answer) → IsAlone (turned_by limit added answer)
    turned_alone answer s =
        let woken : State S = unbooked_in (woken_by answer) s in
        went_alone (turn_over s.main_done) (over_alone s.main_done) s.answers (answers_of s.events) (run_pending limit added woken)
        (λ more. run_pending limit added (over more woken))
        (below_alone woken.loop.parts.next_stamp (length woken.loop.parts.pending) woken)

    turn_alone : IsAlone (turn limit added)
    unfolding turn
    turn_alone s = at (is_stalled added s)
      where
        at : (b : Bool) → ReadsIn s (turn_unless limit added b s) (λ more. turn_unless limit added b (over more s))
        at true = still s _ _ refl refl tt (λ more. refl)
        at false = ask_alone state_of put Follows Stops stops (call_of added s) (turned_by limit added) turned_alone s

    -- ---- runs
    -- a run that goes on from a state goes by the answers that it has alone
    pub record RunsAlone (allowed turns : ℕ) (s : State S) : Type 0 where
      pub used : List Answer
      pub left : List Entry
      pub are : s.answers ≡ map Answered used ++ left
      pub told : answers_of (run_on limit added allowed turns s).events ≡ answers_of s.events ++ used
      pub follows : MayFollow (run_on limit added allowed turns s).end left
      pub again : (more : List Entry) → MayFollow (run_on limit added allowed turns s).end more
          → run_on limit added allowed turns (over (map Answered used ++ more) s) ≡ run_on limit added allowed turns s

    runs_out : (b : Bool) (allowed : ℕ) (more : List Entry) → MayFollow (turns_over b allowed) more
    runs_out true allowed more = tt
    runs_out false allowed more = tt

    run_alone : (allowed turns : ℕ) (s : State S) → RunsAlone allowed turns s
    unfolding run_on
    run_alone allowed zero s =
        record {
          used = [];
          left = s.answers;
          are = refl;
          told = sym (append-nil (answers_of s.events));
          follows = runs_out (is_stalled added s) allowed s.answers;
          again = λ more may. refl;
        }
    run_alone allowed (suc turns) s = at (run_alone allowed turns) (turn limit added s) refl (turn_alone s)
      where
        at : ((t : State S) → RunsAlone allowed turns t) → (it : Went S) → turn limit added s ≡ it → ReadsIn s it (λ more. turn limit added (over more s))
            → RunsAlone allowed (suc turns) s
        at each (Stops how last) is r =
            record {
              used = r.used;
              left = last.answers;
              are = r.are;
              told = ap (λ (w : Went S). answers_of (run_after (run_on limit added allowed turns) w).events) is ∙ r.told;
              follows = subst (λ (w : Went S). MayFollow (run_after (run_on limit added allowed turns) w).end last.answers) (sym is) r.follows;
              again = λ more may.
                  let here : MayFollow how more =
                  subst (λ (w : Went S). MayFollow (run_after (run_on limit added allowed turns) w).end more) is may in
                  ap (run_after (run_on limit added allowed turns)) (r.again more here)
                  ∙ sym (ap (run_after (run_on limit added allowed turns)) is);
            }
        at each (Goes now) is r =
            let rest = each now in
            let after : Run = run_on limit added allowed turns now in
            let same : run_on limit added allowed (suc turns) s ≡ after = ap (run_after (run_on limit added allowed turns)) is in
            let all : (more : List Entry) → map Answered (r.used ++ rest.used) ++ more ≡ map Answered r.used ++ (map Answered rest.used ++ more) =
            λ more.
            ap (λ (es : List Entry). es ++ more) (map-append Answered r.used rest.used)
            ∙ append_assoc (map Answered r.used) (map Answered rest.used) more in
            record {
              used = r.used ++ rest.used;
              left = rest.left;
              are = r.are ∙ ap (λ (es : List Entry). map Answered r.used ++ es) rest.are ∙ sym (all rest.left);
              told = ap (λ (it : Run). answers_of it.events) same ∙ rest.told ∙ ap (λ (a : List Answer). a ++ rest.used) r.told
                  ∙ append_assoc (answers_of s.events) r.used rest.used;
              follows = subst (λ (it : Run). MayFollow it.end rest.left) (sym same) rest.follows;
              again = λ more may.
                  let there : MayFollow after.end more = subst (λ (it : Run). MayFollow it.end more) same may in
                  ap (λ (es : List Entry). run_on limit added allowed (suc turns) (over es s)) (all more)
                  ∙ ap (run_after (run_on limit added allowed turns)) (r.again (map Answered rest.used ++ more) tt)
                  ∙ rest.again more there ∙ sym same;
            }

module _ {S : Type 0} (added : Extra S) (foresees : ForeseesNothing added) where
  pub reads_alone : (first : S) (program : Program) (answers : List Entry) (turns : ℕ) → ReadsAlone (run_over added first program) answers turns
  reads_alone first program answers turns =
      let it = run_alone step_limit added foresees turns turns (start most_ids first program answers) in
      record {
        left = it.left;
        are = it.are ∙ ap (λ (a : List Answer). map Answered a ++ it.left) (sym it.told);
        follows = it.follows;
        again = λ more may.
            ap (λ (a : List Answer). run_over added first program (map Answered a ++ more) turns) it.told ∙ it.again more may;
      }

  -- a replay of what was recorded is the run
  pub replays_itself : (first : S)
      → ((events : List Event) → Each MayBeAnswered (answers_of events) → entries_of (recorded events) ≡ map Answered (answers_of events))
      → (program : Program) (answers : List Entry) (turns : ℕ)
      → Each MayBeAnswered (answers_of (run_over added first program answers turns).events)
      → MayFollow (run_over added first program answers turns).end []
      → run_over added first program (entries_of (recorded (run_over added first program answers turns).events)) turns
      ≡ run_over added first program answers turns
  replays_itself first read program answers turns fit may =
      let events = (run_over added first program answers turns).events in
      ap (λ (es : List Entry). run_over added first program es turns) (read events fit ∙ sym (append-nil (map Answered (answers_of events))))
      ∙ (reads_alone first program answers turns).again [] may
