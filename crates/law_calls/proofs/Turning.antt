-- What goes on holds after a step, a callback and a turn, after each callback of a turn, and of every state of a run.
use Rattle.std.proofs.Common.{◌≡◌, inl, inr, ℕ, zero, suc, ◌+◌, Bool, true, false, cond, not, ◌&&◌, List, [], ◌∷◌, Option, Some, None}
use Rattle.std.proofs.Common.{length, nat_lt, le_refl, refl, ap}
use Rattle.std.proofs.lemmas.Bool.{eq-eqb}
use Rattle.std.proofs.lemmas.List.{append_assoc}
use Rattle.model_value.specs.Action.{Action}
use Rattle.model_value.specs.declared.action.Action.TheVariants as action
use Rattle.model_value.specs.Input.{Input}
use Rattle.model_value.specs.Value.{Outcome}
use Rattle.model_says.specs.Endings.{Saying, Asks, Returns, Raises as Raised, Runaway}
use Rattle.model_wire.specs.declared.event.Event.TheVariants as event
use Rattle.model_wire.specs.declared.event.Handed.TheVariants as to
use Rattle.model_wire.specs.Call.{Answer, Call}
use Rattle.model_wire.specs.Event.{Event}
use Rattle.model_wire.specs.Fits.{fits}
use Rattle.model_wire.specs.Journal.{Entry, Answered, Refused}
use Rattle.model_wire.specs.Trace.{End}
use Rattle.model_loop.specs.Futures.{next_future}
use Rattle.model_loop.specs.Parts.{Handle}
use Rattle.model_loop.specs.Tasks.{begin_step, next_task}
use Rattle.model_loop.specs.Ways.{steps}
use Rattle.model_stream.specs.Doing as doing
use Rattle.model_stream.specs.Doing.{Doing, Ends, Changes, Asks as AsksOf}
use Rattle.model_stream.specs.Requests.{close}
use Rattle.model_stream.specs.Streams.{Streams, act, handler_of}
use Rattle.model_machine.specs.Does.{changed, does}
use Rattle.model_machine.specs.Extra.{Extra, ExtraAnswer}
use Rattle.model_machine.specs.Mids.{mids, mids_below, mids_by, mids_fitted, mids_if, mids_unless, next_mids, then_mids}
use Rattle.model_machine.specs.Outcomes.{finished_as}
use Rattle.model_machine.specs.Replies.{RequestReply, Answers, Raises, Suspends, Halts, decides, most_ids, reply}
use Rattle.model_machine.specs.State.{Asked, State, generator_of, noted, stands, unbooked_in}
use Rattle.model_machine.specs.Step.{given_up, says_of, serve, serve_all, served, step, taken_as}
use Rattle.model_machine.specs.Turn.{call_of, cancelled_if, effect, finished_if, goes_with, handled_if, has_returned, is_stalled, made_by, next_below, ran}
use Rattle.model_machine.specs.Turn.{run_below, run_first, run_if, run_pending, streams_go, turn, turn_over, turn_unless, turned_by, woken_by}
use Rattle.model_machine.specs.Went.{Went, Goes, Stops, went_on}
use Rattle.law_cases.specs.Trees.{Keeping, KeepsStreams, Owned, is_aside}
use Rattle.law_cases.proofs.Asking.{closes}
use Rattle.law_cases.proofs.Opening.{acts}
use Rattle.law_reach.specs.Reaches.{IsUnmet}
use Rattle.law_reach.proofs.Opened.{any_kept, any_of}
use Rattle.law_walk.proofs.Trees.{asked_comes}
use Rattle.law_calls.specs.Tells.{AfterTurn, AreAllIn, In, IsRunIn, LeavesBy, LeavesTo, Tells}
use Rattle.law_calls.specs.Told.{HasBegun, is_of_extra}
use Rattle.law_calls.proofs.Events.{heard_untold}
use Rattle.law_calls.proofs.Serving.{decides_in, heard, reply_in, untold_in}

module _ {S : Type 0} {limit : ℕ} {added : Extra S} {Holds : S → List Event → Type 0}
    {Called : (task : ℕ) → ExtraAnswer → S → List Event → Type 0} (tells : Tells limit added Holds Called) where
  unmet : (how : End) (last : State S) → IsUnmet how → LeavesTo Holds (Stops how last)
  unmet how last it = inl (inl it)

  -- ---- steps
  abbrev SaysOn : (State S → Went S) → Type 0
  SaysOn go_on = (s : State S) → In Holds s → LeavesTo Holds (go_on s)

  taken_in : (task : ℕ) (it : RequestReply S) (fresh : Bool) (go_on : State S → Went S) → LeavesBy Holds it → SaysOn go_on
      → LeavesTo Holds (taken_as it fresh task go_on)
  taken_in task (Answers value now) fresh go_on it each = each _ it
  taken_in task (Raises fault now) fresh go_on it each = each _ it
  taken_in task (Suspends now) fresh go_on it each = it
  taken_in task (Halts how last) fresh go_on it each = it

  served_in : (said : Saying) (task : ℕ) (go_on : State S → Went S) (s : State S) → says_of limit added task s ≡ said → In Holds s → SaysOn go_on
      → LeavesTo Holds (served limit added said task go_on s)
  served_in (Asks asked) task go_on s said holds each =
      taken_in task (reply added task asked s) false go_on (reply_in tells task asked s said holds) each
  served_in (Returns value) task go_on s said holds each = holds
  served_in (Raised fault) task go_on s said holds each = holds
  served_in Runaway task go_on s said holds each = inr holds

  serve_in : (answers task : ℕ) → SaysOn (serve limit added answers task)
  unfolding serve
  serve_in zero task s holds = inr holds
  serve_in (suc answers) task s holds =
      served_in (says_of limit added task s) task (serve limit added answers task) s refl holds (serve_in answers task)

  step_in : (task : ℕ) (input : Input) (s : State S) → HasBegun task s.events → In Holds s → LeavesTo Holds (step limit added task input s)
  unfolding step
  step_in task input s began holds =
      let resume_point = (generator_of task s).resume_point in
      let begun = begin_step task input (given_up resume_point s.loop.parts) in
      let awake = stands Asked task (unbooked_in (λ p. begun.parts) s) in
      taken_in task (decides added resume_point task begun.input awake) true (serve_all limit added task)
      (decides_in tells task resume_point begun.input awake began holds) (λ t it. serve_in _ task t it)

  -- ---- callbacks of listeners, connections and children
  -- a call of one of them was answered
  heard_in : (it : Call) (answer : Answer) (left : List Entry) (s : State S) → is_aside it ≡ false → In Holds s → In Holds (heard it answer left s)
  heard_in it answer left s is holds =
      untold_in tells s (heard it answer left s) (
        refl,
        (
          event.Called it ∷ event.Got answer ∷ [],
          (append_assoc s.events (event.Called it ∷ []) (event.Got answer ∷ []), heard_untold it answer is),
        ),
      ) holds

  does_in : {A : Type 0} (Left : ℕ → A → Type 0) (own : Owned) (number : ℕ) (tree : Doing A) (next : A → State S → Went S) (s : State S)
      → Keeping Left own number tree → In Holds s → ((it : A) (t : State S) → In Holds t → LeavesTo Holds (next it t))
      → LeavesTo Holds (does Stops tree next s)
  does_in Left own number (Ends result) next s keeps holds each = each result s holds
  does_in Left own number (Changes doing.MakeFuture rest) next s keeps holds each =
      does_in Left own (number + 1) rest next (unbooked_in (changed doing.MakeFuture) s) keeps holds each
  does_in Left own number (Changes (doing.CallSoon it) rest) next s keeps holds each =
      does_in Left own number rest next (unbooked_in (changed (doing.CallSoon it)) s) keeps.1 holds each
  does_in Left own number (Changes (doing.Settle future outcome) rest) next s keeps holds each =
      does_in Left own number rest next (unbooked_in (changed (doing.Settle future outcome)) s) keeps.1 holds each
  does_in Left own number (AsksOf it rest) next s keeps holds each =
      asked_comes Stops (LeavesTo Holds) unmet it (λ came. does Stops (rest came) next) s
      (λ came left fit. does_in Left own number (rest came) next (heard it came left s) (keeps.1 came) (heard_in it came left s keeps.0 holds) each)

  go_in : (tree : Doing Streams) (s : State S)
      → Keeping (KeepsStreams (any_of (length s.streams.connections)) (next_future s.loop.parts) s.streams)
      (any_of (length s.streams.connections)) (next_future s.loop.parts) tree → In Holds s
      → LeavesTo Holds (streams_go tree s)
  go_in tree s keeps holds =
      does_in (KeepsStreams (any_of (length s.streams.connections)) (next_future s.loop.parts) s.streams)
      (any_of (length s.streams.connections)) (next_future s.loop.parts) tree goes_with s keeps holds
      (λ streams t it. it)

  acts_in : (it : Action) (returned : Bool) (s : State S) → In Holds s
      → LeavesTo Holds (streams_go (act (next_future s.loop.parts) returned it s.streams) s)
  acts_in it returned s holds =
      go_in (act (next_future s.loop.parts) returned it s.streams) s
      (acts (any_of (length s.streams.connections)) (next_future s.loop.parts) returned it s.streams (any_kept s.streams) (le_refl _)) holds

  made_in : (handler : Option ℕ) (conn : ℕ) (s : State S) → In Holds s → LeavesTo Holds (made_by handler conn s)
  made_in None conn s holds = holds
  made_in (Some coroutine) conn s holds = at (nat_lt (next_task s.loop.parts) most_ids)
    where
      at : (b : Bool) → LeavesTo Holds (handled_if b coroutine conn s)
      at true = holds
      at false = go_in (close (to.Conn conn) s.streams) s
          (closes (any_of (length s.streams.connections)) (next_future s.loop.parts) (to.Conn conn) s.streams (any_kept s.streams)) holds

  -- ---- a handle runs, which the events say
  ran_in : (it : Action) (s : State S) → is_of_extra it ≡ false → In Holds s → In Holds (noted (event.Ran it) s)
  ran_in it s other holds =
      tells.beside s.extra s.events (event.Ran it ∷ [])
      (ap (λ b. cond b (event.Ran it ∷ []) []) other, refl) holds

  -- a step of a task begins with it
  begun : (it : Action) (task : ℕ) (s : State S) → steps task it ≡ true → HasBegun task (noted (event.Ran it) s).events
  begun it task s is = record { before = s.events; it = it; ends = refl; steps = is }

  effect_in : (it : Action) (s : State S) → In Holds s → LeavesTo Holds (effect limit added it (noted (event.Ran it) s))
  unfolding effect
  effect_in (action.Step task) s holds = step_in task _ _ (begun (action.Step task) task s (eq-eqb task task refl)) (ran_in (action.Step task) s refl holds)
  effect_in (action.StepInCycle task cycle) s holds =
      step_in task _ _ (begun (action.StepInCycle task cycle) task s (eq-eqb task task refl)) (ran_in (action.StepInCycle task cycle) s refl holds)
  effect_in (action.Wakeup task) s holds = step_in task _ _ (begun (action.Wakeup task) task s (eq-eqb task task refl)) (ran_in (action.Wakeup task) s refl holds)
  effect_in (action.SleepDone task future) s holds = ran_in (action.SleepDone task future) s refl holds
  effect_in (action.GroupDone group task) s holds = ran_in (action.GroupDone group task) s refl holds
  effect_in (action.Fires timeout) s holds = ran_in (action.Fires timeout) s refl holds
  effect_in action.MainDone s holds = ran_in action.MainDone s refl holds
  effect_in (action.ExtraItem code bytes) s holds =
      tells.news code bytes (noted (event.Ran (action.ExtraItem code bytes)) s) s.events refl holds
  effect_in (action.Extra key) s holds = tells.acts key (noted (event.Ran (action.Extra key)) s) s.events refl holds
  effect_in (action.Made conn) s holds =
      made_in (handler_of conn s.streams) conn (noted (event.Ran (action.Made conn)) s) (ran_in (action.Made conn) s refl holds)
  effect_in (action.HandlerDone conn task) s holds =
      acts_in (action.HandlerDone conn task) (has_returned s.loop.parts task) (noted (event.Ran (action.HandlerDone conn task)) s)
      (ran_in (action.HandlerDone conn task) s refl holds)
  effect_in (action.StartRead conn) s holds = acts_in (action.StartRead conn) true _ (ran_in (action.StartRead conn) s refl holds)
  effect_in (action.Lost conn broken) s holds = acts_in (action.Lost conn broken) true _ (ran_in (action.Lost conn broken) s refl holds)
  effect_in (action.ReadableServer server) s holds = acts_in (action.ReadableServer server) true _ (ran_in (action.ReadableServer server) s refl holds)
  effect_in (action.Readable conn) s holds = acts_in (action.Readable conn) true _ (ran_in (action.Readable conn) s refl holds)
  effect_in (action.Writable conn) s holds = acts_in (action.Writable conn) true _ (ran_in (action.Writable conn) s refl holds)
  effect_in (action.Up conn) s holds = acts_in (action.Up conn) true _ (ran_in (action.Up conn) s refl holds)
  effect_in (action.Down conn) s holds = acts_in (action.Down conn) true _ (ran_in (action.Down conn) s refl holds)
  effect_in (action.WritableChild child) s holds = acts_in (action.WritableChild child) true _ (ran_in (action.WritableChild child) s refl holds)
  effect_in (action.ChildItem child told) s holds = acts_in (action.ChildItem child told) true _ (ran_in (action.ChildItem child told) s refl holds)
  effect_in (action.LostChild child broken) s holds = acts_in (action.LostChild child broken) true _ (ran_in (action.LostChild child broken) s refl holds)

  first_in : (handle : Handle) (rest : List Handle) (s : State S) → In Holds s → LeavesTo Holds (run_first limit added handle rest s)
  first_in handle rest s holds = at handle.dead
    where
      at : (dead : Bool) → LeavesTo Holds (ran limit added dead handle.action (unbooked_in (λ p. record p { pending = rest }) s))
      at true = holds
      at false = effect_in handle.action (unbooked_in (λ p. record p { pending = rest }) s) holds

  -- ---- all callbacks of a turn
  on_in : (go_on : State S → Went S) (went : Went S) → SaysOn go_on → LeavesTo Holds went → LeavesTo Holds (went_on go_on went)
  on_in go_on (Goes now) each it = each now it
  on_in go_on (Stops how last) each it = it

  next_in : (bar : ℕ) (handles : List Handle) (go_on : State S → Went S) (s : State S) → In Holds s → SaysOn go_on
      → LeavesTo Holds (next_below limit added bar handles go_on s)
  next_in bar [] go_on s holds each = holds
  next_in bar (handle ∷ rest) go_on s holds each = at (nat_lt handle.stamp bar)
    where
      at : (b : Bool) → LeavesTo Holds (run_if limit added b handle rest go_on s)
      at true = on_in go_on (run_first limit added handle rest s) each (first_in handle rest s holds)
      at false = holds

  below_in : (bar count : ℕ) (s : State S) → In Holds s → LeavesTo Holds (run_below limit added bar count s)
  unfolding run_below
  below_in bar zero s holds = holds
  below_in bar (suc count) s holds = next_in bar s.loop.parts.pending (run_below limit added bar count) s holds (below_in bar count)

  over_in : (done_before : Bool) (s : State S) → In Holds s → LeavesTo Holds (turn_over done_before s)
  over_in done_before s holds = at (s.main_done && not done_before)
    where
      finished : (o : Option Outcome) (t : State S) → In Holds t → LeavesTo Holds (finished_if o t)
      finished None t it = it
      finished (Some outcome) t it = inr it

      at : (b : Bool) → LeavesTo Holds (finished_if (finished_as (cancelled_if b s)) (cancelled_if b s))
      at true = finished (finished_as (cancelled_if true s)) (cancelled_if true s) holds
      at false = finished (finished_as (cancelled_if false s)) (cancelled_if false s) holds

  -- ---- a turn
  -- its select was answered
  selected_in : (came : Answer) (left : List Entry) (s : State S) → In Holds s → In Holds (heard (call_of added s) came left s)
  selected_in came left s holds =
      untold_in tells s (heard (call_of added s) came left s) (
        refl,
        (
          event.Called (call_of added s) ∷ event.Got came ∷ [],
          (append_assoc s.events (event.Called (call_of added s) ∷ []) (event.Got came ∷ []), (refl, refl)),
        ),
      ) holds

  turned_in : (came : Answer) (s : State S) → In Holds s → LeavesTo Holds (turned_by limit added came s)
  turned_in came s holds =
      on_in (turn_over s.main_done) (run_pending limit added (unbooked_in (woken_by came) s)) (over_in s.main_done)
      (below_in _ _ (unbooked_in (woken_by came) s) holds)

  turn_in : (s : State S) → In Holds s → LeavesTo Holds (turn limit added s)
  unfolding turn
  turn_in s holds = unless (is_stalled added s)
    where
      unless : (b : Bool) → LeavesTo Holds (turn_unless limit added b s)
      unless true = inr holds
      unless false =
          asked_comes Stops (LeavesTo Holds) unmet (call_of added s) (turned_by limit added) s
          (λ came left fit. turned_in came (heard (call_of added s) came left s) (selected_in came left s holds))

  -- ---- the states between
  then_in : (go_on : State S → List (State S)) (went : Went S) → ((t : State S) → In Holds t → AreAllIn Holds (go_on t)) → LeavesTo Holds went
      → AreAllIn Holds (then_mids go_on went)
  then_in go_on (Goes now) each it = (it, each now it)
  then_in go_on (Stops how last) each it = tt

  next_all : (bar : ℕ) (handles : List Handle) (go_on : State S → List (State S)) (s : State S) → In Holds s
      → ((t : State S) → In Holds t → AreAllIn Holds (go_on t)) → AreAllIn Holds (next_mids limit added bar handles go_on s)
  next_all bar [] go_on s holds each = tt
  next_all bar (handle ∷ rest) go_on s holds each = at (nat_lt handle.stamp bar)
    where
      at : (b : Bool) → AreAllIn Holds (mids_if limit added b handle rest go_on s)
      at true = then_in go_on (run_first limit added handle rest s) each (first_in handle rest s holds)
      at false = tt

  below_all : (bar count : ℕ) (s : State S) → In Holds s → AreAllIn Holds (mids_below limit added bar count s)
  unfolding mids_below
  below_all bar zero s holds = tt
  below_all bar (suc count) s holds = next_all bar s.loop.parts.pending (mids_below limit added bar count) s holds (below_all bar count)

  mids_in : (s : State S) → In Holds s → AreAllIn Holds (mids limit added s)
  mids_in s holds = unless (is_stalled added s)
    where
      fit : (b : Bool) (came : Answer) (left : List Entry)
          → AreAllIn Holds (mids_fitted limit added b came (heard (call_of added s) came left s))
      fit true came left =
          let t = unbooked_in (woken_by came) (heard (call_of added s) came left s) in
          (selected_in came left s holds, below_all _ _ t (selected_in came left s holds))
      fit false came left = tt

      by : (entries : List Entry) → AreAllIn Holds (mids_by limit added entries (call_of added s) (noted (event.Called (call_of added s)) s))
      by [] = tt
      by (Refused line cause ∷ entries) = tt
      by (Answered came ∷ entries) = fit (fits (call_of added s) came) came entries

      unless : (b : Bool) → AreAllIn Holds (mids_unless limit added b s)
      unless true = tt
      unless false = by s.answers

  -- ---- a run
  after : (goes : State S → Type 0) (went : Went S) → LeavesTo Holds went → ((t : State S) → In Holds t → goes t) → AfterTurn Holds goes went
  after goes (Goes now) it each = each now it
  after goes (Stops how last) it each = it

  pub run_in : (turns : ℕ) (s : State S) → In Holds s → IsRunIn Holds limit added turns s
  run_in zero s holds = holds
  run_in (suc turns) s holds =
      (holds, mids_in s holds, after (IsRunIn Holds limit added turns) (turn limit added s) (turn_in s holds) (run_in turns))
