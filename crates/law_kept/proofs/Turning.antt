-- What goes on holds after a step, a callback and a turn, after each callback of a turn, and of every state of a run.
use Rattle.std.proofs.Common.{◌≡◌, ℕ, zero, suc, Bool, true, false, not, ◌&&◌, List, [], ◌∷◌, Option, Some, None, Ok, Err, length, nat_lt, le_refl, refl, sym}
use Rattle.std.proofs.lemmas.Bool.{false≢true}
use Rattle.model_value.specs.Action.{Action}
use Rattle.model_value.specs.declared.action.Action.TheVariants as action
use Rattle.model_value.specs.Input.{Input}
use Rattle.model_value.specs.Value.{Conn, Outcome}
use Rattle.model_says.specs.Endings.{Saying, Asks, Returns, Raises as Raised, Runaway}
use Rattle.model_wire.specs.declared.event.Event.TheVariants as event
use Rattle.model_wire.specs.declared.event.Handed.TheVariants as to
use Rattle.model_wire.specs.Call.{Answer}
use Rattle.model_wire.specs.Fits.{fits}
use Rattle.model_wire.specs.Journal.{Entry, Answered, Refused}
use Rattle.model_loop.specs.Futures.{next_future}
use Rattle.model_loop.specs.Parts.{Handle}
use Rattle.model_loop.specs.Tasks.{begin_step, future_of, next_task, spawn}
use Rattle.model_stream.specs.Doing.{Doing}
use Rattle.model_stream.specs.Requests.{close}
use Rattle.model_stream.specs.Streams.{Streams, act, handler_of}
use Rattle.model_machine.specs.Extra.{Extra, ExtraAnswer}
use Rattle.model_machine.specs.Mids.{mids, mids_below, mids_by, mids_fitted, mids_if, mids_unless, next_mids, then_mids}
use Rattle.model_machine.specs.Outcomes.{finished_as}
use Rattle.model_machine.specs.Replies.{RequestReply, Answers, Raises, Suspends, Halts, decides, most_ids, reply}
use Rattle.model_machine.specs.Sound.{is_extra}
use Rattle.model_machine.specs.State.{Asked, Serving, State, generator_of, noted, stands, unbooked_in, with_coroutine}
use Rattle.model_machine.specs.Step.{given_up, says_of, serve, serve_all, served, step, taken_as}
use Rattle.model_machine.specs.Turn.{call_of, cancelled_if, effect, finished_if, goes_with, handled_if, has_returned, is_stalled, made_by, next_below, ran}
use Rattle.model_machine.specs.Turn.{run_below, run_first, run_if, run_pending, streams_go, turn, turn_over, turn_unless, turned_by, woken_by}
use Rattle.model_machine.specs.Went.{Went, Goes, Stops, state_of, went_on}
use Rattle.law_cases.specs.Trees.{Keeping, KeepsStreams}
use Rattle.law_cases.proofs.Asking.{closes}
use Rattle.law_cases.proofs.Opening.{acts}
use Rattle.law_changes.specs.Changes.{LeavesPending, MakesTask, Registers, Settles}
use Rattle.law_changes.specs.Reaches.{stays}
use Rattle.law_reach.specs.Reaches.{left_by}
use Rattle.law_reach.proofs.Opened.{any_kept, any_of}
use Rattle.law_kept.specs.Runs.{AfterTurn, AreAll, IsRunOf}
use Rattle.law_kept.specs.Walks.{Beside, Walks}
use Rattle.law_kept.proofs.Loops.{begin_row, child_done_row, end_row, finish_row, fire_row, woken_row}
use Rattle.law_kept.proofs.Requests.{asked_on, beside_same, beside_then, coroutine_beside, does_on, loop_beside, noted_beside, parts_beside, resumed_beside}
use Rattle.law_kept.proofs.Requests.{stands_beside, streams_beside}
use Rattle.law_kept.proofs.Serving.{decides_on, reply_on}
use Rattle.law_kept.proofs.Standing.{set_nowhere}

module _ {S : Type 0} {added : Extra S} {Holds : State S → Type 0} {Called : (task : ℕ) → ExtraAnswer → State S → Type 0}
    {Woken : (task key : ℕ) → State S → Type 0} (walks : Walks added Holds Called Woken) (limit : ℕ) where
  abbrev Leaves : Went S → Type 0
  Leaves it = Holds (state_of it)

  abbrev LeavesOn : (State S → Went S) → Type 0
  LeavesOn go_on = (s : State S) → Holds s → Leaves (go_on s)

  -- ---- steps
  taken_on : (task : ℕ) (it : RequestReply S) (fresh : Bool) (go_on : State S → Went S) → Holds (left_by it) → LeavesOn go_on
      → Leaves (taken_as it fresh task go_on)
  taken_on task (Answers value now) fresh go_on it each = each _ (walks.beside now _ (resumed_beside fresh task _ now) it)
  taken_on task (Raises fault now) fresh go_on it each = each _ (walks.beside now _ (resumed_beside fresh task _ now) it)
  taken_on task (Suspends now) fresh go_on it each = it
  taken_on task (Halts how last) fresh go_on it each = it

  served_on : (said : Saying) (task : ℕ) (go_on : State S → Went S) (s : State S) → Holds s → LeavesOn go_on
      → Leaves (served limit added said task go_on s)
  served_on (Asks asked) task go_on s holds each = taken_on task (reply added task asked s) false go_on (reply_on walks task asked s holds) each
  served_on (Returns value) task go_on s holds each = walks.beside s _ (loop_beside s (finish_row task (Ok value) s.loop)) holds
  served_on (Raised fault) task go_on s holds each = walks.beside s _ (loop_beside s (finish_row task (Err fault) s.loop)) holds
  served_on Runaway task go_on s holds each = holds

  serve_on : (answers task : ℕ) → LeavesOn (serve limit added answers task)
  unfolding serve
  serve_on zero task s holds = holds
  serve_on (suc answers) task s holds = served_on (says_of limit added task s) task (serve limit added answers task) s holds (serve_on answers task)

  asked_serves : (key : ℕ) → Asked ≡ Serving key → ⊥
  asked_serves key e = absurd (cc)

  step_on : (task : ℕ) (input : Input) (s : State S) → Holds s → Leaves (step limit added task input s)
  unfolding step
  step_on task input s holds =
      let resume_point = (generator_of task s).resume_point in
      let begun = begin_step task input (given_up resume_point s.loop.parts) in
      let went = loop_beside s (begin_row task input resume_point s.loop) in
      let awake = stands Asked task (unbooked_in (λ p. begun.parts) s) in
      let here = beside_then went (stands_beside Asked task (unbooked_in (λ p. begun.parts) s) asked_serves) in
      taken_on task (decides added resume_point task begun.input awake) true (serve_all limit added task)
      (decides_on walks task resume_point begun.input awake (walks.beside s awake here holds)
      (λ key at. walks.stood task key s awake at here (λ other h. set_nowhere s.generators task _ other asked_serves h) holds))
      (λ t it. serve_on _ task t it)

  -- ---- callbacks of listeners, connections and children
  go_on_streams : (tree : Doing Streams) (s : State S)
      → Keeping (KeepsStreams (any_of (length s.streams.connections)) (next_future s.loop.parts) s.streams)
      (any_of (length s.streams.connections)) (next_future s.loop.parts) tree → Holds s → Leaves (streams_go tree s)
  go_on_streams tree s keeps holds =
      walks.beside s _
      (does_on Stops (λ went. Beside s (state_of went)) s (λ how last it. it)
      (KeepsStreams (any_of (length s.streams.connections)) (next_future s.loop.parts) s.streams) (any_of (length s.streams.connections))
      (next_future s.loop.parts) tree goes_with s (beside_same s) keeps (λ streams t here. beside_then here (streams_beside streams t)))
      holds

  acts_on : (it : Action) (returned : Bool) (s : State S) → Holds s → Leaves (streams_go (act (next_future s.loop.parts) returned it s.streams) s)
  acts_on it returned s holds =
      go_on_streams (act (next_future s.loop.parts) returned it s.streams) s
      (acts (any_of (length s.streams.connections)) (next_future s.loop.parts) returned it s.streams (any_kept s.streams)
      (le_refl _)) holds

  made_on : (handler : Option ℕ) (conn : ℕ) (s : State S) → Holds s → Leaves (made_by handler conn s)
  made_on None conn s holds = holds
  made_on (Some coroutine) conn s holds = at (nat_lt (next_task s.loop.parts) most_ids)
    where
      task : ℕ
      task = next_task s.loop.parts

      made : State S
      made = with_coroutine coroutine (Conn conn ∷ []) (unbooked_in spawn s)

      new : Beside s made
      new = beside_then (parts_beside MakesTask s tt) (coroutine_beside coroutine (Conn conn ∷ []) (unbooked_in spawn s))

      at : (b : Bool) → Leaves (handled_if b coroutine conn s)
      at true =
          walks.beside s _
          (beside_then new (parts_beside (Registers (future_of made.loop.parts task) (action.HandlerDone conn task)) made refl)) holds
      at false =
          go_on_streams (close (to.Conn conn) s.streams) s
          (closes (any_of (length s.streams.connections)) (next_future s.loop.parts) (to.Conn conn) s.streams (any_kept s.streams)) holds

  -- ---- what isn't a handle of what is added
  effect_on : (it : Action) (s : State S) → is_extra it ≡ false → Holds s → Leaves (effect limit added it s)
  unfolding effect
  effect_on (action.Step task) s other holds = step_on task _ s holds
  effect_on (action.StepInCycle task cycle) s other holds = step_on task _ s holds
  effect_on (action.Wakeup task) s other holds = step_on task _ s holds
  effect_on (action.SleepDone task future) s other holds = walks.beside s _ (parts_beside (Settles future _) s tt) holds
  effect_on (action.GroupDone group task) s other holds = walks.beside s _ (loop_beside s (child_done_row group task s.loop)) holds
  effect_on (action.Fires timeout) s other holds = walks.beside s _ (loop_beside s (fire_row timeout s.loop)) holds
  effect_on action.MainDone s other holds = walks.beside s _ (record { kept = refl; loop = stays; stands = λ task key h. h }) holds
  effect_on (action.ExtraItem code bytes) s other holds = walks.news code bytes s holds
  effect_on (action.Extra key) s other holds = absurd (false≢true (sym other))
  effect_on (action.Made conn) s other holds = made_on (handler_of conn s.streams) conn s holds
  effect_on (action.HandlerDone conn task) s other holds = acts_on (action.HandlerDone conn task) (has_returned s.loop.parts task) s holds
  effect_on (action.StartRead conn) s other holds = acts_on (action.StartRead conn) true s holds
  effect_on (action.Lost conn broken) s other holds = acts_on (action.Lost conn broken) true s holds
  effect_on (action.ReadableServer server) s other holds = acts_on (action.ReadableServer server) true s holds
  effect_on (action.Readable conn) s other holds = acts_on (action.Readable conn) true s holds
  effect_on (action.Writable conn) s other holds = acts_on (action.Writable conn) true s holds
  effect_on (action.Up conn) s other holds = acts_on (action.Up conn) true s holds
  effect_on (action.Down conn) s other holds = acts_on (action.Down conn) true s holds
  effect_on (action.WritableChild child) s other holds = acts_on (action.WritableChild child) true s holds
  effect_on (action.ChildItem child told) s other holds = acts_on (action.ChildItem child told) true s holds
  effect_on (action.LostChild child broken) s other holds = acts_on (action.LostChild child broken) true s holds

  -- the first handle is taken out
  taken_out : (handle : Handle) (rest : List Handle) (s : State S) → s.loop.parts.pending ≡ handle ∷ rest
      → Beside s (unbooked_in (λ p. record p { pending = rest }) s)
  taken_out handle rest s first = parts_beside (LeavesPending rest) s (handle, first)

  live_on : (it : Action) (handle : Handle) (rest : List Handle) (s : State S) → s.loop.parts.pending ≡ handle ∷ rest → handle.action ≡ it
      → handle.dead ≡ false → Holds s → Leaves (effect limit added it (noted (event.Ran it) (unbooked_in (λ p. record p { pending = rest }) s)))
  unfolding effect
  live_on (action.Extra key) handle rest s first is live holds = walks.acts key handle rest s first live is holds
  live_on it handle rest s first is live holds =
      effect_on it _ refl (walks.beside s _ (beside_then (taken_out handle rest s first) (noted_beside (event.Ran it) _)) holds)

  first_on : (handle : Handle) (rest : List Handle) (s : State S) → s.loop.parts.pending ≡ handle ∷ rest → Holds s
      → Leaves (run_first limit added handle rest s)
  first_on handle rest s first holds = at handle.dead refl
    where
      at : (dead : Bool) → handle.dead ≡ dead → Leaves (ran limit added dead handle.action (unbooked_in (λ p. record p { pending = rest }) s))
      at true is = walks.beside s _ (taken_out handle rest s first) holds
      at false is = live_on handle.action handle rest s first refl is holds

  -- ---- all callbacks of a turn
  then_on : (go_on : State S → Went S) (went : Went S) → LeavesOn go_on → Leaves went → Leaves (went_on go_on went)
  then_on go_on (Goes now) each it = each now it
  then_on go_on (Stops how last) each it = it

  next_on : (bar : ℕ) (handles : List Handle) (go_on : State S → Went S) (s : State S) → s.loop.parts.pending ≡ handles → Holds s → LeavesOn go_on
      → Leaves (next_below limit added bar handles go_on s)
  next_on bar [] go_on s first holds each = holds
  next_on bar (handle ∷ rest) go_on s first holds each = at (nat_lt handle.stamp bar)
    where
      at : (b : Bool) → Leaves (run_if limit added b handle rest go_on s)
      at true = then_on go_on (run_first limit added handle rest s) each (first_on handle rest s first holds)
      at false = holds

  below_on : (bar count : ℕ) (s : State S) → Holds s → Leaves (run_below limit added bar count s)
  unfolding run_below
  below_on bar zero s holds = holds
  below_on bar (suc count) s holds = next_on bar s.loop.parts.pending (run_below limit added bar count) s refl holds (below_on bar count)

  over_on : (done_before : Bool) (s : State S) → Holds s → Leaves (turn_over done_before s)
  over_on done_before s holds = at (s.main_done && not done_before)
    where
      cancelled : (b : Bool) → Holds (cancelled_if b s)
      cancelled true = walks.beside s _ (loop_beside s (end_row s.loop)) holds
      cancelled false = holds

      finished : (o : Option Outcome) (b : Bool) → Leaves (finished_if o (cancelled_if b s))
      finished None b = cancelled b
      finished (Some outcome) b = cancelled b

      at : (b : Bool) → Leaves (finished_if (finished_as (cancelled_if b s)) (cancelled_if b s))
      at b = finished (finished_as (cancelled_if b s)) b

  -- ---- a turn
  turned_on : (came : Answer) (s : State S) → Holds s → Leaves (turned_by limit added came s)
  turned_on came s holds =
      then_on (turn_over s.main_done) (run_pending limit added (unbooked_in (woken_by came) s)) (over_on s.main_done)
      (below_on _ _ (unbooked_in (woken_by came) s) (walks.beside s _ (loop_beside s (woken_row came s.loop)) holds))

  turn_on : (s : State S) → Holds s → Leaves (turn limit added s)
  unfolding turn
  turn_on s holds = unless (is_stalled added s)
    where
      unless : (b : Bool) → Leaves (turn_unless limit added b s)
      unless true = holds
      unless false =
          asked_on Stops Leaves s (λ how last here. walks.beside s last here holds) (call_of added s) (turned_by limit added) s (beside_same s)
          (λ came t here. turned_on came t (walks.beside s t here holds))

  -- ---- the states between
  then_all : (go_on : State S → List (State S)) (went : Went S) → ((t : State S) → Holds t → AreAll Holds (go_on t)) → Leaves went
      → AreAll Holds (then_mids go_on went)
  then_all go_on (Goes now) each it = (it, each now it)
  then_all go_on (Stops how last) each it = tt

  next_all : (bar : ℕ) (handles : List Handle) (go_on : State S → List (State S)) (s : State S) → s.loop.parts.pending ≡ handles → Holds s
      → ((t : State S) → Holds t → AreAll Holds (go_on t)) → AreAll Holds (next_mids limit added bar handles go_on s)
  next_all bar [] go_on s first holds each = tt
  next_all bar (handle ∷ rest) go_on s first holds each = at (nat_lt handle.stamp bar)
    where
      at : (b : Bool) → AreAll Holds (mids_if limit added b handle rest go_on s)
      at true = then_all go_on (run_first limit added handle rest s) each (first_on handle rest s first holds)
      at false = tt

  below_all : (bar count : ℕ) (s : State S) → Holds s → AreAll Holds (mids_below limit added bar count s)
  unfolding mids_below
  below_all bar zero s holds = tt
  below_all bar (suc count) s holds = next_all bar s.loop.parts.pending (mids_below limit added bar count) s refl holds (below_all bar count)

  mids_on : (s : State S) → Holds s → AreAll Holds (mids limit added s)
  mids_on s holds = unless (is_stalled added s)
    where
      fit : (b : Bool) (came : Answer) (t : State S) → Beside s t → AreAll Holds (mids_fitted limit added b came t)
      fit true came t here =
          let now = walks.beside t (unbooked_in (woken_by came) t) (loop_beside t (woken_row came t.loop)) (walks.beside s t here holds) in
          (now, below_all _ _ (unbooked_in (woken_by came) t) now)
      fit false came t here = tt

      heard : (came : Answer) (entries : List Entry)
          → Beside s (noted (event.Got came) (record (noted (event.Called (call_of added s)) s) { answers = entries }))
      heard came entries = record { kept = refl; loop = stays; stands = λ task key h. h }

      by : (entries : List Entry) → AreAll Holds (mids_by limit added entries (call_of added s) (noted (event.Called (call_of added s)) s))
      by [] = tt
      by (Refused line cause ∷ entries) = tt
      by (Answered came ∷ entries) = fit (fits (call_of added s) came) came _ (heard came entries)

      unless : (b : Bool) → AreAll Holds (mids_unless limit added b s)
      unless true = tt
      unless false = by s.answers

  -- ---- a run
  after : (goes_on : State S → Type 0) (went : Went S) → Leaves went → ((t : State S) → Holds t → goes_on t) → AfterTurn Holds goes_on went
  after goes_on (Goes now) it each = each now it
  after goes_on (Stops how last) it each = it

  pub run_on : (turns : ℕ) (s : State S) → Holds s → IsRunOf Holds limit added turns s
  run_on zero s holds = holds
  run_on (suc turns) s holds = (holds, mids_on s holds, after (IsRunOf Holds limit added turns) (turn limit added s) (turn_on s holds) (run_on turns))
