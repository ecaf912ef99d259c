-- A turn of the loop. Source: `base_events.py`, `_run_once`.
use Rattle.std.specs.Prelude.{ℕ, zero, suc, ◌-◌, Bool, true, false, not, ◌&&◌, List, [], ◌∷◌, Option, Some, None, length, max, min, nat_lt}
use Rattle.model_value.specs.declared.action.Action.TheVariants as action
use Rattle.model_value.specs.declared.input.Input.TheVariants.{Send, Throw}
use Rattle.model_value.specs.declared.outcome.Outcome.TheVariants.{Value as Returned}
use Rattle.model_value.specs.Action.{Action}
use Rattle.model_value.specs.Value.{Nothing, Conn, Outcome}
use Rattle.model_wire.specs.declared.event.End.TheVariants as end
use Rattle.model_wire.specs.declared.event.Event.TheVariants as event
use Rattle.model_wire.specs.Call.{Call, Answer}
use Rattle.model_wire.specs.declared.watch.Watch.{Watch}
use Rattle.model_loop.specs.Cycles.{cycle_exception}
use Rattle.model_loop.specs.Ending.{cancel_everything}
use Rattle.model_loop.specs.Futures.{future_outcome, next_future, register, settle}
use Rattle.model_loop.specs.Groups.{child_done}
use Rattle.model_loop.specs.Handles.{due, soon_all}
use Rattle.model_loop.specs.Parts.{Handle, Parts, Timer}
use Rattle.model_loop.specs.Tasks.{future_of, next_task, spawn}
use Rattle.model_loop.specs.Timeouts.{fire}
use Rattle.model_wire.specs.declared.event.Handed.TheVariants as to
use Rattle.model_stream.specs.Doing.{Doing}
use Rattle.model_stream.specs.Requests.{close}
use Rattle.model_stream.specs.Streams.{Streams, act, handler_of}
use Rattle.model_machine.specs.Does.{does}
use Rattle.model_machine.specs.Replies.{most_ids}
use Rattle.model_machine.specs.Extra.{Extra, called}
use Rattle.model_machine.specs.Outside.{news_of, select, time_of, watched}
use Rattle.model_machine.specs.Outcomes.{end_of, finished_as, woken_with}
use Rattle.model_machine.specs.State.{State, in_loop, noted, unbooked_in, with_coroutine, with_streams}
use Rattle.model_machine.specs.Step.{step}
use Rattle.model_machine.specs.Went.{Went, Goes, Stops, ask, went_on}

-- ---- what is asked
-- the longest wait that is asked for, in milliseconds: a day
abbrev pub longest_wait : ℕ
longest_wait = 86400000

-- the least deadline of a timer and of others
abbrev pub least : ℕ → List Timer → ℕ
least when [] = when
least when (timer ∷ timers) = least (min when timer.when) timers

abbrev pub wait_for : List Timer → ℕ → Option ℕ
wait_for [] time = None
wait_for (timer ∷ timers) time = Some (min (least timer.when timers - time) longest_wait)

abbrev pub wait_with : List Handle → Parts → Option ℕ
wait_with [] p = wait_for p.timers p.time
wait_with (handle ∷ handles) p = Some 0

-- How long a turn waits: not at all where something is pending, a dead handle too, else until the next deadline, and without
-- a bound where there is none.
abbrev pub wait_of : Parts → Option ℕ
wait_of p = wait_with p.pending p

-- what a turn watches
abbrev pub watched_by : {S : Type 0} → Extra S → State S → List Watch
watched_by added s = watched s.streams (added.watches s.extra)

-- what a turn asks first
abbrev pub call_of : {S : Type 0} → Extra S → State S → Call
call_of added s = select (wait_of s.loop.parts) (watched_by added s)

abbrev pub nothing_comes : List Handle → List Timer → List Watch → Bool
nothing_comes [] [] [] = true
nothing_comes _ _ _ = false

-- nothing is pending, and nothing can come
abbrev pub is_stalled : {S : Type 0} → Extra S → State S → Bool
is_stalled added s = nothing_comes s.loop.parts.pending s.loop.parts.timers (watched_by added s)

-- ---- what an answer appends
abbrev pub at_time : ℕ → Parts → Parts
at_time now p = record p { time = max p.time now }

-- The time goes on, and never back. What came appends its callbacks, and behind them stand the timers that fall due.
abbrev pub woken_by : Answer → Parts → Parts
woken_by answer p = due (soon_all (news_of answer) (at_time (time_of answer) p))

-- ---- the end of a turn
abbrev pub cancelled_if : {S : Type 0} → Bool → State S → State S
cancelled_if true s = in_loop cancel_everything s
cancelled_if false s = s

abbrev pub finished_if : {S : Type 0} → Option Outcome → State S → Went S
finished_if None s = Goes s
finished_if (Some outcome) s = Stops (end_of outcome) s

-- After the turn in which main's callback ran, each task that lives is cancelled. The run ends with the first turn, from that
-- one on, after which none lives.
abbrev pub turn_over : {S : Type 0} → (done_before : Bool) → State S → Went S
turn_over done_before s =
    let left = cancelled_if (s.main_done && not done_before) s in finished_if (finished_as left) left

-- ---- callbacks of listeners, connections and children
abbrev pub goes_with : {S : Type 0} → Streams → State S → Went S
goes_with streams s = Goes (with_streams streams s)

abbrev pub streams_go : {S : Type 0} → Doing Streams → State S → Went S
streams_go tree s = does Stops tree goes_with s

-- whether a task neither failed nor was cancelled
abbrev pub is_returned : Option Outcome → Bool
is_returned (Some (Returned value)) = true
is_returned _ = false

abbrev pub has_returned : Parts → (task : ℕ) → Bool
has_returned p task = is_returned (future_outcome p (future_of p task))

-- one that doesn't go by how a task ended
abbrev pub streams_act : {S : Type 0} → Action → State S → Went S
streams_act it s = streams_go (act (next_future s.loop.parts) true it s.streams) s

-- The handler of a connection is a task with the connection as its argument, and its end is told. Where no more tasks can be
-- numbered, the connection is closed.
abbrev pub handled_if : {S : Type 0} → (numbered : Bool) → (coroutine conn : ℕ) → State S → Went S
handled_if true coroutine conn s =
    let task = next_task s.loop.parts in
    let made = with_coroutine coroutine (Conn conn ∷ []) (unbooked_in spawn s) in
    Goes (unbooked_in (register (future_of made.loop.parts task) (action.HandlerDone conn task)) made)
handled_if false coroutine conn s = streams_go (close (to.Conn conn) s.streams) s

abbrev pub made_by : {S : Type 0} → Option ℕ → (conn : ℕ) → State S → Went S
made_by None conn s = Goes s
made_by (Some coroutine) conn s = handled_if (nat_lt (next_task s.loop.parts) most_ids) coroutine conn s

-- ---- handles
module _ {S : Type 0} (limit : ℕ) (added : Extra S) where
  -- what a handle does
  unfoldable pub effect : Action → State S → Went S
  effect (action.Step task) s = step limit added task (Send Nothing) s
  -- a task that would wait in a cycle is thrown an error in its place
  effect (action.StepInCycle task cycle) s = step limit added task (Throw (cycle_exception cycle)) s
  effect (action.Wakeup task) s = step limit added task (woken_with s.loop.parts task) s
  effect (action.SleepDone task future) s = Goes (unbooked_in (settle future (Returned Nothing)) s)
  effect (action.GroupDone group task) s = Goes (in_loop (child_done group task) s)
  effect (action.Fires timeout) s = Goes (in_loop (fire timeout) s)
  effect action.MainDone s = Goes (record s { main_done = true })
  effect (action.ExtraItem code bytes) s = Goes (called (added.item code bytes s) s)
  effect (action.Extra key) s = Goes (called (added.act key s) s)
  effect (action.Made conn) s = made_by (handler_of conn s.streams) conn s
  effect (action.HandlerDone conn task) s =
      streams_go (act (next_future s.loop.parts) (has_returned s.loop.parts task) (action.HandlerDone conn task) s.streams) s
  effect (action.StartRead conn) s = streams_act (action.StartRead conn) s
  effect (action.Lost conn broken) s = streams_act (action.Lost conn broken) s
  effect (action.ReadableServer server) s = streams_act (action.ReadableServer server) s
  effect (action.Readable conn) s = streams_act (action.Readable conn) s
  effect (action.Writable conn) s = streams_act (action.Writable conn) s
  effect (action.Up conn) s = streams_act (action.Up conn) s
  effect (action.Down conn) s = streams_act (action.Down conn) s
  effect (action.WritableChild child) s = streams_act (action.WritableChild child) s
  effect (action.ChildItem child told) s = streams_act (action.ChildItem child told) s
  effect (action.LostChild child broken) s = streams_act (action.LostChild child broken) s

  -- a dead handle does nothing
  abbrev pub ran : (dead : Bool) → Action → State S → Went S
  ran true it s = Goes s
  ran false it s = effect it (noted (event.Ran it) s)

  -- the first handle is taken out and runs
  abbrev pub run_first : Handle → List Handle → State S → Went S
  run_first handle handles s =
      ran handle.dead handle.action (unbooked_in (λ p. record p { pending = handles }) s)

  abbrev pub run_if : (below : Bool) → Handle → List Handle → (State S → Went S) → State S → Went S
  run_if true handle handles go_on s = went_on go_on (run_first handle handles s)
  run_if false handle handles go_on s = Goes s

  -- where the first pending handle was appended before the bar, it runs, and then what comes next
  abbrev pub next_below : (bar : ℕ) → List Handle → (State S → Went S) → State S → Went S
  next_below bar [] go_on s = Goes s
  next_below bar (handle ∷ handles) go_on s = run_if (nat_lt handle.stamp bar) handle handles go_on s

  -- The handles before the bar run, in order, as many as are pending there.
  unfoldable pub run_below : (bar count : ℕ) → State S → Went S
  run_below bar zero s = Goes s
  run_below bar (suc count) s = next_below bar s.loop.parts.pending (run_below bar count) s

  -- What is appended while handles run stands behind the bar and waits for the next turn.
  abbrev pub run_pending : State S → Went S
  run_pending s = run_below s.loop.parts.next_stamp (length s.loop.parts.pending) s

  abbrev pub turned_by : Answer → State S → Went S
  turned_by answer s = went_on (turn_over s.main_done) (run_pending (unbooked_in (woken_by answer) s))

  abbrev pub turn_unless : (stalled : Bool) → State S → Went S
  turn_unless true s = Stops end.Stalled s
  turn_unless false s = ask (call_of added s) turned_by s

  -- A turn asks for the time and what came, and then the handles that are pending run. It may end the run.
  unfoldable pub turn : State S → Went S
  turn s = turn_unless (is_stalled added s) s
