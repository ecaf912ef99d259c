-- What goes on holds after a step, a callback and a turn, after each callback of a turn, and of every state of a run.
use Rattle.std.proofs.Common.{inl, inr, ℕ, zero, suc, refl, Bool, true, false, not, ◌&&◌, List, [], ◌∷◌, Option, Some, None, nat_lt}
use Rattle.model_value.specs.Action.{Action}
use Rattle.model_value.specs.declared.action.Action.TheVariants as action
use Rattle.model_value.specs.Input.{Input}
use Rattle.model_value.specs.Value.{Outcome}
use Rattle.model_says.specs.Endings.{Saying, Asks, Returns, Raises as Raised, Runaway}
use Rattle.model_wire.specs.declared.event.Event.TheVariants as event
use Rattle.model_wire.specs.declared.event.Handed.TheVariants as to
use Rattle.model_wire.specs.Call.{Answer}
use Rattle.model_wire.specs.Fits.{fits}
use Rattle.model_wire.specs.Journal.{Entry, Answered, Refused}
use Rattle.model_wire.specs.Event.{Event}
use Rattle.model_wire.specs.Trace.{End}
use Rattle.model_loop.specs.Futures.{next_future}
use Rattle.model_loop.specs.Parts.{Handle}
use Rattle.model_loop.specs.Tasks.{begin_step, next_task}
use Rattle.model_stream.specs.Doing.{Doing}
use Rattle.model_stream.specs.Requests.{close}
use Rattle.model_stream.specs.Streams.{Streams, act, handler_of}
use Rattle.model_machine.specs.Extra.{Extra}
use Rattle.model_machine.specs.Mids.{mids, mids_below, mids_by, mids_fitted, mids_if, mids_unless, next_mids, then_mids}
use Rattle.model_machine.specs.Outcomes.{finished_as}
use Rattle.model_machine.specs.Replies.{RequestReply, Answers, Raises, Suspends, Halts, decides, most_ids, reply}
use Rattle.model_machine.specs.State.{Asked, State, generator_of, noted, stands, unbooked_in}
use Rattle.model_machine.specs.Step.{given_up, says_of, serve, serve_all, served, step, taken_as}
use Rattle.model_machine.specs.Turn.{call_of, cancelled_if, effect, finished_if, goes_with, handled_if, has_returned, is_stalled, made_by, next_below, ran}
use Rattle.model_machine.specs.Turn.{run_below, run_first, run_if, run_pending, streams_go, turn, turn_over, turn_unless, turned_by, woken_by}
use Rattle.model_machine.specs.Went.{Went, Goes, Stops, went_on}
use Rattle.std.proofs.Common.{◌≡◌, ◌++◌, sym, subst, length, Ok, Err}
use Rattle.std.proofs.lemmas.Bool.{true≢false}
use Rattle.std.proofs.lemmas.List.{append_assoc}
use Rattle.model_loop.specs.Parts.{Parts}
use Rattle.model_loop.specs.Tasks.{future_of, spawn}
use Rattle.model_machine.specs.State.{ResumePoint, Sleeping, Leaving, Serving, Connecting, Yielding, Reading, ReadingAll}
use Rattle.model_machine.specs.Turn.{wait_of}
use Rattle.law_changes.specs.Changes.{MakesTask, Registers, Revokes, Settles}
use Rattle.law_walk.proofs.Rows as loops
use Rattle.law_reach.specs.Reaches.{IsUnmet}
use Rattle.law_stream.specs.Ways.{Move, Always}
use Rattle.law_walk.specs.Walks.{AfterTurn, Anyone, AreAllIn, AreTrees, Doer, EndsInStep, GoesOn, In, IsHere, IsRunIn, LeavesBy, LeavesTo, Runs}
use Rattle.law_walk.specs.Walks.{Walks, acts_alone, is_step}
use Rattle.law_walk.proofs.Trees.{asked_comes, does_comes, moved_holds, tree_kept}
use Rattle.law_walk.proofs.Replying.{decides_ordered, reply_ordered}

-- ---- what a turn does of itself to the loop
given_up_goes : {After : Parts → Parts → Type 0} (goes_on : GoesOn After) (resume_point : ResumePoint) (p : Parts) → After p (given_up resume_point p)
given_up_goes goes_on Asked p = goes_on.same p
given_up_goes goes_on (Sleeping tag) p = goes_on.change (Revokes tag) p tt
given_up_goes goes_on (Leaving group) p = goes_on.same p
given_up_goes goes_on (Serving key) p = goes_on.same p
given_up_goes goes_on (Connecting conn) p = goes_on.same p
given_up_goes goes_on (Yielding whom) p = goes_on.same p
given_up_goes goes_on (Reading from op on) p = goes_on.same p
given_up_goes goes_on (ReadingAll from taken on) p = goes_on.same p

-- ---- steps
module _ {S : Type 0} (Tells Holds : Streams → List Event → Parts → Type 0) (task : ℕ) where
  abbrev SaysOn : (State S → Went S) → Type 0
  SaysOn go_on = (s : State S) → In Holds s → LeavesTo Tells Holds (go_on s)

  taken_ordered : (it : RequestReply S) (fresh : Bool) (go_on : State S → Went S) → LeavesBy Tells Holds it → SaysOn go_on
      → LeavesTo Tells Holds (taken_as it fresh task go_on)
  taken_ordered (Answers value now) fresh go_on it each = each _ it
  taken_ordered (Raises fault now) fresh go_on it each = each _ it
  taken_ordered (Suspends now) fresh go_on it each = it
  taken_ordered (Halts how last) fresh go_on it each = it

module _ {S : Type 0} {After : Parts → Parts → Type 0} {Keeps : Doer → Streams → List Move → Streams → Type 0}
    {Tells Holds : Streams → List Event → Parts → Type 0} (goes_on : GoesOn After) (trees : AreTrees Keeps) (kept : IsHere After Keeps Tells Holds)
    (limit : ℕ) (added : Extra S) where
  unmet : (how : End) (last : State S) → IsUnmet how → LeavesTo {S = S} Tells Holds (Stops how last)
  unmet how last it = inl it

  -- the loop changes of itself
  quietly : (s : State S) {q : Parts} → After s.loop.parts q → In Holds s → Holds s.streams s.events q
  quietly s {q} quiet ordered = kept.loops s.streams s.events s.loop.parts q quiet ordered

  served_ordered : (said : Saying) (task : ℕ) (go_on : State S → Went S) (s : State S) → In Holds s → SaysOn Tells Holds task go_on
      → LeavesTo Tells Holds (served limit added said task go_on s)
  served_ordered (Asks asked) task go_on s ordered each =
      taken_ordered Tells Holds task (reply added task asked s) false go_on (reply_ordered goes_on trees kept added task asked s ordered) each
  served_ordered (Returns value) task go_on s ordered each = quietly s (loops.finish_goes goes_on task (Ok value) s.loop.parts) ordered
  served_ordered (Raised fault) task go_on s ordered each = quietly s (loops.finish_goes goes_on task (Err fault) s.loop.parts) ordered
  served_ordered Runaway task go_on s ordered each = inr (kept.tells s.streams s.events s.loop.parts ordered)

  serve_ordered : (answers task : ℕ) → SaysOn Tells Holds task (serve limit added answers task)
  unfolding serve
  serve_ordered zero task s ordered = inr (kept.tells s.streams s.events s.loop.parts ordered)
  serve_ordered (suc answers) task s ordered =
      served_ordered (says_of limit added task s) task (serve limit added answers task) s ordered (serve_ordered answers task)

  step_ordered : (task : ℕ) (input : Input) (s : State S) → In Holds s → EndsInStep s.events → LeavesTo Tells Holds (step limit added task input s)
  unfolding step
  step_ordered task input s ordered began =
      let resume_point = (generator_of task s).resume_point in
      let begun = begin_step task input (given_up resume_point s.loop.parts) in
      let awake = stands Asked task (unbooked_in (λ p. begun.parts) s) in
      taken_ordered Tells Holds task (decides added resume_point task begun.input awake) true (serve_all limit added task)
      (decides_ordered goes_on trees kept added task resume_point begun.input awake (quietly s
      (goes_on.next s.loop.parts (given_up resume_point s.loop.parts) begun.parts (given_up_goes goes_on resume_point s.loop.parts)
      (loops.begin_goes goes_on task input (given_up resume_point s.loop.parts))) ordered) began) (λ t it. serve_ordered _ task t it)

  -- ---- callbacks
  go_ordered : (tree : Doing Streams) (s : State S) → In Holds s → Always (Keeps Anyone s.streams) tree → LeavesTo Tells Holds (streams_go tree s)
  go_ordered tree s ordered keeps =
      does_comes Stops (LeavesTo Tells Holds) unmet tree goes_with s (Keeps Anyone s.streams) keeps
      (λ moves streams t moved it. tree_kept kept s t moves streams ordered moved it)

  made_ordered : (handler : Option ℕ) (conn : ℕ) (s : State S) → In Holds s → LeavesTo Tells Holds (made_by handler conn s)
  made_ordered None conn s ordered = ordered
  made_ordered (Some coroutine) conn s ordered = at (nat_lt (next_task s.loop.parts) most_ids)
    where
      at : (b : Bool) → LeavesTo Tells Holds (handled_if b coroutine conn s)
      at true =
          let made = quietly s (goes_on.change MakesTask s.loop.parts tt) ordered in
          kept.loops s.streams s.events (spawn s.loop.parts) _
          (goes_on.change (Registers (future_of (spawn s.loop.parts) (next_task s.loop.parts)) (action.HandlerDone conn (next_task s.loop.parts)))
          (spawn s.loop.parts) refl)
          made
      at false = go_ordered (close (to.Conn conn) s.streams) s ordered (trees.closes (to.Conn conn) s.streams)

  -- the events end with this callback
  abbrev HasRan : Action → List Event → Type 0
  HasRan it events = (front : List Event) × (events ≡ front ++ event.Ran it ∷ [])

  began : (it : Action) (events : List Event) → HasRan it events → is_step it ≡ true → EndsInStep events
  began it events has_run is = record { front = has_run.0; it = it; ends = has_run.1; step = is }

  -- one that does more than to streams alone
  effect_ordered : (it : Action) → acts_alone it ≡ false → (s : State S) → HasRan it s.events → In Holds s → LeavesTo Tells Holds (effect limit added it s)
  unfolding effect
  effect_ordered (action.Step task) other s has_run ordered = step_ordered task _ s ordered (began (action.Step task) s.events has_run refl)
  effect_ordered (action.StepInCycle task cycle) other s has_run ordered =
      step_ordered task _ s ordered (began (action.StepInCycle task cycle) s.events has_run refl)
  effect_ordered (action.Wakeup task) other s has_run ordered = step_ordered task _ s ordered (began (action.Wakeup task) s.events has_run refl)
  effect_ordered (action.SleepDone task future) other s has_run ordered = quietly s (goes_on.change (Settles future _) s.loop.parts tt) ordered
  effect_ordered (action.GroupDone group task) other s has_run ordered = quietly s (loops.child_done_goes goes_on group task s.loop) ordered
  effect_ordered (action.Fires timeout) other s has_run ordered = quietly s (loops.fire_goes goes_on timeout s.loop) ordered
  effect_ordered action.MainDone other s has_run ordered = ordered
  effect_ordered (action.ExtraItem code bytes) other s has_run ordered =
      quietly s (loops.extras_goes goes_on (added.item code bytes s).steps s.loop) ordered
  effect_ordered (action.Extra key) other s has_run ordered = quietly s (loops.extras_goes goes_on (added.act key s).steps s.loop) ordered
  effect_ordered (action.Made conn) other s has_run ordered = made_ordered (handler_of conn s.streams) conn s ordered
  effect_ordered (action.HandlerDone conn task) other s has_run ordered = absurd (true≢false other)
  effect_ordered (action.StartRead conn) other s has_run ordered = absurd (true≢false other)
  effect_ordered (action.Lost conn broken) other s has_run ordered = absurd (true≢false other)
  effect_ordered (action.ReadableServer server) other s has_run ordered = absurd (true≢false other)
  effect_ordered (action.Readable conn) other s has_run ordered = absurd (true≢false other)
  effect_ordered (action.Writable conn) other s has_run ordered = absurd (true≢false other)
  effect_ordered (action.Up conn) other s has_run ordered = absurd (true≢false other)
  effect_ordered (action.Down conn) other s has_run ordered = absurd (true≢false other)
  effect_ordered (action.WritableChild child) other s has_run ordered = absurd (true≢false other)
  effect_ordered (action.ChildItem child told) other s has_run ordered = absurd (true≢false other)
  effect_ordered (action.LostChild child broken) other s has_run ordered = absurd (true≢false other)

-- ---- all callbacks of a turn
-- the first handle, which does this, was taken out
abbrev running : {S : Type 0} → Action → List Handle → State S → State S
running it rest s = noted (event.Ran it) (unbooked_in (λ p. record p { pending = rest }) s)

-- the select of a turn was answered, and what came is appended
abbrev heard : {S : Type 0} → Extra S → Answer → List Entry → State S → State S
heard added came left s = noted (event.Got came) (record (noted (event.Called (call_of added s)) s) { answers = left })

abbrev begun : {S : Type 0} → Extra S → Answer → List Entry → State S → State S
begun added came left s = unbooked_in (woken_by came) (heard added came left s)

module _ {S : Type 0} {After : Parts → Parts → Type 0} {Keeps : Doer → Streams → List Move → Streams → Type 0}
    {Tells : Streams → List Event → Parts → Type 0} {Holds : (bar left : ℕ) → Streams → List Event → Parts → Type 0}
    (walks : Walks After Keeps Tells Holds) (limit : ℕ) (added : Extra S) where
  halted : (bar left : ℕ) (how : End) (last : State S) → IsUnmet how → LeavesTo {S = S} Tells (Holds bar left) (Stops how last)
  halted bar left how last it = inl it

  -- one that does alone what it does to streams, in one with its running
  alone_ordered : (bar left : ℕ) (returned : Bool) (it : Action) (handle : Handle) (rest : List Handle) (s : State S)
      → s.loop.parts.pending ≡ handle ∷ rest → handle.dead ≡ false → handle.action ≡ it → In (Holds bar (suc left)) s
      → LeavesTo Tells (Holds bar left) (streams_go (act (next_future s.loop.parts) returned it s.streams) (running it rest s))
  alone_ordered bar left returned it handle rest s first live is ordered =
      let now = running it rest s in
      let tree = act (next_future s.loop.parts) returned it s.streams in
      does_comes Stops (LeavesTo Tells (Holds bar left)) (halted bar left) tree goes_with now (Keeps (Runs it) s.streams)
      (walks.trees.acts (next_future s.loop.parts) returned it s.streams)
      (λ moves streams t moved keeps.
      moved_holds (Holds bar left) now t moves streams moved
      (walks.acts bar left s.streams s.events s.loop.parts handle rest it moves streams first live is keeps ordered))

  first_ordered : (bar left : ℕ) (handle : Handle) (rest : List Handle) (s : State S) → s.loop.parts.pending ≡ handle ∷ rest
      → In (Holds bar (suc left)) s → LeavesTo Tells (Holds bar left) (run_first limit added handle rest s)
  unfolding effect
  first_ordered bar left handle rest s first ordered = at handle.dead refl
    where
      runs : (it : Action) → handle.action ≡ it → handle.dead ≡ false → acts_alone it ≡ false
          → LeavesTo Tells (Holds bar left) (effect limit added it (running it rest s))
      runs it is live other =
          effect_ordered walks.goes_on walks.trees (walks.here bar left) limit added it other (running it rest s) (s.events, refl)
          (walks.runs bar left s.streams s.events s.loop.parts handle rest it first live is other ordered)

      by : (it : Action) → handle.action ≡ it → handle.dead ≡ false → LeavesTo Tells (Holds bar left) (effect limit added it (running it rest s))
      by (action.Step task) is live = runs (action.Step task) is live refl
      by (action.StepInCycle task cycle) is live = runs (action.StepInCycle task cycle) is live refl
      by (action.Wakeup task) is live = runs (action.Wakeup task) is live refl
      by (action.SleepDone task future) is live = runs (action.SleepDone task future) is live refl
      by (action.GroupDone group task) is live = runs (action.GroupDone group task) is live refl
      by (action.Fires timeout) is live = runs (action.Fires timeout) is live refl
      by action.MainDone is live = runs action.MainDone is live refl
      by (action.Made conn) is live = runs (action.Made conn) is live refl
      by (action.ExtraItem code bytes) is live = runs (action.ExtraItem code bytes) is live refl
      by (action.Extra key) is live = runs (action.Extra key) is live refl
      by (action.HandlerDone conn task) is live =
          alone_ordered bar left (has_returned s.loop.parts task) (action.HandlerDone conn task) handle rest s first live is ordered
      by (action.StartRead conn) is live = alone_ordered bar left true (action.StartRead conn) handle rest s first live is ordered
      by (action.Lost conn broken) is live = alone_ordered bar left true (action.Lost conn broken) handle rest s first live is ordered
      by (action.ReadableServer server) is live = alone_ordered bar left true (action.ReadableServer server) handle rest s first live is ordered
      by (action.Readable conn) is live = alone_ordered bar left true (action.Readable conn) handle rest s first live is ordered
      by (action.Writable conn) is live = alone_ordered bar left true (action.Writable conn) handle rest s first live is ordered
      by (action.Up conn) is live = alone_ordered bar left true (action.Up conn) handle rest s first live is ordered
      by (action.Down conn) is live = alone_ordered bar left true (action.Down conn) handle rest s first live is ordered
      by (action.WritableChild child) is live = alone_ordered bar left true (action.WritableChild child) handle rest s first live is ordered
      by (action.ChildItem child told) is live = alone_ordered bar left true (action.ChildItem child told) handle rest s first live is ordered
      by (action.LostChild child broken) is live = alone_ordered bar left true (action.LostChild child broken) handle rest s first live is ordered

      at : (dead : Bool) → handle.dead ≡ dead
          → LeavesTo Tells (Holds bar left) (ran limit added dead handle.action (unbooked_in (λ p. record p { pending = rest }) s))
      at true is = walks.taken bar left s.streams s.events s.loop.parts handle rest first is ordered
      at false is = by handle.action refl is

  on_ordered : (Here Then : Streams → List Event → Parts → Type 0) (go_on : State S → Went S) (went : Went S)
      → ((t : State S) → In Here t → LeavesTo Tells Then (go_on t)) → LeavesTo Tells Here went → LeavesTo Tells Then (went_on go_on went)
  on_ordered Here Then go_on (Goes now) each it = each now it
  on_ordered Here Then go_on (Stops how last) each it = it

  next_ordered : (bar left : ℕ) (handles : List Handle) (go_on : State S → Went S) (s : State S) → s.loop.parts.pending ≡ handles
      → In (Holds bar (suc left)) s → ((t : State S) → In (Holds bar left) t → LeavesTo Tells (Holds 0 0) (go_on t))
      → LeavesTo Tells (Holds 0 0) (next_below limit added bar handles go_on s)
  next_ordered bar left [] go_on s first ordered each = walks.empty bar left s.streams s.events s.loop.parts first ordered
  next_ordered bar left (handle ∷ rest) go_on s first ordered each = at (nat_lt handle.stamp bar) refl
    where
      at : (b : Bool) → nat_lt handle.stamp bar ≡ b → LeavesTo Tells (Holds 0 0) (run_if limit added b handle rest go_on s)
      at true is =
          on_ordered (Holds bar left) (Holds 0 0) go_on (run_first limit added handle rest s) each
          (first_ordered bar left handle rest s first ordered)
      at false is = walks.stops bar left s.streams s.events s.loop.parts handle rest first is ordered

  pub below_ordered : (bar count : ℕ) (s : State S) → In (Holds bar count) s → LeavesTo Tells (Holds 0 0) (run_below limit added bar count s)
  unfolding run_below
  below_ordered bar zero s ordered = walks.ends bar s.streams s.events s.loop.parts ordered
  below_ordered bar (suc count) s ordered =
      next_ordered bar count s.loop.parts.pending (run_below limit added bar count) s refl ordered (below_ordered bar count)

  told : (bar left : ℕ) (s : State S) → In (Holds bar left) s → In Tells s
  told bar left s ordered = (walks.here bar left).tells s.streams s.events s.loop.parts ordered

  over_ordered : (done_before : Bool) (s : State S) → In (Holds 0 0) s → LeavesTo Tells (Holds 0 0) (turn_over done_before s)
  over_ordered done_before s ordered = at (s.main_done && not done_before)
    where
      finished : (o : Option Outcome) (t : State S) → In (Holds 0 0) t → LeavesTo Tells (Holds 0 0) (finished_if o t)
      finished None t it = it
      finished (Some outcome) t it = inr (told 0 0 t it)

      at : (b : Bool) → LeavesTo Tells (Holds 0 0) (finished_if (finished_as (cancelled_if b s)) (cancelled_if b s))
      at true =
          finished (finished_as (cancelled_if true s)) (cancelled_if true s)
          ((walks.here 0 0).loops s.streams s.events s.loop.parts _ (loops.end_goes walks.goes_on s.loop) ordered)
      at false = finished (finished_as (cancelled_if false s)) (cancelled_if false s) ordered

  -- ---- the select of a turn
  module _ (s : State S) (ordered : In (Holds 0 0) s) where
    woken_ordered : (came : Answer) (left : List Entry) → fits (call_of added s) came ≡ true
        → In (Holds (begun added came left s).loop.parts.next_stamp (length (begun added came left s).loop.parts.pending)) (begun added came left s)
    woken_ordered came left fit =
        let q = woken_by came s.loop.parts in
        subst (λ events. Holds q.next_stamp (length q.pending) s.streams events q)
        (sym (append_assoc s.events (event.Called (call_of added s) ∷ []) (event.Got came ∷ [])))
        (walks.wakes s.streams s.events s.loop.parts (wait_of s.loop.parts) (added.watches s.extra) came fit ordered)

    turned_ordered : (came : Answer) (left : List Entry) → fits (call_of added s) came ≡ true
        → LeavesTo Tells (Holds 0 0) (turned_by limit added came (heard added came left s))
    turned_ordered came left fit =
        on_ordered (Holds 0 0) (Holds 0 0) (turn_over s.main_done) (run_pending limit added (begun added came left s)) (over_ordered s.main_done)
        (below_ordered _ _ (begun added came left s) (woken_ordered came left fit))

    pub turn_ordered : LeavesTo Tells (Holds 0 0) (turn limit added s)
    unfolding turn
    turn_ordered = unless (is_stalled added s)
      where
        unless : (b : Bool) → LeavesTo Tells (Holds 0 0) (turn_unless limit added b s)
        unless true = inr (told 0 0 s ordered)
        unless false =
            asked_comes Stops (LeavesTo Tells (Holds 0 0)) (halted 0 0) (call_of added s) (turned_by limit added) s
            (λ came left fit. turned_ordered came left fit)

  -- ---- the states between
  then_ordered : (Here : Streams → List Event → Parts → Type 0) (go_on : State S → List (State S)) (went : Went S)
      → ((t : State S) → In Here t → AreAllIn Tells (go_on t)) → ((t : State S) → In Here t → In Tells t) → LeavesTo Tells Here went
      → AreAllIn Tells (then_mids go_on went)
  then_ordered Here go_on (Goes now) each tell it = (tell now it, each now it)
  then_ordered Here go_on (Stops how last) each tell it = tt

  next_all : (bar left : ℕ) (handles : List Handle) (go_on : State S → List (State S)) (s : State S) → s.loop.parts.pending ≡ handles
      → In (Holds bar (suc left)) s → ((t : State S) → In (Holds bar left) t → AreAllIn Tells (go_on t))
      → AreAllIn Tells (next_mids limit added bar handles go_on s)
  next_all bar left [] go_on s first ordered each = tt
  next_all bar left (handle ∷ rest) go_on s first ordered each = at (nat_lt handle.stamp bar)
    where
      at : (b : Bool) → AreAllIn Tells (mids_if limit added b handle rest go_on s)
      at true =
          then_ordered (Holds bar left) go_on (run_first limit added handle rest s) each (told bar left)
          (first_ordered bar left handle rest s first ordered)
      at false = tt

  below_all : (bar count : ℕ) (s : State S) → In (Holds bar count) s → AreAllIn Tells (mids_below limit added bar count s)
  unfolding mids_below
  below_all bar zero s ordered = tt
  below_all bar (suc count) s ordered =
      next_all bar count s.loop.parts.pending (mids_below limit added bar count) s refl ordered (below_all bar count)

  pub mids_ordered : (s : State S) → In (Holds 0 0) s → AreAllIn Tells (mids limit added s)
  mids_ordered s ordered = unless (is_stalled added s)
    where
      fit : (b : Bool) (came : Answer) (left : List Entry) → fits (call_of added s) came ≡ b
          → AreAllIn Tells (mids_fitted limit added b came
          (noted (event.Got came) (record (noted (event.Called (call_of added s)) s) { answers = left })))
      fit true came left is =
          let woken = woken_ordered s ordered came left is in
          (told _ _ (begun added came left s) woken, below_all _ _ (begun added came left s) woken)
      fit false came left is = tt

      by : (entries : List Entry) → AreAllIn Tells (mids_by limit added entries (call_of added s) (noted (event.Called (call_of added s)) s))
      by [] = tt
      by (Refused line cause ∷ entries) = tt
      by (Answered came ∷ entries) = fit (fits (call_of added s) came) came entries refl

      unless : (b : Bool) → AreAllIn Tells (mids_unless limit added b s)
      unless true = tt
      unless false = by s.answers

  -- ---- a run
  after : (goes : State S → Type 0) (went : Went S) → LeavesTo Tells (Holds 0 0) went → ((t : State S) → In (Holds 0 0) t → goes t)
      → AfterTurn Tells goes went
  after goes (Goes now) it each = each now it
  after goes (Stops how last) it each = it

  pub run_ordered : (turns : ℕ) (s : State S) → In (Holds 0 0) s → IsRunIn Tells limit added turns s
  run_ordered zero s ordered = told 0 0 s ordered
  run_ordered (suc turns) s ordered = (
    told 0 0 s ordered,
    mids_ordered s ordered,
    after (IsRunIn Tells limit added turns) (turn limit added s) (turn_ordered s ordered) (run_ordered turns),
  )
