-- Each group that a run made is entered: it is made and entered by one request, and nothing else changes that.
use Rattle.std.proofs.Common.{◌≡◌, ◌⊎◌, inl, inr, ℕ, zero, suc, ◌+◌, ◌<◌, ℤ, Bool, true, false, List, [], ◌∷◌, ◌++◌, Option, Some, None, length, refl}
use Rattle.std.proofs.Common.{nat_lt, sym, ap, subst, ◌∙◌, arith, slice_index_or, slice_set, not, ◌&&◌}
use Rattle.std.proofs.lemmas.Bool.{cases_eq, eq-eqb}
use Rattle.model_value.specs.declared.action.Action.TheVariants as action
use Rattle.model_value.specs.declared.input.Input.TheVariants.{Send, Throw}
use Rattle.model_value.specs.declared.outcome.Outcome.TheVariants.{Value as Returned}
use Rattle.model_value.specs.Action.{Action}
use Rattle.model_value.specs.Input.{Input}
use Rattle.model_value.specs.Value.{Value, Nothing, Exc, Outcome}
use Rattle.model_wire.specs.declared.event.Event.TheVariants as event
use Rattle.model_wire.specs.declared.event.Handed.TheVariants as to
use Rattle.model_wire.specs.Call.{Answer, Call}
use Rattle.model_wire.specs.Fits.{fits}
use Rattle.model_wire.specs.Journal.{Entry, Answered, Refused}
use Rattle.model_loop.specs.Cycles.{cycle_exception}
use Rattle.model_loop.specs.Futures.{next_future}
use Rattle.model_loop.specs.Groups.{create, child_done, enter_group, exit_begin, exit_woken, group_of, make_group, new_group, next_group, set_group}
use Rattle.model_loop.specs.Loop.{Group, Loop, TimeoutState, Created, Active, Expiring, Expired, Finished}
use Rattle.model_loop.specs.Parts.{Handle}
use Rattle.model_loop.specs.Tasks.{begin_step, next_task}
use Rattle.model_loop.specs.Timeouts.{enter_timeout, exit_timeout, is_active, make_timeout, next_timeout, reschedule, timeout_of, without_handle}
use Rattle.model_loop.proofs.TimeoutCases.{leave_from, reschedule_where}
use Rattle.model_stream.specs.Doing.{Doing, Ends, Changes, Asks}
use Rattle.model_stream.specs.Requests.{close}
use Rattle.model_stream.specs.Streams.{Streams, act, handler_of}
use Rattle.model_machine.specs.Does.{changed, does}
use Rattle.model_machine.specs.Extra.{Extra, ExtraStep, made_by, made_by_all, MakesPlain, MakesMany, Settles, Releases, Registers, CallsSoon, CallsLater}
use Rattle.model_machine.specs.Extra.{Revokes, Cancels, Uncancels}
use Rattle.model_machine.specs.Mids.{mids, mids_below, mids_by, mids_fitted, mids_if, mids_unless, next_mids, then_mids}
use Rattle.model_machine.specs.Outcomes.{finished_as, woken_with}
use Rattle.model_machine.specs.Replies.{most_ids}
use Rattle.model_machine.specs.State.{Asked, State, generator_of, noted, stands, unbooked_in}
use Rattle.model_machine.specs.Step.{given_up, most_answers, step}
use Rattle.model_machine.specs.Turn.{call_of, cancelled_if, effect, finished_if, goes_with, handled_if, is_stalled, made_by as made_handler, ran}
use Rattle.model_machine.specs.Turn.{run_below, run_first}
use Rattle.model_machine.specs.Turn.{has_returned, next_below, run_if, run_pending, streams_act, streams_go, turn, turn_over, turn_unless, turned_by, woken_by}
use Rattle.model_machine.specs.Went.{Went, Goes, Stops, answered_so, ask_so, fitted, fitted_so, answered_by, went_on}
use Rattle.law_changes.specs.Blocks.{OfSchedule, gives_up, fires_soon, fires_later, tags}
use Rattle.law_changes.specs.Changes.{LoopChange, made_of_loop}
use Rattle.law_changes.specs.Reaches.{Reaches}
use Rattle.law_changes.proofs.BlockRows.{schedule_in, without_in}
use Rattle.law_changes.proofs.Folds.{keep}
use Rattle.law_groups.proofs.Holding.{group_other, group_same}
use Rattle.law_turns.specs.After.{IsLoopAfter}
use Rattle.law_turns.proofs.Exits.{exit_begin_loop, exit_woken_loop}
use Rattle.law_turns.proofs.Loops.{child_done_loop, create_loop}
use Rattle.law_promises.specs.Entered.{AfterTurn, AllEntered, AreEntered, IsRunBetween}
use Rattle.law_promises.specs.Stays.{AreAll}
use Rattle.law_promises.proofs.OwnWalk.{StepWalk, decides_comes, serve_comes, taken_ends}

-- ---- one loop and another
-- each group that is entered stays so, and one that is made is
abbrev Enters : Loop → Loop → Type 0
Enters l q = AllEntered l → AllEntered q

same_groups : (l q : Loop) → q.groups ≡ l.groups → Enters l q
same_groups l q same all =
    subst (λ (gs : List Group). (id : ℕ) → id < length gs → (slice_index_or gs id (new_group 0)).entered ≡ true) (sym same) all

after_groups : {test : Value → Bool} {grown : Bool} {excused timeout group begun : Option ℕ} (l q : Loop)
    → IsLoopAfter test grown excused timeout group begun l q → Enters l q
after_groups l q after all id h =
    let made = after.groups_made in (after.groups id).entered ∙ all id (omega (arith, h, made))

abbrev any : Value → Bool
any value = true

-- ---- operations
made_group_entered : (parent : ℕ) (l : Loop) → Enters l (enter_group (next_group l) (make_group parent l))
made_group_entered parent l all id h = at (cases_eq (next_group l) id)
  where
    made : Loop
    made = make_group parent l

    new : Group
    new = record (group_of made (next_group l)) { entered = true }

    longer : (gs : List Group) (it : Group) → length (gs ++ it ∷ []) ≡ suc (length gs)
    longer [] it = refl
    longer (g ∷ gs) it = ap suc (longer gs it)

    set_length : (gs : List Group) (place : ℕ) (it : Group) → length (slice_set gs place it) ≡ length gs
    set_length [] place it = refl
    set_length (g ∷ gs) zero it = refl
    set_length (g ∷ gs) (suc place) it = ap suc (set_length gs place it)

    front : (gs : List Group) (it none : Group) (place : ℕ) → place < length gs → slice_index_or (gs ++ it ∷ []) place none ≡ slice_index_or gs place none
    front [] it none place less = absurd (omega (arith, less))
    front (g ∷ gs) it none zero less = refl
    front (g ∷ gs) it none (suc place) less = front gs it none place (omega (arith, less))

    at : (next_group l ≡ id) ⊎ (next_group l ≡ id → ⊥) → (group_of (enter_group (next_group l) made) id).entered ≡ true
    at (inl same) =
        subst (λ (n : ℕ). (group_of (enter_group (next_group l) made) n).entered ≡ true) same
        (ap (λ (g : Group). g.entered)
        (group_same (next_group l) new made (let more = longer l.groups (new_group parent) in omega (arith, more))))
    at (inr apart) =
        let more = longer l.groups (new_group parent) in
        let still = set_length made.groups (next_group l) new in
        let less : id < length l.groups = omega (arith, h, more, still, apart) in
        ap (λ (g : Group). g.entered)
        (group_other (next_group l) id new made apart ∙ front l.groups (new_group parent) (new_group 0) id less) ∙ all id less

scheduled : (id : ℕ) {l q : Loop} → Reaches made_of_loop (OfSchedule id) l q → q.groups ≡ l.groups
scheduled id {l} row = keep (λ (q : Loop). q.groups ≡ l.groups) (λ change q may e. one change q may ∙ e) row refl
  where
    one : (change : LoopChange) (q : Loop) → OfSchedule id change q → (made_of_loop change q).groups ≡ q.groups
    one _ q (gives_up tag) = refl
    one _ q fires_soon = refl
    one _ q (fires_later when) = refl
    one _ q (tags tag) = refl

enters_so : (task : ℕ) (delay : Option ℤ) (l : Loop) → (enter_timeout task delay l).groups ≡ l.groups
enters_so task delay l = scheduled (next_timeout l) (schedule_in (next_timeout l) _ (make_timeout task l))

moves_so : (id : ℕ) (when : Option ℤ) (l : Loop) → (reschedule id when l).groups ≡ l.groups
moves_so id when l = at (is_active (timeout_of l id).state)
  where
    at : (b : Bool) → (reschedule_where b id when l).groups ≡ l.groups
    at true = scheduled id (schedule_in id _ l)
    at false = refl

leaves_so : (raised : Option Exc) (id : ℕ) (l : Loop) → (exit_timeout raised id l).loop.groups ≡ l.groups
leaves_so raised id l = at (timeout_of l id).state ∙ scheduled id (without_in id l)
  where
    at : (state : TimeoutState) → (leave_from state raised id (without_handle id l)).loop.groups ≡ (without_handle id l).groups
    at Created = refl
    at Active = refl
    at Expired = refl
    at Finished = refl
    at Expiring = refl

added_so : (steps : List ExtraStep) (l : Loop) → (made_by_all steps l).groups ≡ l.groups
added_so [] l = refl
added_so (it ∷ steps) l = added_so steps (made_by it l) ∙ one it
  where
    one : (it : ExtraStep) → (made_by it l).groups ≡ l.groups
    one MakesPlain = refl
    one (MakesMany members) = refl
    one (Settles future outcome) = refl
    one (Releases future) = refl
    one (Registers future key) = refl
    one (CallsSoon key) = refl
    one (CallsLater when key) = refl
    one (Revokes tag) = refl
    one (Cancels key future) = refl
    one (Uncancels key task) = refl

enters_walk : (me : ℕ) → StepWalk me Enters Enters
enters_walk me = record {
  same = λ l all. all;
  next = λ l m q first then_ all. then_ (first all);
  ends = λ l m q first then_ all. then_ (first all);
  rests = λ l q it. it;
  waits = λ on l all. all;
  over = λ end l all. all;
  parts = λ l q tasks all. all;
  settles = λ future outcome l all. all;
  asks = λ by on l all. all;
  takes = λ by task l all. all;
  spawns = λ l all. all;
  enters = λ delay l. same_groups l (enter_timeout me delay l) (enters_so me delay l);
  leaves = λ raised id l. same_groups l (exit_timeout raised id l).loop (leaves_so raised id l);
  moves = λ id when l. same_groups l (reschedule id when l) (moves_so id when l);
  enters_group = made_group_entered me;
  begins = λ raised id l.
      after_groups l (exit_begin raised id l).loop (exit_begin_loop any refl false None None (Some id) id (eq-eqb id id refl) raised l);
  wakes = λ input id l. after_groups l (exit_woken input id l).loop (exit_woken_loop any refl false None None None id input l);
  creates = λ id l. after_groups l (create id l) (create_loop any refl None None None None id l);
  added = λ steps l. same_groups l (made_by_all steps l) (added_so steps l);
}

-- ---- callbacks
abbrev WentEnters : {S : Type 0} → State S → Went S → Type 0
WentEnters s (Goes now) = Enters s.loop now.loop
WentEnters s (Stops how last) = Unit {0}

module _ {S : Type 0} where
  went_from : (s t : State S) (went : Went S) → Enters s.loop t.loop → WentEnters t went → WentEnters s went
  went_from s t (Goes now) first then_ = λ all. then_ (first all)
  went_from s t (Stops how last) first then_ = tt

  asked_enters : (it : Call) (next : Answer → State S → Went S) (s : State S) → ((came : Answer) (t : State S) → WentEnters t (next came t))
      → WentEnters s (ask_so Stops it next s)
  asked_enters it next s each = by s.answers
    where
      fit : (b : Bool) (came : Answer) (left : List Entry)
          → WentEnters s (fitted_so Stops b it came next (noted (event.Got came) (record (noted (event.Called it) s) { answers = left })))
      fit true came left =
          let t = noted (event.Got came) (record (noted (event.Called it) s) { answers = left }) in
          went_from s t (next came t) (λ all. all) (each came t)
      fit false came left = tt

      by : (entries : List Entry) → WentEnters s (answered_so Stops entries it next (noted (event.Called it) s))
      by [] = tt
      by (Refused line cause ∷ entries) = tt
      by (Answered came ∷ entries) = fit (fits it came) came entries

  does_enters : (tree : Doing Streams) (s : State S) → WentEnters s (does Stops tree goes_with s)
  does_enters (Ends result) s = λ all. all
  does_enters (Changes change rest) s =
      let t = unbooked_in (changed change) s in went_from s t (does Stops rest goes_with t) (λ all. all) (does_enters rest t)
  does_enters (Asks it rest) s =
      asked_enters it (λ came. does Stops (rest came) goes_with) s (λ came t. does_enters (rest came) t)

module _ {S : Type 0} (limit : ℕ) (added : Extra S) where
  step_enters : (task : ℕ) (input : Input) (s : State S) → WentEnters s (step limit added task input s)
  unfolding step
  step_enters task input s =
      let point = (generator_of task s).resume_point in
      let begun = begin_step task input (given_up point s.loop.parts) in
      let t = stands Asked task (unbooked_in (λ p. begun.parts) s) in
      went_from s t _ (λ all. all)
      (taken_ends task (enters_walk task) added t _ true _ (decides_comes task (enters_walk task) added point begun.input t)
      (λ u. serve_comes task (enters_walk task) added limit (most_answers limit (generator_of task u).tape) u))

  handled_enters : (o : Option ℕ) (conn : ℕ) (s : State S) → WentEnters s (made_handler o conn s)
  handled_enters None conn s = λ all. all
  handled_enters (Some coroutine) conn s = at (nat_lt (next_task s.loop.parts) most_ids)
    where
      at : (b : Bool) → WentEnters s (handled_if b coroutine conn s)
      at true = λ all. all
      at false = does_enters (close (to.Conn conn) s.streams) s

  acts_enters : (it : Action) (s : State S) → WentEnters s (streams_act it s)
  acts_enters it s = does_enters (act (next_future s.loop.parts) true it s.streams) s

  effect_enters : (it : Action) (s : State S) → WentEnters s (effect limit added it s)
  unfolding effect
  effect_enters (action.Step task) s = step_enters task (Send Nothing) s
  effect_enters (action.StepInCycle task cycle) s = step_enters task (Throw (cycle_exception cycle)) s
  effect_enters (action.Wakeup task) s = step_enters task (woken_with s.loop.parts task) s
  effect_enters (action.SleepDone task future) s = λ all. all
  effect_enters (action.GroupDone group task) s =
      after_groups s.loop (child_done group task s.loop) (child_done_loop any refl false None None None None group task s.loop)
  effect_enters (action.Fires timeout) s = λ all. all
  effect_enters action.MainDone s = λ all. all
  effect_enters (action.ExtraItem code bytes) s =
      same_groups s.loop (made_by_all (added.item code bytes s).steps s.loop) (added_so (added.item code bytes s).steps s.loop)
  effect_enters (action.Extra key) s = same_groups s.loop (made_by_all (added.act key s).steps s.loop) (added_so (added.act key s).steps s.loop)
  effect_enters (action.Made conn) s = handled_enters (handler_of conn s.streams) conn s
  effect_enters (action.HandlerDone conn task) s =
      does_enters (act (next_future s.loop.parts) (has_returned s.loop.parts task) (action.HandlerDone conn task) s.streams) s
  effect_enters (action.StartRead conn) s = acts_enters (action.StartRead conn) s
  effect_enters (action.Lost conn broken) s = acts_enters (action.Lost conn broken) s
  effect_enters (action.ReadableServer server) s = acts_enters (action.ReadableServer server) s
  effect_enters (action.Readable conn) s = acts_enters (action.Readable conn) s
  effect_enters (action.Writable conn) s = acts_enters (action.Writable conn) s
  effect_enters (action.Up conn) s = acts_enters (action.Up conn) s
  effect_enters (action.Down conn) s = acts_enters (action.Down conn) s
  effect_enters (action.WritableChild child) s = acts_enters (action.WritableChild child) s
  effect_enters (action.ChildItem child told) s = acts_enters (action.ChildItem child told) s
  effect_enters (action.LostChild child broken) s = acts_enters (action.LostChild child broken) s

  first_enters : (handle : Handle) (rest : List Handle) (s : State S) → WentEnters s (run_first limit added handle rest s)
  first_enters handle rest s = at handle.dead
    where
      out : State S
      out = unbooked_in (λ p. record p { pending = rest }) s

      at : (b : Bool) → WentEnters s (ran limit added b handle.action out)
      at true = λ all. all
      at false =
          let t = noted (event.Ran handle.action) out in went_from s t (effect limit added handle.action t) (λ all. all) (effect_enters handle.action t)

  -- ---- turns
  went_then : (s : State S) (went : Went S) (next : State S → Went S) → WentEnters s went → ((t : State S) → WentEnters t (next t))
      → WentEnters s (went_on next went)
  went_then s (Goes now) next first each = went_from s now (next now) first (each now)
  went_then s (Stops how last) next first each = tt

  next_enters : (bar : ℕ) (handles : List Handle) (go_on : State S → Went S) (s : State S) → ((t : State S) → WentEnters t (go_on t))
      → WentEnters s (next_below limit added bar handles go_on s)
  next_enters bar [] go_on s each = λ all. all
  next_enters bar (handle ∷ rest) go_on s each = at (nat_lt handle.stamp bar)
    where
      at : (b : Bool) → WentEnters s (run_if limit added b handle rest go_on s)
      at true = went_then s (run_first limit added handle rest s) go_on (first_enters handle rest s) each
      at false = λ all. all

  below_enters : (bar count : ℕ) (s : State S) → WentEnters s (run_below limit added bar count s)
  unfolding run_below
  below_enters bar zero s = λ all. all
  below_enters bar (suc count) s = next_enters bar s.loop.parts.pending (run_below limit added bar count) s (below_enters bar count)

  over_enters : (done_before : Bool) (s : State S) → WentEnters s (turn_over done_before s)
  over_enters done_before s = at (s.main_done && not done_before)
    where
      finished : (o : Option Outcome) (b : Bool) → WentEnters s (finished_if o (cancelled_if b s))
      finished None true = λ all. all
      finished None false = λ all. all
      finished (Some outcome) true = tt
      finished (Some outcome) false = tt

      at : (b : Bool) → WentEnters s (finished_if (finished_as (cancelled_if b s)) (cancelled_if b s))
      at b = finished (finished_as (cancelled_if b s)) b

  turned_enters : (answer : Answer) (s : State S) → WentEnters s (turned_by limit added answer s)
  turned_enters answer s =
      let t = unbooked_in (woken_by answer) s in
      went_from s t _ (λ all. all)
      (went_then t (run_pending limit added t) (turn_over s.main_done) (below_enters _ _ t) (over_enters s.main_done))

  turn_enters : (s : State S) → WentEnters s (turn limit added s)
  unfolding turn
  turn_enters s = unless (is_stalled added s)
    where
      fit : (b : Bool) (answer : Answer) (left : List Entry)
          → WentEnters s (fitted b (call_of added s) answer (turned_by limit added)
          (noted (event.Got answer) (record (noted (event.Called (call_of added s)) s) { answers = left })))
      fit true answer left =
          let t = noted (event.Got answer) (record (noted (event.Called (call_of added s)) s) { answers = left }) in
          went_from s t (turned_by limit added answer t) (λ all. all) (turned_enters answer t)
      fit false answer left = tt

      by : (entries : List Entry)
          → WentEnters s (answered_by entries (call_of added s) (turned_by limit added) (noted (event.Called (call_of added s)) s))
      by [] = tt
      by (Refused line cause ∷ entries) = tt
      by (Answered answer ∷ entries) = fit (fits (call_of added s) answer) answer entries

      unless : (b : Bool) → WentEnters s (turn_unless limit added b s)
      unless true = tt
      unless false = by s.answers

  -- ---- runs
  then_all : (s : State S) (go_on : State S → List (State S)) (went : Went S) → AreEntered s → WentEnters s went
      → ((t : State S) → AreEntered t → AreAll AreEntered (go_on t)) → AreAll AreEntered (then_mids go_on went)
  then_all s go_on (Goes now) all went each = (went all, each now (went all))
  then_all s go_on (Stops how last) all went each = tt

  next_all : (bar : ℕ) (handles : List Handle) (go_on : State S → List (State S)) (s : State S) → AreEntered s
      → ((t : State S) → AreEntered t → AreAll AreEntered (go_on t)) → AreAll AreEntered (next_mids limit added bar handles go_on s)
  next_all bar [] go_on s all each = tt
  next_all bar (handle ∷ rest) go_on s all each = at (nat_lt handle.stamp bar)
    where
      at : (b : Bool) → AreAll AreEntered (mids_if limit added b handle rest go_on s)
      at true = then_all s go_on (run_first limit added handle rest s) all (first_enters handle rest s) each
      at false = tt

  below_all : (bar count : ℕ) (s : State S) → AreEntered s → AreAll AreEntered (mids_below limit added bar count s)
  unfolding mids_below
  below_all bar zero s all = tt
  below_all bar (suc count) s all = next_all bar s.loop.parts.pending (mids_below limit added bar count) s all (below_all bar count)

  mids_all : (s : State S) → AreEntered s → AreAll AreEntered (mids limit added s)
  mids_all s all = unless (is_stalled added s)
    where
      fit : (b : Bool) (came : Answer) (left : List Entry)
          → AreAll AreEntered (mids_fitted limit added b came (noted (event.Got came) (record (noted (event.Called (call_of added s)) s) { answers = left })))
      fit true came left =
          let t = noted (event.Got came) (record (noted (event.Called (call_of added s)) s) { answers = left }) in
          (all, below_all _ _ (unbooked_in (woken_by came) t) all)
      fit false came left = tt

      by : (entries : List Entry)
          → AreAll AreEntered (mids_by limit added entries (call_of added s) (noted (event.Called (call_of added s)) s))
      by [] = tt
      by (Refused line cause ∷ entries) = tt
      by (Answered came ∷ entries) = fit (fits (call_of added s) came) came entries

      unless : (b : Bool) → AreAll AreEntered (mids_unless limit added b s)
      unless true = tt
      unless false = by s.answers

  after_turn : (goes_on : State S → Type 0) (s : State S) (went : Went S) → AreEntered s → WentEnters s went
      → ((t : State S) → AreEntered t → goes_on t) → AfterTurn goes_on went
  after_turn goes_on s (Goes now) all went each = each now (went all)
  after_turn goes_on s (Stops how last) all went each = tt

  pub run_enters : (turns : ℕ) (s : State S) → AreEntered s → IsRunBetween AreEntered limit added turns s
  run_enters zero s all = all
  run_enters (suc turns) s all =
      (all, mids_all s all, after_turn (IsRunBetween AreEntered limit added turns) s (turn limit added s) all (turn_enters s) (run_enters turns))

-- none is made as a run begins
pub none_entered : (l : Loop) → l.groups ≡ [] → AllEntered l
none_entered l none id h = absurd (let few = ap (λ (gs : List Group). length gs) none in omega (arith, h, few))
