-- A turn leaves a sound state, and so does each callback in it; so every state of a run is sound.
use Rattle.std.proofs.Common.{◌≡◌, ℕ, zero, suc, Bool, true, false, not, ◌&&◌, List, [], ◌∷◌, ◌++◌, Option, Some, None, length, nat_lt}
use Rattle.std.proofs.Common.{refl, sym, ap, subst, ◌∙◌, le_refl}
use Rattle.std.specs.List.{flat_map}
use Rattle.model_value.specs.Action.{Action}
use Rattle.model_value.specs.Value.{Outcome}
use Rattle.model_value.specs.declared.action.Action.TheVariants as action
use Rattle.model_says.specs.Says.{step_limit}
use Rattle.model_wire.specs.declared.event.Event.TheVariants as event
use Rattle.model_wire.specs.declared.item.Item.TheVariants as item
use Rattle.model_wire.specs.declared.item.Readiness.{Readiness}
use Rattle.model_wire.specs.declared.item.Readiness.TheVariants as ready
use Rattle.model_wire.specs.Call.{Answer, Call, Item}
use Rattle.model_wire.specs.Event.{Event}
use Rattle.model_wire.specs.Fits.{fits}
use Rattle.model_wire.specs.Journal.{Entry, Answered, Refused}
use Rattle.model_wire.specs.Trace.{End}
use Rattle.model_loop.specs.Ending.{cancel_everything}
use Rattle.model_loop.specs.Handles.{due, soon, soon_all}
use Rattle.model_loop.specs.Ledger.{ByEnd, request_each}
use Rattle.model_loop.specs.Loop.{in_parts}
use Rattle.model_loop.specs.Owning.{is_main_done}
use Rattle.model_loop.specs.Parts.{Handle, Parts}
use Rattle.model_loop.specs.Sound.{IsSound}
use Rattle.model_loop.specs.Tasks.{next_task}
use Rattle.std.specs.List.{range_with_len}
use Rattle.model_machine.specs.Extra.{Extra}
use Rattle.model_machine.specs.Mids.{mids, mids_below, mids_by, mids_fitted, mids_if, mids_unless, next_mids, then_mids}
use Rattle.model_machine.specs.Outcomes.{finished_as}
use Rattle.model_machine.specs.Outside.{actions_of, items_of, news_of, ready_actions, time_of}
use Rattle.model_machine.specs.Sound.{Ids, IsStateSound, ids_of, names_made}
use Rattle.model_machine.specs.State.{State, in_loop, noted, unbooked_in}
use Rattle.model_machine.specs.Told.{told_by, told_in}
use Rattle.model_machine.specs.Turn.{at_time, call_of, cancelled_if, finished_if, is_stalled, next_below, run_below, run_first, run_if, run_pending, turn}
use Rattle.model_machine.specs.Turn.{turn_over, turn_unless, turned_by, woken_by}
use Rattle.model_machine.specs.Went.{Went, Goes, Stops, answered_by, fitted, went_on}
use Rattle.law_sound.proofs.Steps.{end_of_run_sound}
use Rattle.law_turns.proofs.Turning.{as_told, at_time_sound, items_sound, soon_all-append, woken_sound}
use Rattle.law_turns.specs.After.{IsAfter, IsLoopAfter}
use Rattle.law_turns.proofs.Loops.{book_loop, parts_loop, refl_loop}
use Rattle.law_turns.proofs.Made.{due_after}
use Rattle.law_turns.proofs.Parts.{refl_after, after_on, same_after, soon_after}
use Rattle.law_turns.proofs.Requests.{each_after}
use Rattle.law_replies.specs.Added.{KeepsSound}
use Rattle.law_replies.specs.InStep.{AreStatesSound, Afterwards, IsRunSound, LeavesStateSound}
use Rattle.law_replies.proofs.Kept.{futures_stay}
use Rattle.law_replies.proofs.Nobody.{nobody, over_as}
use Rattle.law_runs.proofs.Callbacks.{callback_in}

-- ---- what the outside is asked and answers tells no group
told_call : (events : List Event) (call : Call) (group : ℕ) → told_in (events ++ event.Called call ∷ []) group ≡ told_in events group
told_call [] call group = refl
told_call (event.Called other ∷ events) call group = told_call events call group
told_call (event.Got answer ∷ events) call group = told_call events call group
told_call (event.Said task text ∷ events) call group = told_call events call group
told_call (event.Ran it ∷ events) call group = ap (told_by group it) (told_call events call group)

told_got : (events : List Event) (answer : Answer) (group : ℕ) → told_in (events ++ event.Got answer ∷ []) group ≡ told_in events group
told_got [] answer group = refl
told_got (event.Called call ∷ events) answer group = told_got events answer group
told_got (event.Got other ∷ events) answer group = told_got events answer group
told_got (event.Said task text ∷ events) answer group = told_got events answer group
told_got (event.Ran it ∷ events) answer group = ap (told_by group it) (told_got events answer group)

-- ---- what came appends
module _ (n : Ids) where
  one_more : (it : Action) (p : Parts) → is_main_done it ≡ false → IsAfter (names_made n) false None p (soon it p)
  one_more it p other = soon_after (names_made n) false None it p other

  ready_after : (conn : ℕ) (letters : Readiness) (p : Parts) → IsAfter (names_made n) false None p (soon_all (ready_actions conn letters) p)
  ready_after conn ready.Read p = one_more (action.Readable conn) p refl
  ready_after conn ready.Write p = one_more (action.Writable conn) p refl
  ready_after conn ready.Both p =
      after_on (names_made n) false None p (soon (action.Readable conn) p) _ (one_more (action.Writable conn) (soon (action.Readable conn) p) refl)
      (one_more (action.Readable conn) p refl)

  item_after : (it : Item) (p : Parts) → IsAfter (names_made n) false None p (soon_all (actions_of it) p)
  item_after (item.ReadableServer server) p = one_more (action.ReadableServer server) p refl
  item_after (item.Ready conn letters) p = ready_after conn letters p
  item_after (item.Up conn) p = one_more (action.Up conn) p refl
  item_after (item.Down conn) p = one_more (action.Down conn) p refl
  item_after (item.WritableChild child) p = one_more (action.WritableChild child) p refl
  item_after (item.Child child what) p = one_more (action.ChildItem child what) p refl
  item_after (item.Extra code bytes) p = one_more (action.ExtraItem code bytes) p refl

  items_after : (items : List Item) (p : Parts) → IsAfter (names_made n) false None p (soon_all (flat_map actions_of items) p)
  items_after [] p = refl_after (names_made n) false None p
  items_after (it ∷ items) p =
      subst (IsAfter (names_made n) false None p) (sym (soon_all-append (actions_of it) (flat_map actions_of items) p))
      (after_on (names_made n) false None p (soon_all (actions_of it) p) _ (items_after items (soon_all (actions_of it) p)) (item_after it p))

  timed_after : (now : ℕ) (p : Parts) → IsAfter (names_made n) false None p (at_time now p)
  timed_after now p =
      same_after (names_made n) false None p (at_time now p) refl refl (λ t. refl) (le_refl _) (λ kind tag h. le_refl _) (λ task h. le_refl _) (le_refl _)

module _ {S : Type 0} (added : Extra S) where
  -- ---- a turn up to its bar
  pub noted_in : (s : State S) (entries : List Entry) (call : Call) (answer : Answer) → IsStateSound added s
      → IsStateSound added (noted (event.Got answer) (record (noted (event.Called call) s) { answers = entries }))
  noted_in s entries call answer sound =
      nobody added s sound (noted (event.Got answer) (record (noted (event.Called call) s) { answers = entries }))
      (record { program = refl; generators = refl; streams = refl; extra = refl; scripts = futures_stay }) refl sound.main_over
      (refl_loop (names_made (ids_of s)) refl false None None None None s.loop)
      (as_told None (told_in s.events) (told_in ((s.events ++ event.Called call ∷ []) ++ event.Got answer ∷ [])) s.loop
      (λ g. told_got (s.events ++ event.Called call ∷ []) answer g ∙ told_call s.events call g) sound.loop)

  pub woken_in : (s : State S) (answer : Answer) → IsStateSound added s → IsStateSound added (unbooked_in (woken_by answer) s)
  woken_in s answer sound =
      nobody added s sound (unbooked_in (woken_by answer) s) (record { program = refl; generators = refl; streams = refl; extra = refl; scripts = futures_stay }) refl
      (over_as added s sound (in_parts (woken_by answer) s.loop) a) a (woken_sound answer s sound.loop)
    where
      timed : IsSound None (told_in s.events) (in_parts (soon_all (news_of answer)) (in_parts (at_time (time_of answer)) s.loop))
      timed =
          items_sound (told_in s.events) (items_of answer) (in_parts (at_time (time_of answer)) s.loop)
          (at_time_sound (told_in s.events) (time_of answer) s.loop sound.loop)

      a : IsLoopAfter (names_made (ids_of s)) false None None None None s.loop (in_parts (woken_by answer) s.loop)
      a =
          let n = ids_of s in
          let p = at_time (time_of answer) s.loop.parts in
          let q = soon_all (news_of answer) p in
          parts_loop (names_made n) refl false None None None None s.loop (woken_by answer s.loop.parts)
          (after_on (names_made n) false None s.loop.parts q (due q) (due_after (names_made n) false None q timed.timed)
          (after_on (names_made n) false None s.loop.parts p q (items_after n (items_of answer) p) (timed_after n (time_of answer) s.loop.parts)))

  -- ---- the end of a turn
  cancelled_in : (b : Bool) (s : State S) → IsStateSound added s → IsStateSound added (cancelled_if b s)
  cancelled_in false s sound = sound
  cancelled_in true s sound =
      nobody added s sound (in_loop cancel_everything s) (record { program = refl; generators = refl; streams = refl; extra = refl; scripts = futures_stay }) refl
      (over_as added s sound (cancel_everything s.loop) all) all (end_of_run_sound None (told_in s.events) s.loop sound.loop)
    where
      all : IsLoopAfter (names_made (ids_of s)) false None None None None s.loop (cancel_everything s.loop)
      all =
          book_loop (names_made (ids_of s)) refl false None None None None
          (request_each ByEnd (range_with_len 0 (next_task s.loop.parts))) s.loop
          (each_after (names_made (ids_of s)) false None ByEnd (range_with_len 0 (next_task s.loop.parts)) s.loop.parts)

  -- ---- what a turn leaves: something that holds of a sound state, whether the run goes on from there or stops outside a step
  module _ (Left : Went S → Type 0) (goes : (now : State S) → IsStateSound added now → Left (Goes now))
      (stops : (how : End) (last : State S) → IsStateSound added last → Left (Stops how last)) where
    pub over_left : (done_before : Bool) (s : State S) → IsStateSound added s → Left (turn_over done_before s)
    over_left done_before s sound =
        let left = cancelled_if (s.main_done && not done_before) s in
        finished (finished_as left) left (cancelled_in (s.main_done && not done_before) s sound)
      where
        finished : (o : Option Outcome) (left : State S) → IsStateSound added left → Left (finished_if o left)
        finished None left sound = goes left sound
        finished (Some outcome) left sound = stops _ left sound

    pub turn_left : (s : State S) → ((answer : Answer) (t : State S) → t.streams ≡ s.streams → IsStateSound added t
        → Left (turned_by step_limit added answer t)) → IsStateSound added s → Left (turn step_limit added s)
    unfolding turn
    turn_left s turned sound = unless (is_stalled added s)
      where
        asked : IsStateSound added (noted (event.Called (call_of added s)) s)
        asked =
            nobody added s sound (noted (event.Called (call_of added s)) s) (record { program = refl; generators = refl; streams = refl; extra = refl; scripts = futures_stay }) refl
            sound.main_over (refl_loop (names_made (ids_of s)) refl false None None None None s.loop)
            (as_told None (told_in s.events) (told_in (s.events ++ event.Called (call_of added s) ∷ [])) s.loop
            (λ g. told_call s.events (call_of added s) g) sound.loop)

        fit : (b : Bool) (entries : List Entry) (answer : Answer)
            → Left (fitted b (call_of added s) answer (turned_by step_limit added)
            (noted (event.Got answer) (record (noted (event.Called (call_of added s)) s) { answers = entries })))
        fit true entries answer = turned answer _ refl (noted_in s entries (call_of added s) answer sound)
        fit false entries answer = stops _ _ (noted_in s entries (call_of added s) answer sound)

        by : (entries : List Entry)
            → Left (answered_by entries (call_of added s) (turned_by step_limit added) (noted (event.Called (call_of added s)) s))
        by [] = stops _ _ asked
        by (Refused line cause ∷ entries) = stops _ _ asked
        by (Answered answer ∷ entries) = fit (fits (call_of added s) answer) entries answer

        unless : (b : Bool) → Left (turn_unless step_limit added b s)
        unless true = stops _ s sound
        unless false = by s.answers

  pub ended_in : (done_before : Bool) (s : State S) → IsStateSound added s → LeavesStateSound added (turn_over done_before s)
  ended_in = over_left (LeavesStateSound added) (λ now h. h) (λ how last h. tt)

  -- ---- all callbacks before the bar
  module _ (keeps : KeepsSound added) where
    went_in : (go_on : State S → Went S) → ((t : State S) → IsStateSound added t → LeavesStateSound added (go_on t)) → (w : Went S)
        → LeavesStateSound added w → LeavesStateSound added (went_on go_on w)
    went_in go_on each (Goes now) h = each now h
    went_in go_on each (Stops end last) h = tt

    next_in : (bar : ℕ) (go_on : State S → Went S) → ((t : State S) → IsStateSound added t → LeavesStateSound added (go_on t))
        → (handles : List Handle) (s : State S) → s.loop.parts.pending ≡ handles → IsStateSound added s
        → LeavesStateSound added (next_below step_limit added bar handles go_on s)
    next_in bar go_on each [] s e sound = sound
    next_in bar go_on each (handle ∷ rest) s e sound = at (nat_lt handle.stamp bar)
      where
        at : (b : Bool) → LeavesStateSound added (run_if step_limit added b handle rest go_on s)
        at false = sound
        at true = went_in go_on each (run_first step_limit added handle rest s) (callback_in added keeps s handle rest e sound)

    pub below_in : (bar count : ℕ) (s : State S) → IsStateSound added s → LeavesStateSound added (run_below step_limit added bar count s)
    unfolding run_below
    below_in bar zero s sound = sound
    below_in bar (suc count) s sound =
        next_in bar (run_below step_limit added bar count) (λ t h. below_in bar count t h) s.loop.parts.pending s refl sound

    -- ---- and the states between them
    then_in : (go_on : State S → List (State S)) → ((t : State S) → IsStateSound added t → AreStatesSound added (go_on t)) → (w : Went S)
        → LeavesStateSound added w → AreStatesSound added (then_mids go_on w)
    then_in go_on each (Goes now) h = (h, each now h)
    then_in go_on each (Stops end last) h = tt

    next_mids_in : (bar : ℕ) (go_on : State S → List (State S)) → ((t : State S) → IsStateSound added t → AreStatesSound added (go_on t))
        → (handles : List Handle) (s : State S) → s.loop.parts.pending ≡ handles → IsStateSound added s
        → AreStatesSound added (next_mids step_limit added bar handles go_on s)
    next_mids_in bar go_on each [] s e sound = tt
    next_mids_in bar go_on each (handle ∷ rest) s e sound = at (nat_lt handle.stamp bar)
      where
        at : (b : Bool) → AreStatesSound added (mids_if step_limit added b handle rest go_on s)
        at false = tt
        at true = then_in go_on each (run_first step_limit added handle rest s) (callback_in added keeps s handle rest e sound)

    mids_below_in : (bar count : ℕ) (s : State S) → IsStateSound added s → AreStatesSound added (mids_below step_limit added bar count s)
    unfolding mids_below
    mids_below_in bar zero s sound = tt
    mids_below_in bar (suc count) s sound =
        next_mids_in bar (mids_below step_limit added bar count) (λ t h. mids_below_in bar count t h) s.loop.parts.pending s refl sound

    -- ---- a turn
    pub pending_in : (s : State S) → IsStateSound added s → LeavesStateSound added (run_pending step_limit added s)
    pending_in s sound = below_in s.loop.parts.next_stamp (length s.loop.parts.pending) s sound

    turned_in : (answer : Answer) (s : State S) → IsStateSound added s → LeavesStateSound added (turned_by step_limit added answer s)
    turned_in answer s sound =
        went_in (turn_over s.main_done) (λ t h. ended_in s.main_done t h) (run_pending step_limit added (unbooked_in (woken_by answer) s))
        (pending_in (unbooked_in (woken_by answer) s) (woken_in s answer sound))

    pub turn_in : (s : State S) → IsStateSound added s → LeavesStateSound added (turn step_limit added s)
    turn_in s sound = turn_left (LeavesStateSound added) (λ now h. h) (λ how last h. tt) s (λ answer t same h. turned_in answer t h) sound

    pub mids_in : (s : State S) → IsStateSound added s → AreStatesSound added (mids step_limit added s)
    mids_in s sound = unless (is_stalled added s)
      where
        fit : (b : Bool) (entries : List Entry) (answer : Answer)
            → AreStatesSound added (mids_fitted step_limit added b answer
            (noted (event.Got answer) (record (noted (event.Called (call_of added s)) s) { answers = entries })))
        fit true entries answer =
            let t = unbooked_in (woken_by answer) (noted (event.Got answer) (record (noted (event.Called (call_of added s)) s) { answers = entries })) in
            let h = woken_in _ answer (noted_in s entries (call_of added s) answer sound) in
            (h, mids_below_in t.loop.parts.next_stamp (length t.loop.parts.pending) t h)
        fit false entries answer = tt

        by : (entries : List Entry) → AreStatesSound added (mids_by step_limit added entries (call_of added s) (noted (event.Called (call_of added s)) s))
        by [] = tt
        by (Refused line cause ∷ entries) = tt
        by (Answered answer ∷ entries) = fit (fits (call_of added s) answer) entries answer

        unless : (b : Bool) → AreStatesSound added (mids_unless step_limit added b s)
        unless true = tt
        unless false = by s.answers

    -- ---- a run
    afterwards : (P : State S → Type 0) → ((t : State S) → IsStateSound added t → P t) → (w : Went S) → LeavesStateSound added w → Afterwards P w
    afterwards P each (Goes now) h = each now h
    afterwards P each (Stops end last) h = tt

    pub run_in : (turns : ℕ) (s : State S) → IsStateSound added s → IsRunSound added turns s
    unfolding IsRunSound
    run_in zero s sound = sound
    run_in (suc turns) s sound =
        (sound, mids_in s sound, afterwards (IsRunSound added turns) (λ t h. run_in turns t h) (turn step_limit added s) (turn_in s sound))
