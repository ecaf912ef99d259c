-- What the loop does of itself is a row of changes that aren't of what is added.
use Rattle.std.proofs.Common.{◌≡◌, ℕ, ℤ, refl, sym, ap, ◌∙◌, append-nil, Bool, true, false, List, [], ◌∷◌, ◌++◌}
use Rattle.std.proofs.Common.{◌||◌, Option, Some, None, Result, Ok, Err, if◌then◌else◌}
use Rattle.std.specs.List.{flat_map, list_any, range_with_len}
use Rattle.std.proofs.lemmas.Bool.{or_parts}
use Rattle.std.proofs.lemmas.List.Folds.{list_any-append}
use Rattle.model_value.specs.Action.{Action, CycleKind}
use Rattle.model_value.specs.declared.action.Action.TheVariants as action
use Rattle.model_value.specs.Input.{Input}
use Rattle.model_value.specs.Value.{Value, Exc}
use Rattle.model_wire.specs.Call.{Answer, Item}
use Rattle.model_wire.specs.declared.item.Item.TheVariants as item
use Rattle.model_wire.specs.declared.item.Readiness.TheVariants as ready
use Rattle.model_loop.proofs.TimeoutCases.{leave_from, reschedule_where}
use Rattle.model_loop.specs.Cycles.{cycle}
use Rattle.model_loop.specs.Ending.{cancel_everything}
use Rattle.model_loop.specs.Groups.{at_begin, begin_exit, child_done, create, enter_group, exit_begin, exit_woken, make_group, next_group}
use Rattle.model_loop.specs.Handles.{soon, soon_all}
use Rattle.model_loop.specs.Ledger.{Origin, ByEnd, ByTimeout, ByWait, ask_cancel, request, request_each}
use Rattle.model_loop.specs.Loop.{Loop, TimeoutState, Created, Active, Expiring, Expired, Finished, book, in_parts}
use Rattle.model_loop.specs.Parts.{Parts}
use Rattle.model_loop.specs.Suspend.{cancel_wait, suspend, wait_on}
use Rattle.model_loop.specs.Tasks.{begin_step, clear_must_cancel, finish, future_of, must_cancel_of, next_task}
use Rattle.model_loop.specs.Timeouts.{enter_timeout, exit_timeout, fire, is_active, make_timeout, next_timeout, reschedule, schedule, timeout_of}
use Rattle.model_loop.specs.Timeouts.{without_handle}
use Rattle.model_machine.specs.State.{ResumePoint, Asked, Sleeping, Leaving, Serving, Connecting, Yielding, Reading, ReadingAll}
use Rattle.model_machine.specs.Outside.{actions_of, items_of, news_of, time_of}
use Rattle.model_machine.specs.Sound.{is_extra}
use Rattle.model_machine.specs.Step.{given_up}
use Rattle.model_machine.specs.Turn.{woken_by}
use Rattle.law_cancel.proofs.SuspendCases.{suspend_unless}
use Rattle.law_changes.specs.Blocks.{OfSchedule, gives_up, fires_soon, fires_later, tags, OfGroup, changes, aborts, waits, wakes, OfTold, in_told, requests}
use Rattle.law_changes.specs.Blocks.{asks, OfTaking, in_taking, takes, OfEnding, in_ending, ends, OfCreating, in_creating, spawns, registers, takes_last}
use Rattle.law_changes.specs.Changes.{CallsSoon, FallsDue, Passes, Registers, Revokes, Settles, ClearsMustCancel, WaitsFor, LoopChange, OfParts, MakesTimeout}
use Rattle.law_changes.specs.Changes.{ChangesTimeout, MakesGroup, ChangesGroup, AsksCancel, TakesBack, BeginsExit, made_of_loop, made_of_parts}
use Rattle.law_changes.specs.Reaches.{Reaches, stays, goes}
use Rattle.law_changes.proofs.BlockRows.{as_ledger, each_in, schedule_in, without_in, child_done_in, heard_in, taken_in, wait_or_end_in, create_in}
use Rattle.law_changes.proofs.Folds.{one, on, widen}
use Rattle.law_kept.specs.Walks.{MayBeside, MayInLoop, is_by_extra}

abbrev pub Row : Loop → Loop → Type 0
Row = Reaches made_of_loop MayInLoop

-- a row of the parts is one of the loop
parts_row : {p q : Parts} (l : Loop) → Reaches made_of_parts MayBeside p q → Row (record l { parts = p }) (record l { parts = q })
parts_row l stays = stays
parts_row l (goes row change may) = goes (parts_row l row) (OfParts change) may

pub each_row : (by : Origin) → is_by_extra by ≡ false → (tasks : List ℕ) (l : Loop) → Row l (book (request_each by tasks) l)
each_row by other tasks l = each_in by (λ future m. other) tasks l

pub end_row : (l : Loop) → Row l (cancel_everything l)
end_row l = each_row ByEnd refl (range_with_len 0 (next_task l.parts)) l

-- ---- timeouts
may_schedule : (id : ℕ) (change : LoopChange) (l : Loop) → OfSchedule id change l → MayInLoop change l
may_schedule id _ l (gives_up tag) = tt
may_schedule id _ l fires_soon = refl
may_schedule id _ l (fires_later when) = refl
may_schedule id _ l (tags tag) = tt

schedule_row : (id : ℕ) (when : Option ℕ) (l : Loop) → Row l (schedule id when l)
schedule_row id when l = widen (may_schedule id) (schedule_in id when l)

pub enter_row : (task : ℕ) (delay : Option ℤ) (l : Loop) → Row l (enter_timeout task delay l)
enter_row task delay l = on (one (MakesTimeout task) tt) (schedule_row (next_timeout l) _ (make_timeout task l))

pub reschedule_row : (id : ℕ) (when : Option ℤ) (l : Loop) → Row l (reschedule id when l)
reschedule_row id when l = at (is_active (timeout_of l id).state)
  where
    at : (b : Bool) → Row l (reschedule_where b id when l)
    at true = schedule_row id _ l
    at false = stays

pub fire_row : (id : ℕ) (l : Loop) → Row l (fire id l)
fire_row id l = goes (one (AsksCancel (ByTimeout id) (future_of l.parts (timeout_of l id).task)) refl) (ChangesTimeout id _) tt

pub exit_timeout_row : (raised : Option Exc) (id : ℕ) (l : Loop) → Row l (exit_timeout raised id l).loop
exit_timeout_row raised id l = on (widen (may_schedule id) (without_in id l)) (at (timeout_of l id).state (without_handle id l))
  where
    at : (state : TimeoutState) (m : Loop) → Row m (leave_from state raised id m).loop
    at Created m = one (ChangesTimeout id _) tt
    at Active m = one (ChangesTimeout id _) tt
    at Expired m = one (ChangesTimeout id _) tt
    at Finished m = one (ChangesTimeout id _) tt
    at Expiring m = goes (one (TakesBack (ByTimeout id) (timeout_of m id).task) refl) (ChangesTimeout id _) tt

-- ---- groups
pub enter_group_row : (task : ℕ) (l : Loop) → Row l (enter_group (next_group l) (make_group task l))
enter_group_row task l = goes (one (MakesGroup task) tt) (ChangesGroup (next_group l) _) tt

may_group : (id : ℕ) (change : LoopChange) (l : Loop) → OfGroup id change l → MayInLoop change l
may_group id _ l (changes new same) = tt
may_group id _ l (aborts future) = refl
may_group id _ l waits = tt
may_group id _ l (wakes future) = tt

may_told : (id : ℕ) (change : LoopChange) (l : Loop) → OfTold id change l → MayInLoop change l
may_told id change l (in_told it) = may_group id change l it
may_told id _ l requests = tt
may_told id _ l (asks future) = refl

may_take : (id : ℕ) (change : LoopChange) (l : Loop) → OfTaking id change l → MayInLoop change l
may_take id change l (in_taking it) = may_group id change l it
may_take id _ l (takes task) = refl

may_end : (id : ℕ) (change : LoopChange) (l : Loop) → OfEnding id change l → MayInLoop change l
may_end id change l (in_ending it) = may_group id change l it
may_end id _ l (takes_last task) = refl
may_end id _ l (ends errors) = tt

may_create : (id : ℕ) (change : LoopChange) (l : Loop) → OfCreating id change l → MayInLoop change l
may_create id change l (in_creating it) = may_group id change l it
may_create id _ l spawns = tt
may_create id _ l (registers future task) = refl

pub create_row : (id : ℕ) (l : Loop) → Row l (create id l)
create_row id l = widen (may_create id) (create_in id l)

pub child_done_row : (id task : ℕ) (l : Loop) → Row l (child_done id task l)
child_done_row id task l = widen (may_told id) (child_done_in id task l)

pub exit_begin_row : (raised : Option Exc) (id : ℕ) (l : Loop) → Row l (exit_begin raised id l).loop
exit_begin_row raised id l =
    on (goes (one (BeginsExit id) tt) (ChangesGroup id _) tt)
    (on (widen (may_take id) (taken_in id (at_begin l.profile) raised (begin_exit raised id l))) (widen (may_end id) (wait_or_end_in id _)))

pub exit_woken_row : (input : Input) (id : ℕ) (l : Loop) → Row l (exit_woken input id l).loop
exit_woken_row input id l = on (widen (may_group id) (heard_in id input l)) (widen (may_end id) (wait_or_end_in id _))

-- ---- a task's step: it begins, it waits, and the task ends
given_up_row : (resume_point : ResumePoint) (p : Parts) → Reaches made_of_parts MayBeside p (given_up resume_point p)
given_up_row Asked p = stays
given_up_row (Sleeping tag) p = one (Revokes tag) tt
given_up_row (Leaving group) p = stays
given_up_row (Serving key) p = stays
given_up_row (Connecting conn) p = stays
given_up_row (Yielding whom) p = stays
given_up_row (Reading from op on) p = stays
given_up_row (ReadingAll from taken on) p = stays

pub begin_row : (task : ℕ) (input : Input) (resume_point : ResumePoint) (l : Loop)
    → Row l (record l { parts = (begin_step task input (given_up resume_point l.parts)).parts })
begin_row task input resume_point l =
    parts_row l (goes (goes (given_up_row resume_point l.parts) (WaitsFor task None) tt) (ClearsMustCancel task) tt)

pub finish_row : (task : ℕ) (end : Result Value Exc) (l : Loop) → Row l (in_parts (finish task end) l)
finish_row task (Ok value) l = parts_row l (goes (one (ClearsMustCancel task) tt) (Settles (future_of l.parts task) _) tt)
finish_row task (Err fault) l = parts_row l (one (Settles (future_of l.parts task) _) tt)

pub suspend_row : (task id : ℕ) (l : Loop) → Row l (book (suspend task id) l)
suspend_row task id l = at (cycle l.parts task id)
  where
    waits : Row l (record l { parts = wait_on task id l.parts })
    waits = goes (one (OfParts (Registers id (action.Wakeup task))) refl) (OfParts (WaitsFor task (Some id))) tt

    asked : Row l (book (ask_cancel (ByWait task) id) (record l { parts = wait_on task id l.parts }))
    asked = on waits (one (AsksCancel (ByWait task) id) refl)

    answered : (b : Bool) → Row l (record l {
      parts = let q = (ask_cancel (ByWait task) id (wait_on task id l.parts)).parts in if b then clear_must_cancel task q else q;
      ledger = l.ledger ++ (ask_cancel (ByWait task) id (wait_on task id l.parts)).entries;
    })
    answered true = goes asked (OfParts (ClearsMustCancel task)) tt
    answered false = asked

    cancelled : (b : Bool) → Row l (book (λ q. cancel_wait b task id (wait_on task id l.parts)) l)
    cancelled true = answered (request (ByWait task) id (wait_on task id l.parts)).answer
    cancelled false = as_ledger l (wait_on task id l.parts) (sym (append-nil l.ledger)) waits

    at : (o : Option CycleKind) → Row l (book (λ q. suspend_unless o task id l.parts) l)
    at (Some why) =
        as_ledger l (soon (action.StepInCycle task why) l.parts) (sym (append-nil l.ledger)) (one (OfParts (CallsSoon (action.StepInCycle task why))) refl)
    at None = cancelled (must_cancel_of l.parts task)

-- ---- a turn begins: what came is appended, and what is due
no_extra_in : (it : Item) → list_any is_extra (actions_of it) ≡ false
no_extra_in (item.ReadableServer server) = refl
no_extra_in (item.Ready conn ready.Read) = refl
no_extra_in (item.Ready conn ready.Write) = refl
no_extra_in (item.Ready conn ready.Both) = refl
no_extra_in (item.Up conn) = refl
no_extra_in (item.Down conn) = refl
no_extra_in (item.WritableChild child) = refl
no_extra_in (item.Child child told) = refl
no_extra_in (item.Extra code bytes) = refl

no_extra_news : (items : List Item) → list_any is_extra (flat_map actions_of items) ≡ false
no_extra_news [] = refl
no_extra_news (it ∷ items) =
    list_any-append is_extra (actions_of it) (flat_map actions_of items)
    ∙ ap (λ b. b || list_any is_extra (flat_map actions_of items)) (no_extra_in it) ∙ no_extra_news items

soon_all_row : (actions : List Action) (p : Parts) → list_any is_extra actions ≡ false → Reaches made_of_parts MayBeside p (soon_all actions p)
soon_all_row [] p other = stays
soon_all_row (it ∷ actions) p other =
    on (one (CallsSoon it) (or_parts (is_extra it) _ other).0) (soon_all_row actions (soon it p) (or_parts (is_extra it) _ other).1)

pub woken_row : (answer : Answer) (l : Loop) → Row l (in_parts (woken_by answer) l)
woken_row answer l =
    parts_row l (goes (on (one (Passes (time_of answer)) tt) (soon_all_row (news_of answer) _ (no_extra_news (items_of answer)))) FallsDue tt)
