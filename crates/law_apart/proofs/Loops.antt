-- What the loop does of itself leaves the futures that it doesn't hold, but for cancels.
use Rattle.std.proofs.Common.{◌≡◌, inl, inr, ℕ, zero, suc, ℤ, ◌<◌, ◌≤◌, Bool, true, false, List, [], ◌∷◌, ◌++◌, Option, Some, None, Result, Ok, Err}
use Rattle.std.proofs.Common.{slice_get, slice_index_or, refl, sym, ap, ◌∙◌, arith, le_refl, length-append, append-nil}
use Rattle.std.specs.Prelude.{not, ◌&&◌, ◌||◌, ◌==◌, filter, is_some, if◌then◌else◌}
use Rattle.std.specs.List.{AllByRecursion as Each, flat_map, list_any, range_with_len}
use Rattle.std.specs.Option.{option_map_or}
use Rattle.std.proofs.lemmas.List.Folds.{list_any-append}
use Rattle.model_value.specs.Action.{CycleKind}
use Rattle.model_value.specs.declared.action.Action.TheVariants as action
use Rattle.model_value.specs.declared.input.Input.TheVariants.{Send, Throw}
use Rattle.model_value.specs.Input.{Input}
use Rattle.model_value.specs.Value.{Exc, Value}
use Rattle.model_wire.specs.Call.{Answer, Item}
use Rattle.model_wire.specs.declared.item.Item.TheVariants as item
use Rattle.model_wire.specs.declared.item.Readiness.TheVariants as ready
use Rattle.model_loop.proofs.GroupCases.{abort_and_request_unless, abort_where, create_unless, keep_and_abort_unless, take_back_where, wait_or_end_with}
use Rattle.model_loop.proofs.TimeoutCases.{leave_from, reschedule_where}
use Rattle.model_loop.specs.Cycles.{cycle}
use Rattle.model_loop.specs.Ending.{cancel_everything}
use Rattle.model_loop.specs.Futures.{next_future}
use Rattle.model_loop.specs.Groups.{Refusal, abort, abort_if_raised, at_begin, at_end, begin_exit, blame, child_done, create, end_all, end_exit, enter_group}
use Rattle.model_loop.specs.Groups.{exit_begin, exit_woken, failure_of, group_of, hear, make_group, new_group, next_group, refusal, request_parent, set_group}
use Rattle.model_loop.specs.Groups.{take_back, wait_for_children, wait_or_end, wake_exit, wake_if_last, with_child, without_child}
use Rattle.model_loop.specs.Handles.{soon, soon_all}
use Rattle.model_loop.specs.Ledger.{Began, LedgerEntry, Origin, ByAbort, ByEnd, ByGroup, ByTimeout, ByWait, ask_cancel, request, request_each}
use Rattle.model_loop.specs.Loop.{Group, Loop, TimeoutState, Created, Active, Expiring, Expired, Finished, book, in_parts, take_one_back}
use Rattle.model_loop.specs.Parts.{Parts, Plain, Task}
use Rattle.model_loop.specs.Suspend.{cancel_wait, suspend, wait_on}
use Rattle.model_loop.specs.Tasks.{begin_step, cancelling, clear_must_cancel, finish, future_of, must_cancel_of, next_task, spawn}
use Rattle.model_loop.specs.Timeouts.{enter_timeout, exit_timeout, fire, is_active, make_timeout, next_timeout, reschedule, schedule, timeout_of}
use Rattle.model_loop.specs.Timeouts.{without_handle}
use Rattle.model_machine.specs.Outside.{actions_of, items_of, news_of, time_of}
use Rattle.model_machine.specs.State.{ResumePoint, Asked, Sleeping, Leaving, Serving, Connecting, Yielding, Reading, ReadingAll}
use Rattle.model_machine.specs.Step.{given_up}
use Rattle.model_machine.specs.Turn.{woken_by}
use Rattle.model_stream.specs.Kept.{OneIs}
use Rattle.law_cancel.proofs.SuspendCases.{suspend_unless}
use Rattle.law_changes.specs.Blocks.{OfRequest, OfSchedule, cancels, counts, fires_later, fires_soon, gives_up, keeps_asked, sets_must_cancel, tags}
use Rattle.law_changes.specs.Changes.{AsksCancel, BeginsExit, CallsSoon, ChangesGroup, ChangesTimeout, ClearsMustCancel, FallsDue, LoopChange, MakesFuture}
use Rattle.law_changes.specs.Changes.{MakesGroup, MakesTask, MakesTimeout, OfParts, PartsChange, Passes, Registers, Revokes, Settles, TakesBack}
use Rattle.law_changes.specs.Changes.{Uncounts, WaitsFor}
use Rattle.law_changes.specs.Changes.{made_of_loop, made_of_parts}
use Rattle.law_changes.specs.Reaches.{Reaches, goes, stays}
use Rattle.law_changes.proofs.BlockRows.{as_ledger, each_in, schedule_in, without_in}
use Rattle.law_changes.proofs.Folds.{on, one, widen}
use Rattle.law_changes.proofs.PartsRows.{cancel_in}
use Rattle.law_sync.proofs.Lists.{each_append, each_at, each_on, each_set}
use Rattle.law_apart.specs.Apart.{ArePartsApart, GroupApart, IsLoopApart, IsTheirs, Leaves, TaskApart, ends_sleep}
use Rattle.law_apart.proofs.Parts.{Both, MayBe, both_same, change_both, leaves_then, new_theirs, soon_all_both, theirs_more}

module _ (ours : ℕ → Bool) (made : ℕ) (below : (future : ℕ) → ours future ≡ true → future < made) where
  abbrev PartsApart : Parts → Type 0
  PartsApart p = ArePartsApart ours made p

  abbrev pub LoopApart : Loop → Type 0
  LoopApart l = IsLoopApart ours made l

  pub record LoopBoth (l m : Loop) : Type 0 where
    pub apart : IsLoopApart ours made m
    pub leaves : Leaves ours l.parts m.parts

  abbrev pub Safe : Loop → Loop → Type 0
  Safe l m = LoopApart l → LoopBoth l m

  pub safe_then : (l m n : Loop) → Safe l m → Safe m n → Safe l n
  safe_then l m n first next a =
      let b = first a in
      let c = next b.apart in
      record { apart = c.apart; leaves = leaves_then ours l.parts m.parts n.parts b.leaves c.leaves }

  none_happens : (l : Loop) → Leaves ours l.parts l.parts
  none_happens l = record { more = le_refl _; stay = λ future is. inl refl }

  pub safe_same : (l : Loop) → Safe l l
  safe_same l a = record { apart = a; leaves = none_happens l }

  -- ---- of the parts
  one_more : (next later : ℕ) → next ≤ later → (o : Option ℕ) → OneIs (IsTheirs ours next) o → OneIs (IsTheirs ours later) o
  one_more next later le None is = tt
  one_more next later le (Some future) is = theirs_more ours next later le future is

  pub parts_safe : (l : Loop) (q : Parts) → (PartsApart l.parts → Both ours made below l.parts q) → Safe l (record l { parts = q })
  parts_safe l q change a =
      let b = change a.parts in
      record {
        apart = record {
          parts = b.apart;
          groups = each_on (GroupApart ours (next_future l.parts)) (GroupApart ours (next_future q))
              (λ group is. one_more (next_future l.parts) (next_future q) b.leaves.more group.exit_future is) l.groups a.groups;
        };
        leaves = b.leaves;
      }

  pub change_safe : (change : PartsChange) (l : Loop) → (LoopApart l → MayBe ours made below change l.parts)
      → Safe l (record l { parts = made_of_parts change l.parts })
  change_safe change l may a = parts_safe l (made_of_parts change l.parts) (λ b. change_both ours made below change l.parts (may a) b) a

  -- what is booked beside
  booked_safe : (l m : Loop) (entries : List LedgerEntry) → Safe l m → Safe l (record m { ledger = entries })
  booked_safe l m entries safe a = let b = safe a in record { apart = record { parts = b.apart.parts; groups = b.apart.groups }; leaves = b.leaves }

  row_both : {May : PartsChange → Parts → Type 0} → ((change : PartsChange) (p : Parts) → May change p → MayBe ours made below change p)
      → {p q : Parts} → Reaches made_of_parts May p q → PartsApart p → Both ours made below p q
  row_both each stays a = both_same ours made below _ a
  row_both each (goes row change may) a =
      let b = row_both each row a in
      let c = change_both ours made below change _ (each change _ may) b.apart in
      record { apart = c.apart; leaves = leaves_then ours _ _ _ b.leaves c.leaves }

  may_request : (change : PartsChange) (p : Parts) → OfRequest change p → MayBe ours made below change p
  may_request _ p (cancels future) = inr refl
  may_request _ p (keeps_asked future) = tt
  may_request _ p (counts task) = tt
  may_request _ p (sets_must_cancel task) = tt

  pub asks_safe : (by : Origin) (future : ℕ) (l : Loop) → Safe l (book (ask_cancel by future) l)
  asks_safe by future l =
      booked_safe l (record l { parts = (ask_cancel by future l.parts).parts }) (l.ledger ++ (ask_cancel by future l.parts).entries)
      (parts_safe l (ask_cancel by future l.parts).parts (λ a. row_both may_request (cancel_in future l.parts) a))

  pub takes_safe : (by : Origin) (task : ℕ) (l : Loop) → Safe l (take_one_back by task l)
  takes_safe by task l =
      booked_safe l (record l { parts = made_of_parts (Uncounts l.profile task) l.parts }) _ (change_safe (Uncounts l.profile task) l (λ a. tt))

  -- ---- changes that need no more than that
  abbrev pub MayLoop : LoopChange → Loop → Type 0
  MayLoop (OfParts change) l = MayBe ours made below change l.parts
  MayLoop (ChangesGroup id group) l = GroupApart ours (next_future l.parts) group
  MayLoop _ l = Unit {0}

  set_group_safe : (id : ℕ) (group : Group) (l : Loop) → (LoopApart l → GroupApart ours (next_future l.parts) group) → Safe l (set_group id group l)
  set_group_safe id group l may a = record {
    apart = record { parts = a.parts; groups = each_set (GroupApart ours (next_future l.parts)) l.groups id group a.groups (may a) };
    leaves = none_happens l;
  }

  pub loop_safe : (change : LoopChange) (l : Loop) → MayLoop change l → Safe l (made_of_loop change l)
  loop_safe (OfParts change) l may = change_safe change l (λ a. may)
  loop_safe (MakesTimeout task) l may = λ a. record { apart = record { parts = a.parts; groups = a.groups }; leaves = none_happens l }
  loop_safe (ChangesTimeout id timeout) l may = λ a. record { apart = record { parts = a.parts; groups = a.groups }; leaves = none_happens l }
  loop_safe (MakesGroup parent) l may = λ a. record {
    apart = record {
      parts = a.parts;
      groups = each_append (GroupApart ours (next_future l.parts)) l.groups (new_group parent ∷ []) a.groups (tt, tt);
    };
    leaves = none_happens l;
  }
  loop_safe (ChangesGroup id group) l may = set_group_safe id group l (λ a. may)
  loop_safe (AsksCancel by future) l may = asks_safe by future l
  loop_safe (TakesBack by task) l may = takes_safe by task l
  loop_safe (BeginsExit id) l may = λ a. record { apart = record { parts = a.parts; groups = a.groups }; leaves = none_happens l }

  pub row_safe : {l m : Loop} → Reaches made_of_loop MayLoop l m → Safe l m
  row_safe {l} stays = safe_same l
  row_safe {l} (goes row change may) = λ a.
      let b = row_safe row a in
      let c = loop_safe change _ may b.apart in
      record { apart = c.apart; leaves = leaves_then ours l.parts _ _ b.leaves c.leaves }

  pub each_safe : (by : Origin) (tasks : List ℕ) (l : Loop) → Safe l (book (request_each by tasks) l)
  each_safe by tasks l = row_safe (each_in by (λ future m. tt) tasks l)

  pub end_safe : (l : Loop) → Safe l (cancel_everything l)
  end_safe l = each_safe ByEnd (range_with_len 0 (next_task l.parts)) l

  -- ---- timeouts
  may_schedule : (id : ℕ) (change : LoopChange) (l : Loop) → OfSchedule id change l → MayLoop change l
  may_schedule id _ l (gives_up tag) = tt
  may_schedule id _ l fires_soon = tt
  may_schedule id _ l (fires_later when) = tt
  may_schedule id _ l (tags tag) = tt

  schedule_row : (id : ℕ) (when : Option ℕ) (l : Loop) → Reaches made_of_loop MayLoop l (schedule id when l)
  schedule_row id when l = widen (may_schedule id) (schedule_in id when l)

  pub enter_safe : (task : ℕ) (delay : Option ℤ) (l : Loop) → Safe l (enter_timeout task delay l)
  enter_safe task delay l = row_safe (on (one (MakesTimeout task) tt) (schedule_row (next_timeout l) _ (make_timeout task l)))

  pub reschedule_safe : (id : ℕ) (when : Option ℤ) (l : Loop) → Safe l (reschedule id when l)
  reschedule_safe id when l = at (is_active (timeout_of l id).state)
    where
      at : (b : Bool) → Safe l (reschedule_where b id when l)
      at true = row_safe (schedule_row id _ l)
      at false = safe_same l

  pub fire_safe : (id : ℕ) (l : Loop) → Safe l (fire id l)
  fire_safe id l = row_safe (goes (one (AsksCancel (ByTimeout id) (future_of l.parts (timeout_of l id).task)) tt) (ChangesTimeout id _) tt)

  pub exit_timeout_safe : (raised : Option Exc) (id : ℕ) (l : Loop) → Safe l (exit_timeout raised id l).loop
  exit_timeout_safe raised id l = row_safe (on (widen (may_schedule id) (without_in id l)) (at (timeout_of l id).state (without_handle id l)))
    where
      at : (state : TimeoutState) (m : Loop) → Reaches made_of_loop MayLoop m (leave_from state raised id m).loop
      at Created m = one (ChangesTimeout id _) tt
      at Active m = one (ChangesTimeout id _) tt
      at Expired m = one (ChangesTimeout id _) tt
      at Finished m = one (ChangesTimeout id _) tt
      at Expiring m = goes (one (TakesBack (ByTimeout id) (timeout_of m id).task) tt) (ChangesTimeout id _) tt

  -- ---- groups
  each_index : (P : Group → Type 0) (groups : List Group) (id : ℕ) (group : Group) → P group → Each P groups → P (slice_index_or groups id group)
  each_index P [] id group is all = is
  each_index P (it ∷ groups) zero group is all = all.0
  each_index P (it ∷ groups) (suc id) group is all = each_index P groups id group is all.1

  -- what its exit waits on is theirs
  exit_of : (id : ℕ) (l : Loop) → LoopApart l → GroupApart ours (next_future l.parts) (group_of l id)
  exit_of id l a = each_index (GroupApart ours (next_future l.parts)) l.groups id (new_group 0) tt a.groups

  pub enter_group_safe : (task : ℕ) (l : Loop) → Safe l (enter_group (next_group l) (make_group task l))
  enter_group_safe task l =
      safe_then l (make_group task l) (enter_group (next_group l) (make_group task l)) (loop_safe (MakesGroup task) l tt)
      (set_group_safe (next_group l) (record (group_of (make_group task l) (next_group l)) { entered = true }) (make_group task l)
      (exit_of (next_group l) (make_group task l)))

  abort_safe : (id : ℕ) (l : Loop) → Safe l (abort id l)
  abort_safe id l =
      let m = set_group id (record (group_of l id) { aborting = true }) l in
      safe_then l m (abort id l) (set_group_safe id (record (group_of l id) { aborting = true }) l (exit_of id l))
      (each_safe (ByAbort id) (group_of l id).children m)

  abort_where_safe : (b : Bool) (id : ℕ) (l : Loop) → Safe l (abort_where b id l)
  abort_where_safe true id l = abort_safe id l
  abort_where_safe false id l = safe_same l

  wake_exit_safe : (id : ℕ) (l : Loop) → Safe l (wake_exit id l)
  wake_exit_safe id l a = at (group_of l id).children (group_of l id).exit_future (exit_of id l a) a
    where
      at : (children : List ℕ) (exit : Option ℕ) → OneIs (IsTheirs ours (next_future l.parts)) exit
          → Safe l (in_parts (wake_if_last children exit) l)
      at [] None is = safe_same l
      at [] (Some future) is = change_safe (Settles future _) l (λ b. inl is.0)
      at (child ∷ children) exit is = safe_same l

  blame_safe : (o : Option Exc) (id : ℕ) (l : Loop) → Safe l (blame o id l)
  blame_safe None id l = safe_same l
  blame_safe (Some fault) id l =
      let new = record (group_of l id) { errors = (group_of l id).errors ++ fault ∷ [] } in
      safe_then l (set_group id new l) (blame (Some fault) id l) (set_group_safe id new l (exit_of id l))
      (at ((group_of l id).aborting || (group_of l id).requested) (set_group id new l))
    where
      at : (b : Bool) (m : Loop) → Safe m (abort_and_request_unless b id m)
      at true m = safe_same m
      at false m =
          let n = abort id m in
          let new = record (group_of n id) { requested = true } in
          safe_then m n (request_parent id n) (abort_safe id m)
          (safe_then n (set_group id new n) (request_parent id n) (set_group_safe id new n (exit_of id n))
          (asks_safe (ByGroup id) (future_of n.parts (group_of n id).parent) (set_group id new n)))

  pub child_done_safe : (id task : ℕ) (l : Loop) → Safe l (child_done id task l)
  child_done_safe id task l =
      let m = without_child id task l in
      let new = record (group_of l id) { children = filter (λ child. not (child == task)) (group_of l id).children } in
      safe_then l m (child_done id task l) (set_group_safe id new l (exit_of id l))
      (safe_then m (wake_exit id m) (child_done id task l) (wake_exit_safe id m) (blame_safe (failure_of l.parts task) id (wake_exit id m)))

  hear_safe : (input : Input) (id : ℕ) (l : Loop) → Safe l (hear input id l)
  hear_safe (Send value) id l = safe_same l
  hear_safe (Throw fault) id l = at (group_of l id).aborting
    where
      at : (b : Bool) → Safe l (keep_and_abort_unless b fault id l)
      at true = safe_same l
      at false =
          let new = record (group_of l id) { kept = Some fault } in
          safe_then l (set_group id new l) (abort id (set_group id new l)) (set_group_safe id new l (exit_of id l)) (abort_safe id (set_group id new l))

  take_back_safe : (now : Bool) (id : ℕ) (l : Loop) → Safe l (take_back now id l)
  take_back_safe now id l = at (now && (group_of l id).requested)
    where
      kept : (b : Bool) → Safe l (if b then set_group id (record (group_of l id) { kept = None }) (take_one_back (ByGroup id) (group_of l id).parent l)
          else take_one_back (ByGroup id) (group_of l id).parent l)
      kept true =
          let m = take_one_back (ByGroup id) (group_of l id).parent l in
          safe_then l m (set_group id (record (group_of l id) { kept = None }) m) (takes_safe (ByGroup id) (group_of l id).parent l)
          (set_group_safe id (record (group_of l id) { kept = None }) m (exit_of id m))
      kept false = takes_safe (ByGroup id) (group_of l id).parent l

      at : (b : Bool) → Safe l (take_back_where b id l)
      at false = safe_same l
      at true = kept (cancelling (take_one_back (ByGroup id) (group_of l id).parent l).parts (group_of l id).parent == 0)

  end_exit_safe : (kept : Option Exc) (errors : List Exc) (id : ℕ) (l : Loop) → Safe l (end_exit kept errors id l).loop
  end_exit_safe (Some fault) [] id l = set_group_safe id (record (group_of l id) { ended = true }) l (exit_of id l)
  end_exit_safe (Some fault) (error ∷ errors) id l = set_group_safe id _ l (exit_of id l)
  end_exit_safe None errors id l = set_group_safe id _ l (exit_of id l)

  waits_safe : (id : ℕ) (l : Loop) → Safe l (wait_for_children id l).loop
  waits_safe id l a =
      let m = in_parts (made_of_parts (MakesFuture Plain)) l in
      let more = length-append l.parts.futures (record { kind = Plain; outcome = None; callbacks = [] } ∷ []) in
      let new = new_theirs ours made below l.parts a.parts (next_future m.parts) (omega (arith, more)) in
      safe_then l m (wait_for_children id l).loop (change_safe (MakesFuture Plain) l (λ b. tt))
      (set_group_safe id (record (group_of l id) { exit_future = Some (next_future l.parts) }) m (λ b. new)) a

  wait_or_end_safe : (id : ℕ) (l : Loop) → Safe l (wait_or_end id l).loop
  wait_or_end_safe id l = at (group_of l id).children
    where
      at : (children : List ℕ) → Safe l (wait_or_end_with children id l).loop
      at [] =
          let last = take_back (at_end l.profile) id l in
          safe_then l last (end_all id l).loop (take_back_safe (at_end l.profile) id l)
          (end_exit_safe (group_of last id).kept (group_of last id).errors id last)
      at (child ∷ children) = waits_safe id l

  pub exit_begin_safe : (raised : Option Exc) (id : ℕ) (l : Loop) → Safe l (exit_begin raised id l).loop
  exit_begin_safe raised id l =
      let noted : Loop = record l { ledger = l.ledger ++ Began id ∷ [] } in
      let begun = begin_exit raised id l in
      let back = take_back (at_begin l.profile) id begun in
      let aborted = abort_if_raised raised id back in
      safe_then l noted (exit_begin raised id l).loop (loop_safe (BeginsExit id) l tt)
      (safe_then noted begun (exit_begin raised id l).loop (set_group_safe id _ noted (exit_of id noted))
      (safe_then begun back (exit_begin raised id l).loop (take_back_safe (at_begin l.profile) id begun)
      (safe_then back aborted (exit_begin raised id l).loop (abort_where_safe (is_some raised && not (group_of back id).aborting) id back)
      (wait_or_end_safe id aborted))))

  pub exit_woken_safe : (input : Input) (id : ℕ) (l : Loop) → Safe l (exit_woken input id l).loop
  exit_woken_safe input id l =
      let new = record (group_of l id) { exit_future = None } in
      let m = set_group id new l in
      let heard = hear input id m in
      safe_then l m (exit_woken input id l).loop (set_group_safe id new l (λ a. tt))
      (safe_then m heard (exit_woken input id l).loop (hear_safe input id m) (wait_or_end_safe id heard))

  pub create_safe : (id : ℕ) (l : Loop) → Safe l (create id l)
  create_safe id l = at (refusal (group_of l id))
    where
      at : (o : Option Refusal) → Safe l (create_unless o id l)
      at (Some cause) = safe_same l
      at None =
          let spawned = in_parts spawn l in
          let m = in_parts (with_child id) l in
          safe_then l spawned (create_unless None id l) (change_safe MakesTask l (λ a. tt))
          (safe_then spawned m (create_unless None id l) (change_safe (Registers _ (action.GroupDone id (next_task l.parts))) spawned (λ a. refl))
          (set_group_safe id _ m (exit_of id m)))

  -- ---- a task's step: it begins, it waits, and the task ends
  future_theirs : (p : Parts) (task : ℕ) → PartsApart p → ours (future_of p task) ≡ false
  future_theirs p task a = at (slice_get p.tasks task) refl
    where
      at : (o : Option Task) → slice_get p.tasks task ≡ o → ours (option_map_or (λ (it : Task). it.future) o (next_future p)) ≡ false
      at None e = (new_theirs ours made below p a (suc (next_future p)) (omega arith)).0
      at (Some it) e = (each_at (TaskApart ours (next_future p)) p.tasks task it e a.tasks).0

  pub finish_safe : (task : ℕ) (end : Result Value Exc) (l : Loop) → Safe l (in_parts (finish task end) l)
  finish_safe task (Ok value) l = λ a.
      let m = in_parts (made_of_parts (ClearsMustCancel task)) l in
      let theirs = future_theirs l.parts task a.parts in
      safe_then l m (in_parts (finish task (Ok value)) l) (change_safe (ClearsMustCancel task) l (λ b. tt))
      (change_safe (Settles (future_of l.parts task) _) m (λ b. inl theirs)) a
  finish_safe task (Err fault) l = change_safe (Settles (future_of l.parts task) _) l (λ a. inl (future_theirs l.parts task a.parts))

  given_up_safe : (resume_point : ResumePoint) (l : Loop) → Safe l (in_parts (given_up resume_point) l)
  given_up_safe Asked l = safe_same l
  given_up_safe (Sleeping tag) l = change_safe (Revokes tag) l (λ a. tt)
  given_up_safe (Leaving group) l = safe_same l
  given_up_safe (Serving key) l = safe_same l
  given_up_safe (Connecting conn) l = safe_same l
  given_up_safe (Yielding whom) l = safe_same l
  given_up_safe (Reading from op on_) l = safe_same l
  given_up_safe (ReadingAll from taken on_) l = safe_same l

  pub begin_safe : (task : ℕ) (input : Input) (resume_point : ResumePoint) (l : Loop)
      → Safe l (record l { parts = (begin_step task input (given_up resume_point l.parts)).parts })
  begin_safe task input resume_point l =
      let up = in_parts (given_up resume_point) l in
      let free = in_parts (made_of_parts (WaitsFor task None)) up in
      safe_then l up (record l { parts = (begin_step task input (given_up resume_point l.parts)).parts }) (given_up_safe resume_point l)
      (safe_then up free (record l { parts = (begin_step task input (given_up resume_point l.parts)).parts }) (change_safe (WaitsFor task None) up (λ a. tt))
      (change_safe (ClearsMustCancel task) free (λ a. tt)))

  pub suspend_safe : (task id : ℕ) (l : Loop) → Safe l (book (suspend task id) l)
  suspend_safe task id l = row_safe (at (cycle l.parts task id))
    where
      waits : Reaches made_of_loop MayLoop l (record l { parts = wait_on task id l.parts })
      waits = goes (one (OfParts (Registers id (action.Wakeup task))) refl) (OfParts (WaitsFor task (Some id))) tt

      asked : Reaches made_of_loop MayLoop l (book (ask_cancel (ByWait task) id) (record l { parts = wait_on task id l.parts }))
      asked = on waits (one (AsksCancel (ByWait task) id) tt)

      answered : (b : Bool) → Reaches made_of_loop MayLoop l (record l {
        parts = let q = (ask_cancel (ByWait task) id (wait_on task id l.parts)).parts in if b then clear_must_cancel task q else q;
        ledger = l.ledger ++ (ask_cancel (ByWait task) id (wait_on task id l.parts)).entries;
      })
      answered true = goes asked (OfParts (ClearsMustCancel task)) tt
      answered false = asked

      cancelled : (b : Bool) → Reaches made_of_loop MayLoop l (book (λ q. cancel_wait b task id (wait_on task id l.parts)) l)
      cancelled true = answered (request (ByWait task) id (wait_on task id l.parts)).answer
      cancelled false = as_ledger l (wait_on task id l.parts) (sym (append-nil l.ledger)) waits

      at : (o : Option CycleKind) → Reaches made_of_loop MayLoop l (book (λ q. suspend_unless o task id l.parts) l)
      at (Some why) =
          as_ledger l (soon (action.StepInCycle task why) l.parts) (sym (append-nil l.ledger)) (one (OfParts (CallsSoon (action.StepInCycle task why))) tt)
      at None = cancelled (must_cancel_of l.parts task)

  -- ---- a turn begins: what came is appended, and what is due
  no_sleep_in : (it : Item) → list_any ends_sleep (actions_of it) ≡ false
  no_sleep_in (item.ReadableServer server) = refl
  no_sleep_in (item.Ready conn ready.Read) = refl
  no_sleep_in (item.Ready conn ready.Write) = refl
  no_sleep_in (item.Ready conn ready.Both) = refl
  no_sleep_in (item.Up conn) = refl
  no_sleep_in (item.Down conn) = refl
  no_sleep_in (item.WritableChild child) = refl
  no_sleep_in (item.Child child told) = refl
  no_sleep_in (item.Extra code bytes) = refl

  no_sleep_news : (items : List Item) → list_any ends_sleep (flat_map actions_of items) ≡ false
  no_sleep_news [] = refl
  no_sleep_news (it ∷ items) =
      list_any-append ends_sleep (actions_of it) (flat_map actions_of items)
      ∙ ap (λ b. b || list_any ends_sleep (flat_map actions_of items)) (no_sleep_in it) ∙ no_sleep_news items

  pub woken_safe : (answer : Answer) (l : Loop) → Safe l (in_parts (woken_by answer) l)
  woken_safe answer l =
      let timed = in_parts (made_of_parts (Passes (time_of answer))) l in
      let came = in_parts (soon_all (news_of answer)) timed in
      safe_then l timed (in_parts (woken_by answer) l) (change_safe (Passes (time_of answer)) l (λ a. tt))
      (safe_then timed came (in_parts (woken_by answer) l)
      (parts_safe timed came.parts (λ a. soon_all_both ours made below (news_of answer) timed.parts (no_sleep_news (items_of answer)) a))
      (change_safe FallsDue came (λ a. tt)))
