-- Steps of tasks and timeouts: what each of them owes, and what it takes back.
use Rattle.std.proofs.Common.{◌≡◌, ℕ, ◌+◌, ◌≤◌, ◌<◌, zero, suc, ℤ, Bool, true, false, cond, ◌&&◌, ◌==◌, List, [], ◌∷◌, ◌++◌, Option, Some, None, Result}
use Rattle.std.proofs.Common.{length, option_map, slice_index_or, slice_set, refl, ap, ◌∙◌, le_refl, length-append, length-set}
use Rattle.std.proofs.Common.{arith}
use Rattle.std.specs.List.{count_by, range_with_len}
use Rattle.std.proofs.lemmas.List.Sums.{sum_by_push}
use Rattle.model_value.specs.Value.{Value, Exc, Outcome}
use Rattle.model_value.specs.declared.action.Action.TheVariants.{Fires, Extra as Added}
use Rattle.model_loop.proofs.TimeoutCases.{leave_from, reschedule_where}
use Rattle.model_loop.specs.Ending.{cancel_everything}
use Rattle.model_loop.specs.Groups.{group_of}
use Rattle.model_loop.specs.Futures.{settle}
use Rattle.model_loop.specs.Handles.{deadline}
use Rattle.model_loop.specs.Ledger.{Origin, ByEnd, ByExtra, ByTimeout, ask_cancel}
use Rattle.model_loop.specs.Loop.{TimeoutState, Created, Active, Expiring, Expired, Finished, Timeout, Loop, book, in_parts, take_one_back}
use Rattle.model_loop.specs.Owning.{OwnsFutures}
use Rattle.model_loop.specs.Parts.{Parts, Plain, Many}
use Rattle.model_loop.specs.Suspend.{suspend}
use Rattle.model_loop.specs.Tasks.{cancelling, finish, future_of, lives, next_task, spawn}
use Rattle.model_loop.specs.Timeouts.{enter_timeout, exit_timeout, fire, give_up, is_active, make_timeout, moment, next_timeout, no_timeout, reschedule}
use Rattle.model_loop.specs.Timeouts.{schedule, set_timeout, timeout_of, without_handle}
use Rattle.model_machine.specs.Extra.{ExtraStep, MakesPlain, MakesMany, Settles, Releases, Registers, CallsSoon, CallsLater, Revokes, Cancels, Uncancels}
use Rattle.model_machine.specs.Extra.{made_by, made_by_all}
use Rattle.model_machine.specs.Replies.{most_ids}
use Rattle.law_cancel.proofs.Effects.{length-change_task, register-tasks, settle-tasks}
use Rattle.law_changes.specs.Blocks.{OfSchedule, gives_up, fires_soon, fires_later, tags}
use Rattle.law_changes.specs.Changes.{CallsSoon as CallsActionSoon, CallsLater as CallsActionLater, Revokes as RevokesTag, Settles as SettlesFuture}
use Rattle.law_changes.specs.Changes.{Registers as RegistersAction, MakesFuture, MakesTask, MayAlone, made_of_parts, LoopChange, OfParts, MakesTimeout}
use Rattle.law_changes.specs.Changes.{ChangesTimeout, MakesGroup, ChangesGroup, AsksCancel, TakesBack, BeginsExit, made_of_loop}
use Rattle.law_changes.specs.Reaches.{Reaches, stays, goes, ReachAlone}
use Rattle.law_changes.proofs.BlockRows.{each_in, schedule_in, without_in}
use Rattle.law_changes.proofs.Parts.{alone}
use Rattle.law_changes.proofs.PartsRows.{finish_row}
use Rattle.law_changes.proofs.Balancing.{request_balances, suspend_balances}
use Rattle.law_changes.proofs.LoopBalance.{part_counts}
use Rattle.law_turns.proofs.Requests.{cancel_after}
use Rattle.law_promises.proofs.Later.{any, later_cancel, later_change, later_suspend, later_uncancel}
use Rattle.law_promises.proofs.Asking.{ask_covers, take_covers, hand_covers, request_took, suspend_took}
use Rattle.law_promises.proofs.Owed.{IsEasy, covers, easy_book, easy_group, easy_parts, easy_refl, easy_row, easy_timeout, right_on, timeout_owed}
use Rattle.law_promises.specs.Owed.{IsCovered, IsRight, is_expiring, owed, owes_group, owes_timeout}

-- ---- one change, in a step of some task
-- What takes nothing back, and after which no more is owed.
abbrev pub MayEase : (task : ℕ) → LoopChange → Loop → Type 0
MayEase task (OfParts change) l = MayAlone (Some task) change l.parts
MayEase task (AsksCancel by future) l = Unit {0}
MayEase task (ChangesTimeout id new) l = (other : ℕ) → cond (owes_timeout other new) 1 0 ≤ cond (owes_timeout other (timeout_of l id)) 1 0
MayEase task (ChangesGroup id new) l = (other : ℕ) → cond (owes_group l.profile other new) 1 0 ≤ cond (owes_group l.profile other (group_of l id)) 1 0
MayEase task _ l = ⊥

pub easy_change : (task : ℕ) (change : LoopChange) (l : Loop) → MayEase task change l → IsEasy l (made_of_loop change l)
easy_change task (OfParts change) l may =
    easy_parts l (made_of_parts change l.parts) (later_change (Some task) change l.parts (alone (Some task) change l.parts may))
    (λ other. let a = part_counts task change l.parts may other in omega (arith, a))
easy_change task (AsksCancel by id) l may =
    easy_book (ask_cancel by id) l (later_cancel id l.parts) (request_balances by id l.parts) (request_took by id l.parts)
easy_change task (ChangesTimeout id new) l may = easy_timeout id new l may
easy_change task (ChangesGroup id new) l may = easy_group id new l may
easy_change task (MakesTimeout other) l may = absurd may
easy_change task (MakesGroup parent) l may = absurd may
easy_change task (TakesBack by other) l may = absurd may
easy_change task (BeginsExit id) l may = absurd may

ease_parts : (task : ℕ) (l : Loop) {p q : Parts} → ReachAlone (Some task) p q
    → Reaches made_of_loop (MayEase task) (record l { parts = p }) (record l { parts = q })
ease_parts task l stays = stays
ease_parts task l (goes row change may) = goes (ease_parts task l row) (OfParts change) may

-- what a step of the task does to the parts alone
pub easy_alone : (task : ℕ) (l : Loop) {q : Parts} → ReachAlone (Some task) l.parts q → IsEasy l (record l { parts = q })
easy_alone task l row = easy_row (easy_change task) (ease_parts task l row)

pub easy_settle : (id : ℕ) (outcome : Outcome) (l : Loop) → IsEasy l (in_parts (settle id outcome) l)
easy_settle id outcome l = easy_change 0 (OfParts (SettlesFuture id outcome)) l tt

pub easy_request : (by : Origin) (id : ℕ) (l : Loop) → IsEasy l (book (ask_cancel by id) l)
easy_request by id l = easy_change 0 (AsksCancel by id) l tt

pub easy_spawn : (l : Loop) → IsEasy l (in_parts spawn l)
easy_spawn l = easy_change 0 (OfParts MakesTask) l tt

pub easy_finish : (task : ℕ) (end : Result Value Exc) (l : Loop) → IsEasy l (in_parts (finish task end) l)
easy_finish task end l = easy_alone task l (finish_row task end l.parts)

pub easy_suspend : (task on : ℕ) (l : Loop) → IsEasy l (book (suspend task on) l)
easy_suspend task on l =
    easy_book (suspend task on) l (later_suspend task on l.parts) (suspend_balances task on l.parts) (suspend_took task on l.parts)

pub easy_end : (l : Loop) → IsEasy l (cancel_everything l)
easy_end l = easy_row (easy_change 0) (each_in ByEnd (λ future m. tt) (range_with_len 0 (next_task l.parts)) l)

-- ---- what is added
pub record IsGood (l : Loop) : Type 0 where
  pub right : IsRight l
  pub covered : IsCovered l

easily : (l q : Loop) → IsEasy l q → next_task q.parts ≡ next_task l.parts → IsGood l → IsGood q
easily l q a same is = record { right = right_on l q a.later same a.owes is.right; covered = covers l q a is.right is.covered }

made_good : (step : ExtraStep) (l : Loop) → IsGood l → IsGood (made_by step l)
made_good MakesPlain l is = easily l _ (easy_change 0 (OfParts (MakesFuture Plain)) l tt) refl is
made_good (MakesMany members) l is = easily l _ (easy_change 0 (OfParts (MakesFuture (Many members false))) l tt) refl is
made_good (Settles future outcome) l is = easily l _ (easy_settle future outcome l) (ap length (settle-tasks future outcome l.parts)) is
made_good (Releases future) l is = is
made_good (Registers future key) l is =
    easily l _ (easy_change 0 (OfParts (RegistersAction future (Added key))) l refl) (ap length (register-tasks future (Added key) l.parts)) is
made_good (CallsSoon key) l is = easily l _ (easy_change 0 (OfParts (CallsActionSoon (Added key))) l refl) refl is
made_good (CallsLater when key) l is = easily l _ (easy_change 0 (OfParts (CallsActionLater when (Added key))) l tt) refl is
made_good (Revokes tag) l is = easily l _ (easy_change 0 (OfParts (RevokesTag tag)) l tt) refl is
made_good (Cancels key future) l is =
    easily l (made_by (Cancels key future) l) (easy_request (ByExtra key) future l) ((cancel_after any false None future l.parts).same refl) is
made_good (Uncancels key task) l is = record {
  right = right_on l (made_by (Uncancels key task) l) (later_uncancel l.profile task l.parts) (length-change_task task _ l.parts) (λ other. le_refl _) is.right;
  covered = hand_covers l (ByExtra key) task refl is.right is.covered;
}

pub all_good : (steps : List ExtraStep) (l : Loop) → IsGood l → IsGood (made_by_all steps l)
all_good [] l is = is
all_good (step ∷ steps) l is = all_good steps (made_by step l) (made_good step l is)

-- ---- timeouts
schedule_easy : (id : ℕ) (change : LoopChange) (l : Loop) → OfSchedule id change l → IsEasy l (made_of_loop change l)
schedule_easy id _ l (gives_up tag) = easy_change 0 (OfParts (RevokesTag tag)) l tt
schedule_easy id _ l fires_soon = easy_change 0 (OfParts (CallsActionSoon (Fires id))) l refl
schedule_easy id _ l (fires_later when) = easy_change 0 (OfParts (CallsActionLater when (Fires id))) l tt
schedule_easy id _ l (tags tag) = easy_timeout id (record (timeout_of l id) { tag = tag }) l (λ task. le_refl _)

easy_without : (id : ℕ) (l : Loop) → IsEasy l (without_handle id l)
easy_without id l = easy_row (schedule_easy id) (without_in id l)

easy_schedule : (id : ℕ) (when : Option ℕ) (l : Loop) → IsEasy l (schedule id when l)
easy_schedule id when l = easy_row (schedule_easy id) (schedule_in id when l)

pub easy_reschedule : (id : ℕ) (when : Option ℤ) (l : Loop) → IsEasy l (reschedule id when l)
easy_reschedule id when l = at (is_active (timeout_of l id).state)
  where
    at : (b : Bool) → IsEasy l (reschedule_where b id when l)
    at true = easy_schedule id (option_map moment when) l
    at false = easy_refl l

-- one more is made, where it can be numbered
made_owed : (task : ℕ) (l : Loop) (other : ℕ) → owed (make_timeout task l) other ≡ owed l other
made_owed task l other =
    let new : Timeout = record { state = Active; task = task; stored = cancelling l.parts task; tag = None } in
    let a : count_by (owes_timeout other) (l.timeouts ++ new ∷ []) ≡ count_by (owes_timeout other) l.timeouts + 0 =
    sum_by_push (λ t. cond (owes_timeout other t) 1 0) l.timeouts new in
    omega (arith, a)

pub enter_covers : (task : ℕ) (delay : Option ℤ) (l : Loop) → next_timeout l < most_ids → IsRight l → IsCovered l → IsCovered (enter_timeout task delay l)
enter_covers task delay l few right is =
    covers (make_timeout task l) (enter_timeout task delay l) (easy_schedule (next_timeout l) (option_map (deadline l.parts.time) delay) (make_timeout task l))
    (record { made = right.made; fresh = λ other h. made_owed task l other ∙ right.fresh other h })
    (record {
      timeouts_few = let a = length-append l.timeouts (record { state = Active; task = task; stored = cancelling l.parts task; tag = None } ∷ []) in
          omega (arith, a, few);
      groups_few = is.groups_few;
      covered = λ other h none. let a = is.covered other h none in let b = made_owed task l other in omega (arith, a, b);
      found = is.found;
    })

-- its time is over: it asks
pub fire_covers : (id : ℕ) (l : Loop) → OwnsFutures l.parts → IsRight l → IsCovered l → IsCovered (fire id l)
fire_covers id l owns right is =
    let it = timeout_of l id in
    let on = future_of l.parts it.task in
    let asked = book (ask_cancel (ByTimeout id) on) l in
    ask_covers l (fire id l) (ByTimeout id) it.task refl refl
    (λ other.
    let a : owed (fire id l) other + cond (owes_timeout other (timeout_of l id)) 1 0 ≤ owed l other + cond ((timeout_of l id).task == other) 1 0 =
    timeout_owed id (record it { state = Expiring; tag = None }) asked other in
    omega (arith, a))
    (length-set l.timeouts id (record it { state = Expiring; tag = None })) refl owns right is

-- its block is left: it takes its cancel back
kept_untagged : {X : Type 0} (f : Timeout → X) → ((t : Timeout) → f (record t { tag = None }) ≡ f t) → (xs : List Timeout) (i : ℕ)
    → f (slice_index_or (slice_set xs i (record (slice_index_or xs i no_timeout) { tag = None })) i no_timeout)
    ≡ f (slice_index_or xs i no_timeout)
kept_untagged f same [] i = refl
kept_untagged f same (x ∷ xs) zero = same x
kept_untagged f same (x ∷ xs) (suc i) = kept_untagged f same xs i

given_up_lives : (tag : Option ℕ) (p : Parts) (task : ℕ) → lives (give_up tag p) task ≡ lives p task
given_up_lives None p task = refl
given_up_lives (Some tag) p task = refl

given_up_tasks : (tag : Option ℕ) (p : Parts) → next_task (give_up tag p) ≡ next_task p
given_up_tasks None p = refl
given_up_tasks (Some tag) p = refl

-- one that is left, once its handle was given up
left_covers : (id : ℕ) (m : Loop) → (timeout_of m id).state ≡ Expiring → lives m.parts (timeout_of m id).task ≡ true → IsRight m → IsCovered m
    → IsCovered (set_timeout id (record (timeout_of m id) { state = Expired }) (take_one_back (ByTimeout id) (timeout_of m id).task m))
left_covers id m state living right is =
    let it = timeout_of m id in
    let taken = take_one_back (ByTimeout id) it.task m in
    take_covers m (set_timeout id (record it { state = Expired }) taken) (ByTimeout id) it.task [] refl refl refl
    (λ other.
    let a : owed (set_timeout id (record (timeout_of m id) { state = Expired }) (take_one_back (ByTimeout id) (timeout_of m id).task m)) other
    + cond (owes_timeout other (timeout_of m id)) 1 0 ≤ owed m other + 0 =
    timeout_owed id (record it { state = Expired }) taken other in
    let b : ◌≡◌ {A = ℕ} (cond (owes_timeout other (timeout_of m id)) 1 0) (cond ((timeout_of m id).task == other) 1 0) =
    ap (λ s. cond (is_expiring s && ((timeout_of m id).task == other)) 1 0) state in
    omega (arith, a, b))
    living (length-set m.timeouts id (record it { state = Expired })) refl right is

pub exit_covers : (raised : Option Exc) (id : ℕ) (l : Loop) → lives l.parts (timeout_of l id).task ≡ true → IsRight l → IsCovered l
    → IsCovered (exit_timeout raised id l).loop
exit_covers raised id l living right is = at (timeout_of l id).state refl
  where
    m_right : IsRight (without_handle id l)
    m_right =
        let a = easy_without id l in
        right_on l (without_handle id l) a.later (given_up_tasks (timeout_of l id).tag l.parts) a.owes right

    m_covered : IsCovered (without_handle id l)
    m_covered = covers l (without_handle id l) (easy_without id l) right is

    over : (new : Timeout) → ((task : ℕ) → ◌≡◌ {A = ℕ} (cond (owes_timeout task new) 1 0) 0) → IsCovered (set_timeout id new (without_handle id l))
    over new none =
        covers (without_handle id l) (set_timeout id new (without_handle id l))
        (easy_timeout id new (without_handle id l) (λ task. let a = none task in omega (arith, a))) m_right m_covered

    at : (state : TimeoutState) → (timeout_of l id).state ≡ state → IsCovered (leave_from state raised id (without_handle id l)).loop
    at Created e = over (record (timeout_of (without_handle id l) id) { state = Finished }) (λ task. refl)
    at Active e = over (record (timeout_of (without_handle id l) id) { state = Finished }) (λ task. refl)
    at Expired e = over (record (timeout_of (without_handle id l) id) { state = Finished }) (λ task. refl)
    at Finished e = over (record (timeout_of (without_handle id l) id) { state = Finished }) (λ task. refl)
    at Expiring e =
        left_covers id (without_handle id l) (kept_untagged (λ (t : Timeout). t.state) (λ t. refl) l.timeouts id ∙ e)
        (given_up_lives (timeout_of l id).tag l.parts (timeout_of (without_handle id l) id).task
        ∙ ap (lives l.parts) (kept_untagged (λ (t : Timeout). t.task) (λ t. refl) l.timeouts id) ∙ living) m_right m_covered
