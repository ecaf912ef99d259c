-- What happens to the machine's futures and tasks appends handles, and changes nothing else: the time and the timers stay, and
-- stamps and tags are given one after the other.
use Rattle.std.proofs.Common.{◌≡◌, ℕ, ◌+◌, ◌<◌, ◌≤◌, ◌⊎◌, false, List, [], ◌∷◌, ◌++◌, Option, Some, None, Result, Ok, Err, length, slice_get}
use Rattle.std.proofs.Common.{slice_set, refl, ap, sym, subst, ◌∙◌, inl, inr, arith, length-append}
use Rattle.std.proofs.Math.ListN.{length-set}
use Rattle.std.specs.Option.{option_map_or}
use Rattle.std.proofs.lemmas.Bool.{cases_eq}
use Rattle.model_value.specs.Action.{Action}
use Rattle.model_value.specs.declared.action.Action.TheVariants.{Step, StepInCycle, Wakeup}
use Rattle.model_value.specs.declared.outcome.Outcome.TheVariants.{Cancelled}
use Rattle.model_value.specs.Input.{Input}
use Rattle.model_value.specs.Value.{Outcome, Value, Exc}
use Rattle.model_loop.specs.Parts.{FutureKind, OfTask, Future, Task, Parts, Profile}
use Rattle.model_loop.specs.Handles.{soon, soon_all}
use Rattle.model_loop.specs.Futures.{with_future, settle, register, mark_asked, make_future, next_future}
use Rattle.model_loop.specs.Tasks.{change_task, spawn, next_task, set_waiter, clear_must_cancel, begin_step, finish, uncancel}
use Rattle.model_loop.specs.Cancel.{cancel}
use Rattle.model_loop.specs.Suspend.{suspend}
use Rattle.model_loop.proofs.FutureCases.{registered, registered_on, settled, settled_as}
use Rattle.law_cancel.proofs.Lookups.{get-set_same, get-set_other, get-push_other}
use Rattle.law_cancel.proofs.Effects.{done_as, asked_as}
use Rattle.law_changes.specs.Blocks.{OfRequest, cancels, keeps_asked, counts, sets_must_cancel, OfWait, cycles, registers_step, begins_wait, in_wait}
use Rattle.law_changes.specs.Blocks.{clears_must_cancel}
use Rattle.law_changes.specs.Changes.{PartsChange, made_of_parts}
use Rattle.law_changes.proofs.Folds.{fold}
use Rattle.law_changes.proofs.PartsRows.{cancel_in, suspend_in}
use Rattle.algorithm_parts.specs.Quiet.{stage_of, stage}
use Rattle.aio_task.specs.Keeps.{NameMap, Extends}
use Rattle.refine_parts.proofs.Appending.{extends_still}

-- a future that was made and is done stays so
abbrev StaysDone : List Future → List Future → Type 0
StaysDone before after = (id : ℕ) → id < length before → stage (slice_get before id) ≡ None → stage (slice_get after id) ≡ None

pub record OnlyAppends (p q : Parts) : Type 0 where
  pub actions : List Action
  pub futures : List Future
  pub tasks : List Task
  pub is : q ≡ record (soon_all actions p) { futures = futures; tasks = tasks }
  pub more : length p.futures ≤ length futures
  pub done : StaysDone p.futures futures

-- the same where no handle is appended
pub record OnlyChanges (p q : Parts) : Type 0 where
  pub futures : List Future
  pub tasks : List Task
  pub is : q ≡ record p { futures = futures; tasks = tasks }
  pub more : length p.futures ≤ length futures
  pub done : StaysDone p.futures futures

abbrev pub appends : {p q : Parts} → OnlyChanges p q → OnlyAppends p q
appends c = record {
  actions = [];
  futures = c.futures;
  tasks = c.tasks;
  is = c.is;
  more = c.more;
  done = c.done;
}

-- ---- handles beside futures and tasks
soon_all-beside : (actions : List Action) (p : Parts) (futures : List Future) (tasks : List Task)
    → soon_all actions (record p { futures = futures; tasks = tasks }) ≡ record (soon_all actions p) { futures = futures; tasks = tasks }
soon_all-beside [] p futures tasks = refl
soon_all-beside (action ∷ actions) p futures tasks = soon_all-beside actions (soon action p) futures tasks

soon_all-append : (actions more : List Action) (p : Parts) → soon_all (actions ++ more) p ≡ soon_all more (soon_all actions p)
soon_all-append [] more p = refl
soon_all-append (action ∷ actions) more p = soon_all-append actions more (soon action p)

changes_same : (p : Parts) → OnlyChanges p p
changes_same p = record {
  futures = p.futures;
  tasks = p.tasks;
  is = refl;
  more = omega arith;
  done = λ id h e. e;
}

only_same : (p : Parts) → OnlyAppends p p
only_same p = appends (changes_same p)

-- one after the other
stays_on : (before between after : List Future) → length before ≤ length between → StaysDone before between → StaysDone between after
    → StaysDone before after
stays_on before between after more first then_ = λ id h e. then_ id (omega (arith, more, h)) (first id h e)

changes_on : (p q r : Parts) → OnlyChanges p q → OnlyChanges q r → OnlyChanges p r
changes_on p q r a b = record {
  futures = b.futures;
  tasks = b.tasks;
  is = b.is ∙ ap (λ (x : Parts). record x { futures = b.futures; tasks = b.tasks }) a.is;
  more = let x = a.more in let y = b.more in let z = ap length here in omega arith;
  done = stays_on p.futures a.futures b.futures a.more a.done (subst (λ fs. StaysDone fs b.futures) here b.done);
}
  where
    here : q.futures ≡ a.futures
    here = ap (λ (x : Parts). x.futures) a.is

only_on : (p q r : Parts) → OnlyAppends p q → OnlyAppends q r → OnlyAppends p r
only_on p q r a b = record {
  actions = a.actions ++ b.actions;
  futures = b.futures;
  tasks = b.tasks;
  is =
      b.is
      ∙ ap (λ (x : Parts). record (soon_all b.actions x) { futures = b.futures; tasks = b.tasks }) a.is
      ∙ ap (λ (x : Parts). record x { futures = b.futures; tasks = b.tasks }) (soon_all-beside b.actions (soon_all a.actions p) a.futures a.tasks)
      ∙ ap (λ (x : Parts). record x { futures = b.futures; tasks = b.tasks }) (sym (soon_all-append a.actions b.actions p));
  more = let x = a.more in let y = b.more in let z = ap length here in omega arith;
  done = stays_on p.futures a.futures b.futures a.more a.done (subst (λ fs. StaysDone fs b.futures) here b.done);
}
  where
    here : q.futures ≡ a.futures
    here = ap (λ (x : Parts). x.futures) a.is

pub only_soon : (action : Action) (p : Parts) → OnlyAppends p (soon action p)
only_soon action p = record {
  actions = action ∷ [];
  futures = p.futures;
  tasks = p.tasks;
  is = refl;
  more = omega arith;
  done = λ id h e. e;
}

-- ---- futures
set_stays : (futures : List Future) (id : ℕ) (old new : Future) → slice_get futures id ≡ Some old
    → (stage (Some old) ≡ None → stage (Some new) ≡ None) → StaysDone futures (slice_set futures id new)
set_stays futures id old new e kept = λ j h s. go j s (cases_eq id j)
  where
    go : (j : ℕ) → stage (slice_get futures j) ≡ None → (id ≡ j) ⊎ (id ≡ j → ⊥) → stage (slice_get (slice_set futures id new) j) ≡ None
    go j s (inl i) =
        let there : slice_get futures j ≡ Some old = ap (slice_get futures) (sym i) ∙ e in
        let now : slice_get (slice_set futures id new) j ≡ Some new = ap (slice_get (slice_set futures id new)) (sym i) ∙ get-set_same futures id old new e in
        ap stage now ∙ kept (sym (ap stage there) ∙ s)
    go j s (inr n) = ap stage (get-set_other futures id j new n) ∙ s

changes_with : (id : ℕ) (old new : Future) (p : Parts) → slice_get p.futures id ≡ Some old
    → (stage (Some old) ≡ None → stage (Some new) ≡ None) → OnlyChanges p (with_future id new p)
changes_with id old new p e kept = record {
  futures = slice_set p.futures id new;
  tasks = p.tasks;
  is = refl;
  more = let l : length (slice_set p.futures id new) ≡ length p.futures = length-set p.futures id new in omega arith;
  done = set_stays p.futures id old new e kept;
}

pub only_soon_all : (actions : List Action) (p : Parts) → OnlyAppends p (soon_all actions p)
only_soon_all actions p = record {
  actions = actions;
  futures = p.futures;
  tasks = p.tasks;
  is = soon_all-beside actions p p.futures p.tasks;
  more = omega arith;
  done = λ id h e. e;
}

pub only_settle : (id : ℕ) (outcome : Outcome) (p : Parts) → OnlyAppends p (settle id outcome p)
only_settle id outcome p = at (slice_get p.futures id) refl
  where
    until : (future : Future) → slice_get p.futures id ≡ Some future → (o : Option Outcome) → OnlyAppends p (settled_as o id future outcome p)
    until future e (Some done) = only_same p
    until future e None =
        let q = with_future id (done_as outcome future) p in
        only_on p q (soon_all future.callbacks q) (appends (changes_with id future (done_as outcome future) p e (λ s. refl))) (only_soon_all future.callbacks q)

    at : (o : Option Future) → slice_get p.futures id ≡ o → OnlyAppends p (settled o id outcome p)
    at None e = only_same p
    at (Some future) e = until future e future.outcome

pub only_register : (id : ℕ) (action : Action) (p : Parts) → OnlyAppends p (register id action p)
only_register id action p = at (slice_get p.futures id) refl
  where
    until : (future : Future) → slice_get p.futures id ≡ Some future → (o : Option Outcome) → OnlyAppends p (registered_on o id future action p)
    until future e (Some done) = only_soon action p
    until future e None = appends (changes_with id future (record future { callbacks = future.callbacks ++ action ∷ [] }) p e (λ s. s))

    at : (o : Option Future) → slice_get p.futures id ≡ o → OnlyAppends p (registered o id action p)
    at None e = only_same p
    at (Some future) e = until future e future.outcome

pub changes_ask : (id : ℕ) (p : Parts) → OnlyChanges p (mark_asked id p)
changes_ask id p = at (slice_get p.futures id) refl
  where
    kept : (future : Future) (o : Option Outcome) → stage_of o future.kind ≡ None → stage_of o (asked_as future).kind ≡ None
    kept future (Some done) s = refl
    kept future None s = absurd (cc)

    at : (o : Option Future) → slice_get p.futures id ≡ o → OnlyChanges p (option_map_or (λ (f : Future). with_future id (asked_as f) p) o p)
    at None e = changes_same p
    at (Some future) e = changes_with id future (asked_as future) p e (kept future future.outcome)

pub changes_make : (kind : FutureKind) (p : Parts) → OnlyChanges p (make_future kind p)
changes_make kind p =
    let new : Future = record { kind = kind; outcome = None; callbacks = [] } in
    record {
      futures = p.futures ++ new ∷ [];
      tasks = p.tasks;
      is = refl;
      more = let l : length (p.futures ++ new ∷ []) ≡ length p.futures + 1 = length-append p.futures (new ∷ []) in omega arith;
      done = λ id h e. ap stage (get-push_other p.futures new id (omega arith)) ∙ e;
    }

-- ---- tasks
changes_tasks : (p : Parts) (tasks : List Task) → OnlyChanges p (record p { tasks = tasks })
changes_tasks p tasks = record {
  futures = p.futures;
  tasks = tasks;
  is = refl;
  more = omega arith;
  done = λ id h e. e;
}

pub changes_task : (id : ℕ) (change : Task → Task) (p : Parts) → OnlyChanges p (change_task id change p)
changes_task id change p = at (slice_get p.tasks id)
  where
    at : (o : Option Task) → OnlyChanges p (option_map_or (λ (task : Task). record p { tasks = slice_set p.tasks id (change task) }) o p)
    at None = changes_same p
    at (Some task) = changes_tasks p (slice_set p.tasks id (change task))

pub only_spawn : (p : Parts) → OnlyAppends p (spawn p)
only_spawn p =
    let made = make_future (OfTask (next_task p)) p in
    let it : Task = record { future = next_future p; waiter = None; cancels = 0; must_cancel = false } in
    let q = record made { tasks = p.tasks ++ it ∷ [] } in
    only_on p q (soon (Step (next_task p)) q)
    (appends (changes_on p made q (changes_make (OfTask (next_task p)) p) (changes_tasks made (p.tasks ++ it ∷ []))))
    (only_soon (Step (next_task p)) q)

-- ---- requests
only_request : (change : PartsChange) (p : Parts) → OfRequest change p → OnlyAppends p (made_of_parts change p)
only_request _ p (cancels future) = only_settle future Cancelled p
only_request _ p (keeps_asked future) = appends (changes_ask future p)
only_request _ p (counts task) = appends (changes_task task _ p)
only_request _ p (sets_must_cancel task) = appends (changes_task task _ p)

pub only_cancel : (id : ℕ) (p : Parts) → OnlyAppends p (cancel id p).parts
only_cancel id p = fold OnlyAppends only_same only_on only_request (cancel_in id p)

-- ---- steps
pub changes_begin : (task : ℕ) (input : Input) (p : Parts) → OnlyChanges p (begin_step task input p).parts
changes_begin task input p =
    changes_on p (set_waiter task None p) _ (changes_task task _ p) (changes_task task _ (set_waiter task None p))

pub only_finish : (task : ℕ) (end : Result Value Exc) (p : Parts) → OnlyAppends p (finish task end p)
only_finish task (Ok value) p = only_on p (clear_must_cancel task p) _ (appends (changes_task task _ p)) (only_settle _ _ (clear_must_cancel task p))
only_finish task (Err fault) p = only_settle _ _ p

only_wait : (task on : ℕ) (change : PartsChange) (p : Parts) → OfWait task on change p → OnlyAppends p (made_of_parts change p)
only_wait task on _ p (cycles why) = only_soon (StepInCycle task why) p
only_wait task on _ p registers_step = only_register on (Wakeup task) p
only_wait task on _ p begins_wait = appends (changes_task task _ p)
only_wait task on change p (in_wait it) = only_request change p it
only_wait task on _ p clears_must_cancel = appends (changes_task task _ p)

pub only_suspend : (task on : ℕ) (p : Parts) → OnlyAppends p (suspend task on p).parts
only_suspend task on p = fold OnlyAppends only_same only_on (only_wait task on) (suspend_in task on p)

-- ---- where no tag is given
changes_name_map : (t : NameMap) (p q : Parts) → OnlyChanges p q → Extends p t q t
changes_name_map t p q c = extends_still t p q (ap (λ (x : Parts). x.next_tag) c.is)

pub ask_name_map : (t : NameMap) (p : Parts) (id : ℕ) → Extends p t (mark_asked id p) t
ask_name_map t p id = changes_name_map t p (mark_asked id p) (changes_ask id p)

pub make_name_map : (t : NameMap) (kind : FutureKind) (p : Parts) → Extends p t (make_future kind p) t
make_name_map t kind p = changes_name_map t p (make_future kind p) (changes_make kind p)

pub begin_name_map : (t : NameMap) (p : Parts) (task : ℕ) (input : Input) → Extends p t (begin_step task input p).parts t
begin_name_map t p task input = changes_name_map t p (begin_step task input p).parts (changes_begin task input p)

pub uncancel_name_map : (t : NameMap) (p : Parts) (profile : Profile) (task : ℕ) → Extends p t (uncancel profile task p) t
uncancel_name_map t p profile task = changes_name_map t p (uncancel profile task p) (changes_task task _ p)
