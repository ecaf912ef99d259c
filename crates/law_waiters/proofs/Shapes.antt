-- A future keeps its kind: whose it is, or for which others it stands.
use Rattle.std.proofs.Common.{◌≡◌, ℕ, zero, suc, ◌-◌, false, true, List, [], ◌∷◌, ◌++◌, Option, Some, None, option_map, slice_get, slice_set, refl, ap, ◌∙◌}
use Rattle.std.specs.Option.{option_map_or}
use Rattle.std.proofs.lemmas.Option.{none-some}
use Rattle.model_value.specs.Action.{Action}
use Rattle.model_value.specs.declared.action.Action.TheVariants as action
use Rattle.model_value.specs.Value.{Outcome}
use Rattle.model_loop.proofs.FutureCases.{registered, registered_on, settled, settled_as}
use Rattle.model_loop.specs.Cancel.{cancel}
use Rattle.model_loop.specs.Futures.{asked_kind, make_future, mark_asked, next_future, register, settle, with_future}
use Rattle.model_loop.specs.Handles.{by_deadline, due, soon_all}
use Rattle.model_loop.specs.Loop.{Loop}
use Rattle.model_loop.specs.Parts.{FutureKind, Plain, OfTask, Many, Future, Parts, Task}
use Rattle.model_loop.specs.Tasks.{change_task, must_still_cancel, one_more}
use Rattle.model_machine.specs.Extra.{ExtraStep, MakesPlain, MakesMany, Settles as ExtraSettles, Releases, Registers as ExtraRegisters, made_by, made_by_all}
use Rattle.model_machine.specs.Extra.{CallsSoon as ExtraSoon, CallsLater as ExtraLater, Revokes as ExtraRevokes, Cancels, Uncancels}
use Rattle.law_cancel.proofs.Effects.{change_task-futures, done_as, soon_all-futures}
use Rattle.law_cancel.proofs.Lookups.{get-push_last, get-set_kept}
use Rattle.law_changes.proofs.Falling.{early, fall_due-futures, late}
use Rattle.law_changes.proofs.Folds.{fold}
use Rattle.law_changes.proofs.PartsRows.{cancel_in}
use Rattle.law_changes.specs.Changes.{PartsChange, CallsSoon, CallsLater, Revokes, MakesFuture, Settles, Registers, KeepsAsked, MakesTask, WaitsFor}
use Rattle.law_changes.specs.Changes.{SetsMustCancel, ClearsMustCancel, Counts, Uncounts, Passes, FallsDue, LeavesPending, LoopChange, OfParts, MakesTimeout}
use Rattle.law_changes.specs.Changes.{ChangesTimeout, MakesGroup, ChangesGroup, AsksCancel, TakesBack, BeginsExit, made_of_loop, made_of_parts}
use Rattle.law_changes.specs.Reaches.{Reaches}
use Rattle.law_kept.specs.Walks.{MayInLoop}

-- but for whether it was asked to cancel
abbrev pub shape_in : FutureKind → FutureKind
shape_in Plain = Plain
shape_in (OfTask task) = OfTask task
shape_in (Many members asked) = Many members false

abbrev pub shape_at : Option Future → Option FutureKind
shape_at found = option_map (λ (future : Future). shape_in future.kind) found

abbrev pub shape_of : Parts → ℕ → Option FutureKind
shape_of p id = shape_at (slice_get p.futures id)

abbrev pub ShapesStay : Parts → Parts → Type 0
ShapesStay p q = (id : ℕ) (kind : FutureKind) → shape_of p id ≡ Some kind → shape_of q id ≡ Some kind

same_futures : (p q : Parts) → q.futures ≡ p.futures → ShapesStay p q
same_futures p q same id kind e = ap (λ fs. shape_at (slice_get fs id)) same ∙ e

-- one more is made
push_stays : (fs : List Future) (new : Future) (id : ℕ) (kind : FutureKind) → shape_at (slice_get fs id) ≡ Some kind
    → shape_at (slice_get (fs ++ new ∷ []) id) ≡ Some kind
push_stays [] new id kind e = absurd (none-some kind e)
push_stays (x ∷ xs) new zero kind e = e
push_stays (x ∷ xs) new (suc id) kind e = push_stays xs new id kind e

-- one is changed
set_stays : (p q : Parts) (id : ℕ) (old new : Future) → slice_get p.futures id ≡ Some old → shape_in new.kind ≡ shape_in old.kind
    → q.futures ≡ slice_set p.futures id new → ShapesStay p q
set_stays p q id old new found same is other kind e =
    ap (λ fs. shape_at (slice_get fs other)) is ∙ get-set_kept shape_at p.futures id other old new found (ap Some same) ∙ e

settle_stays : (id : ℕ) (outcome : Outcome) (p : Parts) → ShapesStay p (settle id outcome p)
settle_stays id outcome p = at (slice_get p.futures id) refl
  where
    until : (future : Future) (o : Option Outcome) → slice_get p.futures id ≡ Some future → ShapesStay p (settled_as o id future outcome p)
    until future (Some done) found = λ other kind e. e
    until future None found =
        set_stays p (soon_all future.callbacks (with_future id (done_as outcome future) p)) id future (done_as outcome future) found refl
        (soon_all-futures future.callbacks (with_future id (done_as outcome future) p))

    at : (f : Option Future) → slice_get p.futures id ≡ f → ShapesStay p (settled f id outcome p)
    at None found = λ other kind e. e
    at (Some future) found = until future future.outcome found

register_stays : (id : ℕ) (action : Action) (p : Parts) → ShapesStay p (register id action p)
register_stays id action p = at (slice_get p.futures id) refl
  where
    until : (future : Future) (o : Option Outcome) → slice_get p.futures id ≡ Some future → ShapesStay p (registered_on o id future action p)
    until future (Some done) found = λ other kind e. e
    until future None found =
        let new = record future { callbacks = future.callbacks ++ action ∷ [] } in
        set_stays p (with_future id new p) id future new found refl refl

    at : (f : Option Future) → slice_get p.futures id ≡ f → ShapesStay p (registered f id action p)
    at None found = λ other kind e. e
    at (Some future) found = until future future.outcome found

asked_same : (kind : FutureKind) → shape_in (asked_kind kind) ≡ shape_in kind
asked_same Plain = refl
asked_same (OfTask task) = refl
asked_same (Many members asked) = refl

mark_stays : (id : ℕ) (p : Parts) → ShapesStay p (mark_asked id p)
mark_stays id p = at (slice_get p.futures id) refl
  where
    at : (f : Option Future) → slice_get p.futures id ≡ f
        → ShapesStay p (option_map_or (λ (future : Future). with_future id (record future { kind = asked_kind future.kind }) p) f p)
    at None found = λ other kind e. e
    at (Some future) found =
        let new = record future { kind = asked_kind future.kind } in
        set_stays p (with_future id new p) id future new found (asked_same future.kind) refl

task_stays : (id : ℕ) (change : Task → Task) (p : Parts) → ShapesStay p (change_task id change p)
task_stays id change p = same_futures p (change_task id change p) (change_task-futures id change p)

-- ---- each change
pub change_stays : (change : PartsChange) (p : Parts) → ShapesStay p (made_of_parts change p)
change_stays (CallsSoon action) p = λ id kind e. e
change_stays (CallsLater when action) p = λ id kind e. e
change_stays (Revokes tag) p = λ id kind e. e
change_stays (MakesFuture new) p = λ id kind e. push_stays p.futures _ id kind e
change_stays (Settles future outcome) p = settle_stays future outcome p
change_stays (Registers future action) p = register_stays future action p
change_stays (KeepsAsked future) p = mark_stays future p
change_stays MakesTask p = λ id kind e. push_stays p.futures _ id kind e
change_stays (WaitsFor task on) p = task_stays task (λ (it : Task). record it { waiter = on }) p
change_stays (SetsMustCancel task) p = task_stays task (λ (it : Task). record it { must_cancel = true }) p
change_stays (ClearsMustCancel task) p = task_stays task (λ (it : Task). record it { must_cancel = false }) p
change_stays (Counts task) p = task_stays task (λ (it : Task). record it { cancels = one_more it.cancels }) p
change_stays (Uncounts profile task) p = task_stays task (λ (it : Task). record it { cancels = it.cancels - 1; must_cancel = must_still_cancel profile it }) p
change_stays (Passes now) p = λ id kind e. e
change_stays FallsDue p = same_futures p (due p) (fall_due-futures (by_deadline (early p.time p.timers)) (record p { timers = late p.time p.timers }))
change_stays (LeavesPending rest) p = λ id kind e. e

pub cancel_stays : (future : ℕ) (p : Parts) → ShapesStay p (cancel future p).parts
cancel_stays future p =
    fold ShapesStay (λ q id kind e. e) (λ q r t a b id kind e. b id kind (a id kind e)) (λ change q may. change_stays change q) (cancel_in future p)

loop_change_stays : (change : LoopChange) (l : Loop) → ShapesStay l.parts (made_of_loop change l).parts
loop_change_stays (OfParts change) l = change_stays change l.parts
loop_change_stays (MakesTimeout task) l = λ id kind e. e
loop_change_stays (ChangesTimeout timeout it) l = λ id kind e. e
loop_change_stays (MakesGroup parent) l = λ id kind e. e
loop_change_stays (ChangesGroup group it) l = λ id kind e. e
loop_change_stays (AsksCancel by future) l = cancel_stays future l.parts
loop_change_stays (TakesBack by task) l = change_stays (Uncounts l.profile task) l.parts
loop_change_stays (BeginsExit group) l = λ id kind e. e

pub row_stays : {l m : Loop} → Reaches made_of_loop MayInLoop l m → ShapesStay l.parts m.parts
row_stays row =
    fold (λ (l m : Loop). ShapesStay l.parts m.parts) (λ l id kind e. e) (λ l m n a b id kind e. b id kind (a id kind e))
    (λ change l may. loop_change_stays change l) row

-- ---- what is added
step_stays : (step : ExtraStep) (l : Loop) → ShapesStay l.parts (made_by step l).parts
step_stays MakesPlain l = change_stays (MakesFuture Plain) l.parts
step_stays (MakesMany members) l = change_stays (MakesFuture (Many members false)) l.parts
step_stays (ExtraSettles future outcome) l = settle_stays future outcome l.parts
step_stays (Releases future) l = λ id kind e. e
step_stays (ExtraRegisters future key) l = register_stays future (action.Extra key) l.parts
step_stays (ExtraSoon key) l = λ id kind e. e
step_stays (ExtraLater when key) l = λ id kind e. e
step_stays (ExtraRevokes tag) l = λ id kind e. e
step_stays (Cancels key future) l = cancel_stays future l.parts
step_stays (Uncancels key task) l = change_stays (Uncounts l.profile task) l.parts

pub steps_stay : (steps : List ExtraStep) (l : Loop) → ShapesStay l.parts (made_by_all steps l).parts
steps_stay [] l id kind e = e
steps_stay (step ∷ steps) l id kind e = steps_stay steps (made_by step l) id kind (step_stays step l id kind e)

-- the one that is made next
pub made_shape : (kind : FutureKind) (p : Parts) → shape_of (make_future kind p) (next_future p) ≡ Some (shape_in kind)
made_shape kind p = ap shape_at (get-push_last p.futures (record { kind = kind; outcome = None; callbacks = [] }))
