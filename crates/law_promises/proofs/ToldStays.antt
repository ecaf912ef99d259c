-- Each change of the loop leaves what is done as it is.
use Rattle.std.proofs.Common.{◌≡◌, ◌⊎◌, inl, inr, ℕ, zero, suc, ◌+◌, Bool, true, List, [], ◌∷◌, ◌++◌, Option, Some, None, slice_get, slice_set, refl, sym, ap}
use Rattle.std.proofs.Common.{subst, ◌∙◌}
use Rattle.std.specs.Prelude.{is_none}
use Rattle.std.specs.List.{count_by}
use Rattle.std.specs.Option.{option_map_or}
use Rattle.std.proofs.lemmas.Bool.{cases_eq}
use Rattle.model_value.specs.Action.{Action}
use Rattle.model_value.specs.Value.{Outcome}
use Rattle.model_loop.specs.Futures.{future_outcome, is_pending, mark_asked, outcome_at, register, settle}
use Rattle.model_loop.specs.Futures.{asked_kind, is_pending_at, with_future}
use Rattle.model_loop.specs.Loop.{Loop}
use Rattle.model_loop.specs.Parts.{Future, Parts}
use Rattle.model_loop.specs.Totals.{callbacks_of, pending_where}
use Rattle.model_loop.proofs.FutureCases.{registered, registered_on, settled, settled_as}
use Rattle.model_machine.specs.State.{State}
use Rattle.law_cancel.proofs.Effects.{change_task-futures, soon_all-futures}
use Rattle.law_cancel.proofs.Lookups.{get-set_other, get-set_same}
use Rattle.law_changes.specs.Changes.{PartsChange, CallsSoon, CallsLater, Revokes, MakesFuture, Settles, Registers, KeepsAsked, MakesTask, WaitsFor}
use Rattle.law_changes.specs.Changes.{SetsMustCancel}
use Rattle.law_changes.specs.Changes.{ClearsMustCancel, Counts, Uncounts, Passes, FallsDue, LeavesPending, made_of_parts}
use Rattle.law_changes.specs.Changes.{LoopChange, OfParts, MakesTimeout, ChangesTimeout, MakesGroup, ChangesGroup, AsksCancel, TakesBack, BeginsExit}
use Rattle.law_changes.specs.Changes.{made_of_loop}
use Rattle.law_changes.specs.Reaches.{PartsReach}
use Rattle.law_changes.proofs.Folds.{fold}
use Rattle.law_changes.proofs.PartsRows.{cancel_row}
use Rattle.law_steps.proofs.Settling.{settle_effect}
use Rattle.law_groups.proofs.Due.{due-futures}
use Rattle.law_reach.specs.Changes.{StateChange, OfLoop, Says, MakesCoroutine, SetsResumePoint, Resumes, NamesFuture, EndsMain, ChangesExtra, ChangesStreams}
use Rattle.law_reach.specs.Changes.{Runs}
use Rattle.law_reach.specs.Changes.{Hears, Calls, made}
use Rattle.law_reach.specs.Reaches.{InRun}
use Rattle.law_promises.specs.Stays.{OutcomesStay}

-- ---- one future after a change of a list of them
push_stays : (xs : List Future) (x : Future) (id : ℕ) (outcome : Outcome) → outcome_at (slice_get xs id) ≡ Some outcome
    → outcome_at (slice_get (xs ++ x ∷ []) id) ≡ Some outcome
push_stays [] x id outcome e = absurd (let bad : ⊥ = cc in bad)
push_stays (y ∷ ys) x zero outcome e = e
push_stays (y ∷ ys) x (suc id) outcome e = push_stays ys x id outcome e

set_stays : (xs : List Future) (at : ℕ) (old new : Future) → slice_get xs at ≡ Some old
    → ((outcome : Outcome) → old.outcome ≡ Some outcome → new.outcome ≡ Some outcome) → (id : ℕ) (outcome : Outcome)
    → outcome_at (slice_get xs id) ≡ Some outcome → outcome_at (slice_get (slice_set xs at new) id) ≡ Some outcome
set_stays xs at old new found more id outcome e = by (cases_eq at id)
  where
    by : (at ≡ id) ⊎ (at ≡ id → ⊥) → outcome_at (slice_get (slice_set xs at new) id) ≡ Some outcome
    by (inl same) =
        subst (λ j. outcome_at (slice_get (slice_set xs at new) j) ≡ Some outcome) same
        (ap outcome_at (get-set_same xs at old new found)
        ∙ more outcome (sym (ap outcome_at found) ∙ subst (λ j. outcome_at (slice_get xs j) ≡ Some outcome) (sym same) e))
    by (inr apart) = ap outcome_at (get-set_other xs at id new apart) ∙ e

same_stays : (p q : Parts) → q.futures ≡ p.futures → OutcomesStay p q
same_stays p q same id outcome e = ap (λ (fs : List Future). outcome_at (slice_get fs id)) same ∙ e

-- ---- each change of the parts
none_some : (other : Outcome) → None ≡ Some other → ⊥
none_some other bad = let no : ⊥ = cc in no

settle_stays : (at : ℕ) (to : Outcome) (p : Parts) → OutcomesStay p (settle at to p)
settle_stays at to p = by (slice_get p.futures at) refl
  where
    until : (future : Future) → slice_get p.futures at ≡ Some future → (o : Option Outcome) → future.outcome ≡ o
        → OutcomesStay p (settled_as o at future to p)
    until future found (Some done) is = λ id outcome e. e
    until future found None is =
        λ id outcome e.
        let new = record future { outcome = Some to; callbacks = [] } in
        ap (λ (fs : List Future). outcome_at (slice_get fs id)) (soon_all-futures future.callbacks (with_future at new p))
        ∙ set_stays p.futures at future new found (λ other was. absurd (none_some other (sym is ∙ was))) id outcome e

    by : (o : Option Future) → slice_get p.futures at ≡ o → OutcomesStay p (settled o at to p)
    by None found = λ id outcome e. e
    by (Some future) found = until future found future.outcome refl

register_stays : (at : ℕ) (action : Action) (p : Parts) → OutcomesStay p (register at action p)
register_stays at action p = by (slice_get p.futures at) refl
  where
    until : (future : Future) → slice_get p.futures at ≡ Some future → (o : Option Outcome) → OutcomesStay p (registered_on o at future action p)
    until future found (Some done) = λ id outcome e. e
    until future found None =
        λ id outcome e.
        set_stays p.futures at future (record future { callbacks = future.callbacks ++ action ∷ [] }) found (λ other was. was) id outcome e

    by : (o : Option Future) → slice_get p.futures at ≡ o → OutcomesStay p (registered o at action p)
    by None found = λ id outcome e. e
    by (Some future) found = until future found future.outcome

asked_stays : (at : ℕ) (p : Parts) → OutcomesStay p (mark_asked at p)
asked_stays at p = by (slice_get p.futures at) refl
  where
    by : (o : Option Future) → slice_get p.futures at ≡ o
        → OutcomesStay p (option_map_or (λ (future : Future). with_future at (record future { kind = asked_kind future.kind }) p) o p)
    by None found = λ id outcome e. e
    by (Some future) found =
        λ id outcome e.
        set_stays p.futures at future (record future { kind = asked_kind future.kind }) found (λ other was. was) id outcome e

pub change_stays : (change : PartsChange) (p : Parts) → OutcomesStay p (made_of_parts change p)
change_stays (CallsSoon action) p = λ id outcome e. e
change_stays (CallsLater when action) p = λ id outcome e. e
change_stays (Revokes tag) p = λ id outcome e. e
change_stays (MakesFuture kind) p = λ id outcome e. push_stays p.futures _ id outcome e
change_stays (Settles future to) p = settle_stays future to p
change_stays (Registers future action) p = register_stays future action p
change_stays (KeepsAsked future) p = asked_stays future p
change_stays MakesTask p = λ id outcome e. push_stays p.futures _ id outcome e
change_stays (WaitsFor task on) p = same_stays p (made_of_parts (WaitsFor task on) p) (change_task-futures task _ p)
change_stays (SetsMustCancel task) p = same_stays p (made_of_parts (SetsMustCancel task) p) (change_task-futures task _ p)
change_stays (ClearsMustCancel task) p = same_stays p (made_of_parts (ClearsMustCancel task) p) (change_task-futures task _ p)
change_stays (Counts task) p = same_stays p (made_of_parts (Counts task) p) (change_task-futures task _ p)
change_stays (Uncounts profile task) p = same_stays p (made_of_parts (Uncounts profile task) p) (change_task-futures task _ p)
change_stays (Passes now) p = λ id outcome e. e
change_stays FallsDue p = same_stays p (made_of_parts FallsDue p) (due-futures p)
change_stays (LeavesPending rest) p = λ id outcome e. e

-- ---- rows
parts_stay : {r : Option ℕ} {p q : Parts} → PartsReach r p q → OutcomesStay p q
parts_stay row =
    fold OutcomesStay (λ p id outcome e. e) (λ p q r first second id outcome e. second id outcome (first id outcome e))
    (λ change p may. change_stays change p) row

loop_stays : (change : LoopChange) (l : Loop) → OutcomesStay l.parts (made_of_loop change l).parts
loop_stays (OfParts change) l = change_stays change l.parts
loop_stays (MakesTimeout task) l = λ id outcome e. e
loop_stays (ChangesTimeout place timeout) l = λ id outcome e. e
loop_stays (MakesGroup parent) l = λ id outcome e. e
loop_stays (ChangesGroup place group) l = λ id outcome e. e
loop_stays (AsksCancel by future) l = parts_stay (cancel_row None future l.parts)
loop_stays (TakesBack by task) l = change_stays (Uncounts l.profile task) l.parts
loop_stays (BeginsExit place) l = λ id outcome e. e

state_stays : {S : Type 0} (change : StateChange S) (s : State S) → OutcomesStay s.loop.parts (made change s).loop.parts
state_stays (OfLoop change) s = loop_stays change s.loop
state_stays (Says task text) s = λ id outcome e. e
state_stays (MakesCoroutine coroutine arguments) s = λ id outcome e. e
state_stays (SetsResumePoint resume_point task) s = λ id outcome e. e
state_stays (Resumes fresh task input) s = λ id outcome e. e
state_stays (NamesFuture future) s = λ id outcome e. e
state_stays EndsMain s = λ id outcome e. e
state_stays (ChangesExtra extra) s = λ id outcome e. e
state_stays (ChangesStreams streams) s = λ id outcome e. e
state_stays (Runs it) s = λ id outcome e. e
state_stays (Hears call answer left) s = λ id outcome e. e
state_stays (Calls call) s = λ id outcome e. e

pub run_stays : {S : Type 0} {s t : State S} → InRun s t → OutcomesStay s.loop.parts t.loop.parts
run_stays {S} row =
    fold (λ (s t : State S). OutcomesStay s.loop.parts t.loop.parts) (λ s id outcome e. e)
    (λ s t u first second id outcome e. second id outcome (first id outcome e)) (λ change s may. state_stays change s) row

-- ---- told once more it does nothing
pub told_again : (p : Parts) (id : ℕ) (outcome other : Outcome) → future_outcome p id ≡ Some outcome → settle id other p ≡ p
told_again p id outcome other = by (slice_get p.futures id)
  where
    until : (future : Future) (o : Option Outcome) → o ≡ Some outcome → settled_as o id future other p ≡ p
    until future (Some done) is = refl
    until future None is = absurd (let bad : ⊥ = cc in bad)

    by : (o : Option Future) → outcome_at o ≡ Some outcome → settled o id other p ≡ p
    by None is = refl
    by (Some future) is = until future future.outcome is

-- ---- told the first time it calls all
module _ (id : ℕ) (outcome : Outcome) (p : Parts) (pending : is_pending p id ≡ true) where
  -- the future that is told
  told_one : (P : Parts → Type 0) → ((future : Future) → slice_get p.futures id ≡ Some future → future.outcome ≡ None → P (settle id outcome p))
      → P (settle id outcome p)
  told_one P each = by (slice_get p.futures id) refl (subst (λ o. is_pending_at o ≡ true) refl pending)
    where
      until : (future : Future) → slice_get p.futures id ≡ Some future → (o : Option Outcome) → future.outcome ≡ o → is_none o ≡ true
          → P (settle id outcome p)
      until future found None is open_ = each future found is
      until future found (Some done) is open_ = absurd (let bad : ⊥ = cc in bad)

      by : (o : Option Future) → slice_get p.futures id ≡ o → is_pending_at o ≡ true → P (settle id outcome p)
      by None found open_ = absurd (let bad : ⊥ = cc in bad)
      by (Some future) found open_ = until future found future.outcome refl open_

  pub calls_all : (test : Action → Bool)
      → pending_where test (settle id outcome p).pending ≡ pending_where test p.pending + count_by test (callbacks_of p id)
  calls_all test =
      told_one (λ q. pending_where test q.pending ≡ pending_where test p.pending + count_by test (callbacks_of p id))
      (λ future found is. (settle_effect id outcome p future found is).called test)

  pub leaves_none : callbacks_of (settle id outcome p) id ≡ []
  leaves_none = told_one (λ q. callbacks_of q id ≡ []) (λ future found is. (settle_effect id outcome p future found is).none)
