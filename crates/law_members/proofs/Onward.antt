-- As the loop goes on, no handle of a gather or a wait comes but by their own steps, and what is registered on a future stays there
-- until that is done.
use Rattle.std.proofs.Common.{◌≡◌, ◌≤◌, ◌<◌, ◌+◌, ◌-◌, ◌==◌, ◌⊎◌, inl, inr, ℕ, Bool, true, false, cond, List, [], ◌∷◌, ◌++◌, Option, Some, None}
use Rattle.std.proofs.Common.{length, slice_get, slice_set, refl, sym, ap, ◌∙◌, arith, length-append}
use Rattle.std.proofs.Math.ListN.{length-set}
use Rattle.std.specs.Prelude.{◌%◌, if◌then◌else◌}
use Rattle.std.specs.List.{AllByRecursion as Each, count_by, sum_by}
use Rattle.std.specs.Option.{option_map_or}
use Rattle.std.proofs.lemmas.Bool.{cases_eq, false≢true}
use Rattle.std.proofs.lemmas.List.Sums.{sum_by-cons, sum_by_push}
use Rattle.std.proofs.lemmas.Option.{none-some}
use Rattle.model_value.specs.Action.{Action}
use Rattle.model_value.specs.declared.action.Action.TheVariants as action
use Rattle.model_value.specs.Value.{Outcome}
use Rattle.model_loop.proofs.FutureCases.{registered as registered_by, registered_on, settled, settled_as}
use Rattle.model_loop.specs.Cancel.{cancel}
use Rattle.model_loop.specs.Futures.{asked_kind, future_outcome, is_pending, is_pending_at, make_future, mark_asked, next_future, outcome_at, register}
use Rattle.model_loop.specs.Futures.{settle, with_future}
use Rattle.model_loop.specs.Handles.{due, later, revoke, soon, soon_all}
use Rattle.model_loop.specs.Loop.{Loop}
use Rattle.model_loop.specs.Parts.{FutureKind, Plain, OfTask, Many, Future, Handle, Parts, Task}
use Rattle.model_loop.specs.Tasks.{change_task, must_still_cancel, next_task, one_more}
use Rattle.model_loop.specs.Totals.{callbacks_at, callbacks_of}
use Rattle.model_machine.specs.Extra.{ExtraStep, MakesPlain, MakesMany, Settles as ExtraSettles, Releases, Registers as ExtraRegisters, made_by, made_by_all}
use Rattle.model_machine.specs.Extra.{CallsSoon as ExtraSoon, CallsLater as ExtraLater, Revokes as ExtraRevokes, Cancels, Uncancels}
use Rattle.model_machine.specs.Sound.{is_extra}
use Rattle.model_reach.specs.Reach.{OfDgram, OfExec, OfGather, OfSync, Part, part_of_key}
use Rattle.law_cancel.proofs.Effects.{change_task-futures, done_as, soon_all-futures}
use Rattle.law_cancel.proofs.Lookups.{get-push_other, get-set_other, get-set_same, get_within}
use Rattle.law_changes.proofs.Folds.{fold}
use Rattle.law_changes.proofs.PartsRows.{cancel_in}
use Rattle.law_changes.specs.Blocks.{OfRequest, cancels, counts, keeps_asked, sets_must_cancel}
use Rattle.law_changes.specs.Changes.{PartsChange, CallsSoon, CallsLater, Revokes, MakesFuture, Settles, Registers, KeepsAsked, MakesTask, WaitsFor}
use Rattle.law_changes.specs.Changes.{SetsMustCancel, ClearsMustCancel, Counts, Uncounts, Passes, FallsDue, LeavesPending, LoopChange, OfParts, MakesTimeout}
use Rattle.law_changes.specs.Changes.{ChangesTimeout, MakesGroup, ChangesGroup, AsksCancel, TakesBack, BeginsExit, made_of_loop, made_of_parts}
use Rattle.law_changes.specs.Reaches.{Reaches}
use Rattle.law_groups.proofs.Due.{due-futures}
use Rattle.law_kept.specs.Walks.{MayBeside, MayInLoop}
use Rattle.law_waiters.specs.Timed.{IsStepOf}
use Rattle.law_members.specs.Handles.{coming}
use Rattle.law_members.proofs.Coming.{due_coming, later_coming, make_coming, mark_coming, one_of, register_coming, revoke_coming, settle_coming}
use Rattle.law_members.proofs.Coming.{soon_coming, taken_coming, task_coming}

-- a handle of a gather, a wait, a shield or a wait_for
abbrev pub is_gathers : Action → Bool
is_gathers (action.Extra key) = key % 4 == 0
is_gathers _ = false

-- a test of these alone
abbrev pub IsOf : (Action → Bool) → Type 0
IsOf test = (it : Action) → is_gathers it ≡ false → test it ≡ false

-- ---- what is registered on a pending future
-- A future that was made, and is pending, was pending, and what was registered on it still is; one that is done stays so.
pub record Stays (p q : Parts) : Type 0 where
  pub made : next_future p ≤ next_future q
  pub pending : (id : ℕ) → id < next_future p → is_pending q id ≡ true
      → (is_pending p id ≡ true) × ((test : Action → Bool) → count_by test (callbacks_of p id) ≤ count_by test (callbacks_of q id))
  pub done : (id : ℕ) (outcome : Outcome) → future_outcome p id ≡ Some outcome → future_outcome q id ≡ Some outcome

pub stays_same : (p q : Parts) → q.futures ≡ p.futures → Stays p q
stays_same p q same = record {
  made = let e = ap (λ (fs : List Future). length fs) same in omega (arith, e);
  pending = λ id h is. (
    ap (λ (fs : List Future). is_pending_at (slice_get fs id)) (sym same) ∙ is,
    λ test. let e = ap (λ (fs : List Future). count_by test (callbacks_at (slice_get fs id))) same in omega (arith, e),
  );
  done = λ id outcome e. ap (λ (fs : List Future). outcome_at (slice_get fs id)) same ∙ e;
}

pub stays_then : (p q r : Parts) → Stays p q → Stays q r → Stays p r
stays_then p q r a b = record {
  made = let x = a.made in let y = b.made in omega (arith, x, y);
  pending = λ id h is.
      let m = a.made in
      let later_ = b.pending id (omega (arith, h, m)) is in
      let first = a.pending id h later_.0 in
      (first.0, λ test. let x = first.1 test in let y = later_.1 test in omega (arith, x, y));
  done = λ id outcome e. b.done id outcome (a.done id outcome e);
}

-- what is done was made
pub done_within : (p : Parts) (id : ℕ) (outcome : Outcome) → future_outcome p id ≡ Some outcome → id < next_future p
done_within p id outcome = at (slice_get p.futures id) refl
  where
    at : (o : Option Future) → slice_get p.futures id ≡ o → outcome_at o ≡ Some outcome → id < next_future p
    at None e is = absurd (none-some outcome is)
    at (Some future) e is = get_within p.futures id future e

-- one more is made
stays_push : (p q : Parts) (new : Future) → q.futures ≡ p.futures ++ new ∷ [] → Stays p q
stays_push p q new is = record {
  made = let e = ap (λ (fs : List Future). length fs) is in let a = length-append p.futures (new ∷ []) in omega (arith, e, a);
  pending = λ id h pending.
      let same = ap (λ (fs : List Future). slice_get fs id) is ∙ get-push_other p.futures new id (λ e. absurd (omega (arith, h, e))) in (
        sym (ap is_pending_at same) ∙ pending,
        λ test. let e = ap (λ o. count_by test (callbacks_at o)) same in omega (arith, e),
      );
  done = λ id outcome e.
      let h = done_within p id outcome e in
      ap outcome_at (ap (λ (fs : List Future). slice_get fs id) is ∙ get-push_other p.futures new id (λ s. absurd (omega (arith, h, s)))) ∙ e;
}

-- one is changed: where it is pending still, it was, and calls what it called
stays_set : (p q : Parts) (id : ℕ) (old new : Future) → slice_get p.futures id ≡ Some old → q.futures ≡ slice_set p.futures id new
    → (is_pending_at (Some new) ≡ true
    → (is_pending_at (Some old) ≡ true) × ((test : Action → Bool) → count_by test old.callbacks ≤ count_by test new.callbacks))
    → ((outcome : Outcome) → old.outcome ≡ Some outcome → new.outcome ≡ Some outcome) → Stays p q
stays_set p q id old new found is goes still = record {
  made = let e = ap (λ (fs : List Future). length fs) is in let a = length-set p.futures id new in omega (arith, e, a);
  pending = λ other h pending. at other pending (cases_eq id other);
  done = λ other outcome e. stays other outcome e (cases_eq id other);
}
  where
    stays : (other : ℕ) (outcome : Outcome) → future_outcome p other ≡ Some outcome → (id ≡ other) ⊎ (id ≡ other → ⊥)
        → future_outcome q other ≡ Some outcome
    stays other outcome e (inl same) =
        let now = ap (λ (fs : List Future). slice_get fs other) is ∙ ap (slice_get (slice_set p.futures id new)) (sym same)
        ∙ get-set_same p.futures id old new found in
        ap outcome_at now ∙ still outcome (sym (ap outcome_at (ap (slice_get p.futures) (sym same) ∙ found)) ∙ e)
    stays other outcome e (inr n) =
        ap outcome_at (ap (λ (fs : List Future). slice_get fs other) is ∙ get-set_other p.futures id other new n) ∙ e

    at : (other : ℕ) → is_pending q other ≡ true → (id ≡ other) ⊎ (id ≡ other → ⊥)
        → (is_pending p other ≡ true) × ((test : Action → Bool) → count_by test (callbacks_of p other) ≤ count_by test (callbacks_of q other))
    at other pending (inl e) =
        let now = ap (λ (fs : List Future). slice_get fs other) is ∙ ap (slice_get (slice_set p.futures id new)) (sym e)
        ∙ get-set_same p.futures id old new found in
        let was = ap (slice_get p.futures) (sym e) ∙ found in
        let it = goes (sym (ap is_pending_at now) ∙ pending) in (
          ap is_pending_at was ∙ it.0,
          λ test.
              let a = ap (λ o. count_by test (callbacks_at o)) was in
              let b = ap (λ o. count_by test (callbacks_at o)) now in
              let c = it.1 test in
              omega (arith, a, b, c),
        )
    at other pending (inr n) =
        let same = ap (λ (fs : List Future). slice_get fs other) is ∙ get-set_other p.futures id other new n in (
          sym (ap is_pending_at same) ∙ pending,
          λ test. let e = ap (λ o. count_by test (callbacks_at o)) same in omega (arith, e),
        )

pub settle_stays : (id : ℕ) (outcome : Outcome) (p : Parts) → Stays p (settle id outcome p)
settle_stays id outcome p = at (slice_get p.futures id) refl
  where
    until : (future : Future) (o : Option Outcome) → future.outcome ≡ o → slice_get p.futures id ≡ Some future
        → Stays p (settled_as o id future outcome p)
    until future (Some done) is found = stays_same p p refl
    until future None is found =
        stays_set p (soon_all future.callbacks (with_future id (done_as outcome future) p)) id future (done_as outcome future) found
        (soon_all-futures future.callbacks (with_future id (done_as outcome future) p)) (λ pending. absurd (false≢true pending))
        (λ before e. absurd (none-some before (sym is ∙ e)))

    at : (f : Option Future) → slice_get p.futures id ≡ f → Stays p (settled f id outcome p)
    at None found = stays_same p p refl
    at (Some future) found = until future future.outcome refl found

pub register_stays : (id : ℕ) (it : Action) (p : Parts) → Stays p (register id it p)
register_stays id it p = at (slice_get p.futures id) refl
  where
    until : (future : Future) (o : Option Outcome) → future.outcome ≡ o → slice_get p.futures id ≡ Some future
        → Stays p (registered_on o id future it p)
    until future (Some done) is found = stays_same p (soon it p) refl
    until future None is found =
        let new = record future { callbacks = future.callbacks ++ it ∷ [] } in
        stays_set p (with_future id new p) id future new found refl (λ pending. (
          pending,
          λ test. let e = sum_by_push (λ it. cond (test it) 1 0) future.callbacks it in omega (arith, e),
        )) (λ before e. e)

    at : (f : Option Future) → slice_get p.futures id ≡ f → Stays p (registered_by f id it p)
    at None found = stays_same p p refl
    at (Some future) found = until future future.outcome refl found

mark_stays : (id : ℕ) (p : Parts) → Stays p (mark_asked id p)
mark_stays id p = at (slice_get p.futures id) refl
  where
    at : (f : Option Future) → slice_get p.futures id ≡ f
        → Stays p (option_map_or (λ (future : Future). with_future id (record future { kind = asked_kind future.kind }) p) f p)
    at None found = stays_same p p refl
    at (Some future) found =
        stays_set p (with_future id (record future { kind = asked_kind future.kind }) p) id future
        (record future { kind = asked_kind future.kind }) found refl (λ pending. (pending, λ test. omega arith)) (λ before e. e)

task_stays : (id : ℕ) (change : Task → Task) (p : Parts) → Stays p (change_task id change p)
task_stays id change p = stays_same p (change_task id change p) (change_task-futures id change p)

-- ---- both
pub record Onward (p q : Parts) : Type 0 where
  pub fewer : (test : Action → Bool) → IsOf test → coming test q ≤ coming test p
  pub stays : Stays p q

pub onward_same : (p : Parts) → Onward p p
onward_same p = record { fewer = λ test of. omega arith; stays = stays_same p p refl }

pub onward_then : (p q r : Parts) → Onward p q → Onward q r → Onward p r
onward_then p q r a b = record {
  fewer = λ test of. let x = a.fewer test of in let y = b.fewer test of in omega (arith, x, y);
  stays = stays_then p q r a.stays b.stays;
}

-- what is called is none of these
unless : (test : Action → Bool) (it : Action) → test it ≡ false → ◌≡◌ {A = ℕ} (one_of (test it)) 0
unless test it none = ap one_of none

not_gathers : (it : Action) → is_extra it ≡ false → is_gathers it ≡ false
not_gathers (action.Extra key) e = absurd (false≢true (sym e))
not_gathers _ e = refl

soon_onward : (it : Action) (p : Parts) → is_gathers it ≡ false → Onward p (soon it p)
soon_onward it p none = record {
  fewer = λ test of. let a = soon_coming test it p in let z = unless test it (of it none) in omega (arith, a, z);
  stays = stays_same p (soon it p) refl;
}

later_onward : (when : ℕ) (it : Action) (p : Parts) → is_gathers it ≡ false → Onward p (later when it p)
later_onward when it p none = record {
  fewer = λ test of. let a = later_coming test when it p in let z = unless test it (of it none) in omega (arith, a, z);
  stays = stays_same p (later when it p) refl;
}

register_onward : (id : ℕ) (it : Action) (p : Parts) → is_gathers it ≡ false → Onward p (register id it p)
register_onward id it p none = record {
  fewer = λ test of. let a = register_coming test id it p in let z = unless test it (of it none) in omega (arith, a, z);
  stays = register_stays id it p;
}

pub revoke_onward : (tag : ℕ) (p : Parts) → Onward p (revoke tag p)
revoke_onward tag p = record { fewer = λ test of. revoke_coming test tag p; stays = stays_same p (revoke tag p) refl }

pub make_onward : (kind : FutureKind) (p : Parts) → Onward p (make_future kind p)
make_onward kind p = record {
  fewer = λ test of. let a = make_coming test kind p in omega (arith, a);
  stays = stays_push p (make_future kind p) _ refl;
}

pub settle_onward : (id : ℕ) (outcome : Outcome) (p : Parts) → Onward p (settle id outcome p)
settle_onward id outcome p = record { fewer = λ test of. settle_coming test id outcome p; stays = settle_stays id outcome p }

task_onward : (id : ℕ) (change : Task → Task) (p : Parts) → Onward p (change_task id change p)
task_onward id change p = record { fewer = λ test of. task_coming test id change p; stays = task_stays id change p }

-- no other handle is first than is taken out
pub taken_onward : (handle : Handle) (rest : List Handle) (p : Parts) → p.pending ≡ handle ∷ rest → Onward p (record p { pending = rest })
taken_onward handle rest p first = record {
  fewer = λ test of. let a = taken_coming test handle rest p first in omega (arith, a);
  stays = stays_same p (record p { pending = rest }) refl;
}

-- ---- each change
change_onward : (change : PartsChange) (p : Parts) → MayBeside change p → Onward p (made_of_parts change p)
change_onward (CallsSoon it) p may = soon_onward it p (not_gathers it may)
change_onward (CallsLater when it) p may = later_onward when it p (not_gathers it may)
change_onward (Revokes tag) p may = revoke_onward tag p
change_onward (MakesFuture kind) p may = make_onward kind p
change_onward (Settles future outcome) p may = settle_onward future outcome p
change_onward (Registers future it) p may = register_onward future it p (not_gathers it may)
change_onward (KeepsAsked future) p may = record { fewer = λ test of. mark_coming test future p; stays = mark_stays future p }
change_onward MakesTask p may =
    let made = make_future (OfTask (next_task p)) p in
    let q = record made { tasks = p.tasks ++ record { future = next_future p; waiter = None; cancels = 0; must_cancel = false } ∷ [] } in
    onward_then p q (soon (action.Step (next_task p)) q)
    (record {
      fewer = λ test of. let a = make_coming test (OfTask (next_task p)) p in omega (arith, a);
      stays = stays_push p q _ refl;
    }) (soon_onward (action.Step (next_task p)) q refl)
change_onward (WaitsFor task on) p may = task_onward task (λ (it : Task). record it { waiter = on }) p
change_onward (SetsMustCancel task) p may = task_onward task (λ (it : Task). record it { must_cancel = true }) p
change_onward (ClearsMustCancel task) p may = task_onward task (λ (it : Task). record it { must_cancel = false }) p
change_onward (Counts task) p may = task_onward task (λ (it : Task). record it { cancels = one_more it.cancels }) p
change_onward (Uncounts profile task) p may =
    task_onward task (λ (it : Task). record it { cancels = it.cancels - 1; must_cancel = must_still_cancel profile it }) p
change_onward (Passes now) p may = record { fewer = λ test of. omega arith; stays = stays_same p _ refl }
change_onward FallsDue p may =
    record { fewer = λ test of. let a = due_coming test p in omega (arith, a); stays = stays_same p (due p) (due-futures p) }
change_onward (LeavesPending rest) p may = taken_onward may.0 rest p may.1

may_request : (change : PartsChange) (p : Parts) → OfRequest change p → MayBeside change p
may_request _ p (cancels future) = tt
may_request _ p (keeps_asked future) = tt
may_request _ p (counts task) = tt
may_request _ p (sets_must_cancel task) = tt

cancel_onward : (future : ℕ) (p : Parts) → Onward p (cancel future p).parts
cancel_onward future p = fold Onward onward_same onward_then (λ change q may. change_onward change q (may_request change q may)) (cancel_in future p)

loop_onward : (change : LoopChange) (l : Loop) → MayInLoop change l → Onward l.parts (made_of_loop change l).parts
loop_onward (OfParts change) l may = change_onward change l.parts may
loop_onward (MakesTimeout task) l may = onward_same l.parts
loop_onward (ChangesTimeout timeout it) l may = onward_same l.parts
loop_onward (MakesGroup parent) l may = onward_same l.parts
loop_onward (ChangesGroup group it) l may = onward_same l.parts
loop_onward (AsksCancel by future) l may = cancel_onward future l.parts
loop_onward (TakesBack by task) l may = change_onward (Uncounts l.profile task) l.parts tt
loop_onward (BeginsExit group) l may = onward_same l.parts

pub row_onward : {l m : Loop} → Reaches made_of_loop MayInLoop l m → Onward l.parts m.parts
row_onward row =
    fold (λ (l m : Loop). Onward l.parts m.parts) (λ l. onward_same l.parts) (λ l m n a b. onward_then l.parts m.parts n.parts a b) loop_onward row

-- ---- steps of what is added
-- how many handles that pass a test a step makes, at most
abbrev pub makes : (Action → Bool) → ExtraStep → ℕ
makes test (ExtraRegisters future key) = one_of (test (action.Extra key))
makes test (ExtraSoon key) = one_of (test (action.Extra key))
makes test (ExtraLater when key) = one_of (test (action.Extra key))
makes test _ = 0

pub step_coming : (test : Action → Bool) → IsOf test → (step : ExtraStep) (l : Loop)
    → coming test (made_by step l).parts ≤ coming test l.parts + makes test step
step_coming test of MakesPlain l = let a = make_coming test Plain l.parts in omega (arith, a)
step_coming test of (MakesMany members) l = let a = make_coming test (Many members false) l.parts in omega (arith, a)
step_coming test of (ExtraSettles future outcome) l = let a = settle_coming test future outcome l.parts in omega (arith, a)
step_coming test of (Releases future) l = omega arith
step_coming test of (ExtraRegisters future key) l = register_coming test future (action.Extra key) l.parts
step_coming test of (ExtraSoon key) l = let a = soon_coming test (action.Extra key) l.parts in omega (arith, a)
step_coming test of (ExtraLater when key) l = let a = later_coming test when (action.Extra key) l.parts in omega (arith, a)
step_coming test of (ExtraRevokes tag) l = let a = revoke_coming test tag l.parts in omega (arith, a)
step_coming test of (Cancels key future) l = let a = (cancel_onward future l.parts).fewer test of in omega (arith, a)
step_coming test of (Uncancels key task) l = let a = (change_onward (Uncounts l.profile task) l.parts tt).fewer test of in omega (arith, a)

pub steps_coming : (test : Action → Bool) → IsOf test → (steps : List ExtraStep) (l : Loop)
    → coming test (made_by_all steps l).parts ≤ coming test l.parts + sum_by (makes test) steps
steps_coming test of [] l = omega arith
steps_coming test of (step ∷ steps) l =
    let a = step_coming test of step l in
    let b = steps_coming test of steps (made_by step l) in
    let c = sum_by-cons (makes test) step steps in
    omega (arith, a, b, c)

pub step_stays : (step : ExtraStep) (l : Loop) → Stays l.parts (made_by step l).parts
step_stays MakesPlain l = (make_onward Plain l.parts).stays
step_stays (MakesMany members) l = (make_onward (Many members false) l.parts).stays
step_stays (ExtraSettles future outcome) l = settle_stays future outcome l.parts
step_stays (Releases future) l = stays_same l.parts l.parts refl
step_stays (ExtraRegisters future key) l = register_stays future (action.Extra key) l.parts
step_stays (ExtraSoon key) l = stays_same l.parts (soon (action.Extra key) l.parts) refl
step_stays (ExtraLater when key) l = stays_same l.parts (later when (action.Extra key) l.parts) refl
step_stays (ExtraRevokes tag) l = stays_same l.parts (revoke tag l.parts) refl
step_stays (Cancels key future) l = (cancel_onward future l.parts).stays
step_stays (Uncancels key task) l = (change_onward (Uncounts l.profile task) l.parts tt).stays

pub steps_stay : (steps : List ExtraStep) (l : Loop) → Stays l.parts (made_by_all steps l).parts
steps_stay [] l = stays_same l.parts l.parts refl
steps_stay (step ∷ steps) l =
    stays_then l.parts (made_by step l).parts (made_by_all steps (made_by step l)).parts (step_stays step l) (steps_stay steps (made_by step l))

-- steps of another part make none of these
module _ (part : Part) (other : part ≡ OfGather → ⊥) where
  apart : (b c d : Bool) → (if b then OfGather else (if c then OfSync else (if d then OfExec else OfDgram))) ≡ part → b ≡ false
  apart true c d e = absurd (other (sym e))
  apart false c d e = refl

  key_apart : (key : ℕ) → part_of_key key ≡ part → is_gathers (action.Extra key) ≡ false
  key_apart key e = apart (key % 4 == 0) (key % 4 == 1) (key % 4 == 2) e

  makes_none : (test : Action → Bool) → IsOf test → (step : ExtraStep) → IsStepOf part step → makes test step ≡ 0
  makes_none test of (ExtraRegisters future key) is = unless test (action.Extra key) (of (action.Extra key) (key_apart key is))
  makes_none test of (ExtraSoon key) is = unless test (action.Extra key) (of (action.Extra key) (key_apart key is))
  makes_none test of (ExtraLater when key) is = unless test (action.Extra key) (of (action.Extra key) (key_apart key is))
  makes_none test of MakesPlain is = refl
  makes_none test of (MakesMany members) is = refl
  makes_none test of (ExtraSettles future outcome) is = refl
  makes_none test of (Releases future) is = refl
  makes_none test of (ExtraRevokes tag) is = refl
  makes_none test of (Cancels key future) is = refl
  makes_none test of (Uncancels key task) is = refl

  all_make_none : (test : Action → Bool) → IsOf test → (steps : List ExtraStep) → Each (IsStepOf part) steps → sum_by (makes test) steps ≡ 0
  all_make_none test of [] is = refl
  all_make_none test of (step ∷ steps) is =
      let a = makes_none test of step is.0 in
      let b = all_make_none test of steps is.1 in
      let c = sum_by-cons (makes test) step steps in
      omega (arith, a, b, c)

  pub beside_onward : (steps : List ExtraStep) (l : Loop) → Each (IsStepOf part) steps → Onward l.parts (made_by_all steps l).parts
  beside_onward steps l is = record {
    fewer = λ test of.
        let a = steps_coming test of steps l in
        let b = all_make_none test of steps is in
        omega (arith, a, b);
    stays = steps_stay steps l;
  }
