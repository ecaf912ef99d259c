-- No other change makes a handle of what is added, of a key that is registered on no future.
use Rattle.std.proofs.Common.{◌≡◌, ◌≤◌, ◌-◌, ◌==◌, ◌⊎◌, inl, inr, ℕ, zero, suc, Bool, true, false, cond, not, ◌&&◌, List, [], ◌∷◌, ◌++◌, Option, Some, None}
use Rattle.std.proofs.Common.{slice_get, slice_set, refl, sym, ap, ◌∙◌, arith}
use Rattle.std.specs.List.{AllByRecursion as Each, count_by}
use Rattle.std.specs.Option.{option_map_or}
use Rattle.std.proofs.lemmas.Bool.{cases_eq, false≢true}
use Rattle.std.proofs.lemmas.List.Sums.{sum_by-cons, sum_by_push}
use Rattle.model_value.specs.Action.{Action}
use Rattle.model_value.specs.declared.action.Action.TheVariants as action
use Rattle.model_value.specs.Value.{Outcome}
use Rattle.model_loop.proofs.FutureCases.{registered, registered_on, settled, settled_as}
use Rattle.model_loop.specs.Cancel.{cancel}
use Rattle.model_loop.specs.Entries.{entries, handles_where}
use Rattle.model_loop.specs.Futures.{asked_kind, make_future, mark_asked, next_future, register, settle, with_future}
use Rattle.model_loop.specs.Handles.{due, soon, soon_all}
use Rattle.model_loop.specs.Loop.{Loop}
use Rattle.model_loop.specs.Parts.{FutureKind, Plain, OfTask, Many, Future, Handle, Parts, Task}
use Rattle.model_loop.specs.Tasks.{change_task, must_still_cancel, next_task, one_more}
use Rattle.model_loop.specs.Totals.{callbacks_at, callbacks_of}
use Rattle.model_machine.specs.Extra.{ExtraStep, MakesPlain, MakesMany, Settles as ExtraSettles, Releases, Registers as ExtraRegisters, made_by, made_by_all}
use Rattle.model_machine.specs.Extra.{CallsSoon as ExtraSoon, CallsLater as ExtraLater, Revokes as ExtraRevokes, Cancels, Uncancels}
use Rattle.model_machine.specs.Sound.{is_extra}
use Rattle.law_cancel.proofs.Effects.{done_as, soon_all-futures}
use Rattle.law_cancel.proofs.Lookups.{get-set_kept, get-set_other, get-set_same}
use Rattle.law_changes.proofs.Folds.{fold}
use Rattle.law_changes.proofs.PartsRows.{cancel_in}
use Rattle.law_changes.specs.Blocks.{OfRequest, cancels, counts, keeps_asked, sets_must_cancel}
use Rattle.law_changes.specs.Changes.{PartsChange, CallsSoon, CallsLater, Revokes, MakesFuture, Settles, Registers, KeepsAsked, MakesTask, WaitsFor}
use Rattle.law_changes.specs.Changes.{SetsMustCancel, ClearsMustCancel, Counts, Uncounts, Passes, FallsDue, LeavesPending, LoopChange, OfParts, MakesTimeout}
use Rattle.law_changes.specs.Changes.{ChangesTimeout, MakesGroup, ChangesGroup, AsksCancel, TakesBack, BeginsExit, made_of_loop, made_of_parts}
use Rattle.law_changes.specs.Reaches.{Reaches}
use Rattle.law_groups.proofs.Due.{due-entries, due-futures}
use Rattle.law_groups.proofs.Entries.{entries-later, entries-revoke, entries-soon}
use Rattle.law_kept.specs.Walks.{MayBeside, MayInLoop}
use Rattle.law_waiters.specs.Timed.{is_key}

abbrev called_at : ℕ → Option Future → ℕ
called_at key found = count_by (is_key key) (callbacks_at found)

abbrev pub NoCallback : ℕ → Parts → Type 0
NoCallback key p = (id : ℕ) → count_by (is_key key) (callbacks_of p id) ≡ 0

-- a test of handles of this key alone
abbrev pub IsOf : ℕ → (ℕ → Action → Bool) → Type 0
IsOf key test = (tag : ℕ) (it : Action) → is_key key it ≡ false → test tag it ≡ false

pub record Fewer (key : ℕ) (p q : Parts) : Type 0 where
  pub none : NoCallback key p → NoCallback key q
  pub few : NoCallback key p → (test : ℕ → Action → Bool) → IsOf key test → entries test q ≤ entries test p

abbrev pub MayFor : ℕ → PartsChange → Parts → Type 0
MayFor key (CallsSoon it) p = is_key key it ≡ false
MayFor key (CallsLater when it) p = is_key key it ≡ false
MayFor key (Registers future it) p = is_key key it ≡ false
MayFor key (LeavesPending rest) p = (handle : Handle) × (p.pending ≡ handle ∷ rest)
MayFor key _ p = Unit {0}

module _ (key : ℕ) where
  fewer_same : (p : Parts) → Fewer key p p
  fewer_same p = record { none = λ h. h; few = λ h test of. omega arith }

  fewer_next : (p q r : Parts) → Fewer key p q → Fewer key q r → Fewer key p r
  fewer_next p q r a b = record {
    none = λ h. b.none (a.none h);
    few = λ h test of. let x = a.few h test of in let y = b.few (a.none h) test of in omega (arith, x, y);
  }

  -- ---- what the changes are made of
  no_callback : (p q : Parts) → q.futures ≡ p.futures → NoCallback key p → NoCallback key q
  no_callback p q same none id = ap (λ fs. called_at key (slice_get fs id)) same ∙ none id

  -- tasks alone
  blind : {X : Type 0} (f : Parts → X) (id : ℕ) (change : Task → Task) (p : Parts)
      → ((tasks : List Task) → f (record p { tasks = tasks }) ≡ f p) → f (change_task id change p) ≡ f p
  blind f id change p same = at (slice_get p.tasks id)
    where
      at : (o : Option Task) → f (option_map_or (λ (it : Task). record p { tasks = slice_set p.tasks id (change it) }) o p) ≡ f p
      at None = refl
      at (Some it) = same (slice_set p.tasks id (change it))

  task_fewer : (id : ℕ) (change : Task → Task) (p : Parts) → Fewer key p (change_task id change p)
  task_fewer id change p = record {
    none = λ none on. blind (λ q. called_at key (slice_get q.futures on)) id change p (λ tasks. refl) ∙ none on;
    few = λ none test of. let e = blind (λ q. entries test q) id change p (λ tasks. refl) in omega (arith, e);
  }

  untested : (test : ℕ → Action → Bool) → IsOf key test → (tag : ℕ) (it : Action) → is_key key it ≡ false → ◌≡◌ {A = ℕ} (cond (test tag it) 1 0) 0
  untested test of tag it other = ap (λ b. cond b 1 0) (of tag it other)

  soon_fewer : (it : Action) (p : Parts) → is_key key it ≡ false → Fewer key p (soon it p)
  soon_fewer it p other = record {
    none = λ none on. none on;
    few = λ none test of. let e = entries-soon test it p in let z = untested test of p.next_tag it other in omega (arith, e, z);
  }

  uncounted : (b : Bool) → ◌≡◌ {A = ℕ} (cond b 1 0) 0 → b ≡ false
  uncounted true e = absurd (omega (arith, e))
  uncounted false e = refl

  soon_all_few : (actions : List Action) (p : Parts) → count_by (is_key key) actions ≡ 0 → (test : ℕ → Action → Bool) → IsOf key test
      → entries test (soon_all actions p) ≡ entries test p
  soon_all_few [] p none test of = refl
  soon_all_few (it ∷ more) p none test of =
      let c = sum_by-cons (λ a. cond (is_key key a) 1 0) it more in
      let first : ◌≡◌ {A = ℕ} (cond (is_key key it) 1 0) 0 = omega (arith, c, none) in
      let rest : count_by (is_key key) more ≡ 0 = omega (arith, c, none) in
      let e = entries-soon test it p in
      let z = untested test of p.next_tag it (uncounted (is_key key it) first) in
      let ih = soon_all_few more (soon it p) rest test of in
      omega (arith, e, z, ih)

  -- a future is changed, so that no callback of this key comes
  set_none : (p q : Parts) (id : ℕ) (old new : Future) → slice_get p.futures id ≡ Some old → called_at key (Some new) ≡ 0
      → q.futures ≡ slice_set p.futures id new → NoCallback key p → NoCallback key q
  set_none p q id old new found zero_new is none other = ap (λ fs. called_at key (slice_get fs other)) is ∙ at (cases_eq id other)
    where
      at : (id ≡ other) ⊎ (id ≡ other → ⊥) → called_at key (slice_get (slice_set p.futures id new) other) ≡ 0
      at (inl e) =
          ap (λ k. called_at key (slice_get (slice_set p.futures id new) k)) (sym e)
          ∙ ap (called_at key) (get-set_same p.futures id old new found) ∙ zero_new
      at (inr n) = ap (called_at key) (get-set_other p.futures id other new n) ∙ none other

  settle_fewer : (id : ℕ) (outcome : Outcome) (p : Parts) → Fewer key p (settle id outcome p)
  settle_fewer id outcome p = at (slice_get p.futures id) refl
    where
      until : (future : Future) (o : Option Outcome) → slice_get p.futures id ≡ Some future → Fewer key p (settled_as o id future outcome p)
      until future (Some done) found = fewer_same p
      until future None found = record {
        none = set_none p (soon_all future.callbacks (with_future id (done_as outcome future) p)) id future (done_as outcome future) found refl
            (soon_all-futures future.callbacks (with_future id (done_as outcome future) p));
        few = λ none test of.
            let mine : count_by (is_key key) future.callbacks ≡ 0 = sym (ap (called_at key) found) ∙ none id in
            let e = soon_all_few future.callbacks (with_future id (done_as outcome future) p) mine test of in
            omega (arith, e);
      }

      at : (f : Option Future) → slice_get p.futures id ≡ f → Fewer key p (settled f id outcome p)
      at None found = fewer_same p
      at (Some future) found = until future future.outcome found

  register_fewer : (id : ℕ) (it : Action) (p : Parts) → is_key key it ≡ false → Fewer key p (register id it p)
  register_fewer id it p other = at (slice_get p.futures id) refl
    where
      until : (future : Future) (o : Option Outcome) → slice_get p.futures id ≡ Some future → Fewer key p (registered_on o id future it p)
      until future (Some done) found = soon_fewer it p other
      until future None found = record {
        none = λ none.
            let new = record future { callbacks = future.callbacks ++ it ∷ [] } in
            let mine : count_by (is_key key) future.callbacks ≡ 0 = sym (ap (called_at key) found) ∙ none id in
            let e = sum_by_push (λ a. cond (is_key key a) 1 0) future.callbacks it in
            let z : ◌≡◌ {A = ℕ} (cond (is_key key it) 1 0) 0 = ap (λ b. cond b 1 0) other in
            set_none p (with_future id new p) id future new found (omega (arith, mine, e, z)) refl none;
        few = λ none test of. omega arith;
      }

      at : (f : Option Future) → slice_get p.futures id ≡ f → Fewer key p (registered f id it p)
      at None found = fewer_same p
      at (Some future) found = until future future.outcome found

  mark_fewer : (id : ℕ) (p : Parts) → Fewer key p (mark_asked id p)
  mark_fewer id p = at (slice_get p.futures id) refl
    where
      at : (f : Option Future) → slice_get p.futures id ≡ f
          → Fewer key p (option_map_or (λ (future : Future). with_future id (record future { kind = asked_kind future.kind }) p) f p)
      at None found = fewer_same p
      at (Some future) found = record {
        none = λ none other. get-set_kept (called_at key) p.futures id other future (record future { kind = asked_kind future.kind }) found refl ∙ none other;
        few = λ none test of. omega arith;
      }

  -- one more is made
  push_none : (fs : List Future) (kind : FutureKind) → ((id : ℕ) → called_at key (slice_get fs id) ≡ 0) → (id : ℕ)
      → called_at key (slice_get (fs ++ record { kind = kind; outcome = None; callbacks = [] } ∷ []) id) ≡ 0
  push_none [] kind none zero = refl
  push_none [] kind none (suc id) = refl
  push_none (x ∷ xs) kind none zero = none 0
  push_none (x ∷ xs) kind none (suc id) = push_none xs kind (λ other. none (suc other)) id

  taken_few : (handle : Handle) (rest : List Handle) (p : Parts) → p.pending ≡ handle ∷ rest → (test : ℕ → Action → Bool)
      → entries test (record p { pending = rest }) ≤ entries test p
  taken_few handle rest p first test =
      let a = ap (handles_where test) first in
      let c = sum_by-cons (λ (h : Handle). cond (not h.dead && test h.tag h.action) 1 0) handle rest in
      omega (arith, a, c)

  -- ---- each change
  pub change_fewer : (change : PartsChange) (p : Parts) → MayFor key change p → Fewer key p (made_of_parts change p)
  change_fewer (CallsSoon it) p may = soon_fewer it p may
  change_fewer (CallsLater when it) p may = record {
    none = λ none on. none on;
    few = λ none test of. let e = entries-later test when it p in let z = untested test of p.next_tag it may in omega (arith, e, z);
  }
  change_fewer (Revokes tag) p may = record {
    none = λ none on. none on;
    few = λ none test of. let e = entries-revoke test tag p in omega (arith, e);
  }
  change_fewer (MakesFuture kind) p may = record { none = λ none. push_none p.futures kind none; few = λ none test of. omega arith }
  change_fewer (Settles future outcome) p may = settle_fewer future outcome p
  change_fewer (Registers future it) p may = register_fewer future it p may
  change_fewer (KeepsAsked future) p may = mark_fewer future p
  change_fewer MakesTask p may =
      let made = make_future (OfTask (next_task p)) p in
      let q = record made { tasks = p.tasks ++ record { future = next_future p; waiter = None; cancels = 0; must_cancel = false } ∷ [] } in
      fewer_next p q (soon (action.Step (next_task p)) q)
      (record { none = λ none. push_none p.futures (OfTask (next_task p)) none; few = λ none test of. omega arith })
      (soon_fewer (action.Step (next_task p)) q refl)
  change_fewer (WaitsFor task on) p may = task_fewer task (λ (it : Task). record it { waiter = on }) p
  change_fewer (SetsMustCancel task) p may = task_fewer task (λ (it : Task). record it { must_cancel = true }) p
  change_fewer (ClearsMustCancel task) p may = task_fewer task (λ (it : Task). record it { must_cancel = false }) p
  change_fewer (Counts task) p may = task_fewer task (λ (it : Task). record it { cancels = one_more it.cancels }) p
  change_fewer (Uncounts profile task) p may =
      task_fewer task (λ (it : Task). record it { cancels = it.cancels - 1; must_cancel = must_still_cancel profile it }) p
  change_fewer (Passes now) p may = record { none = λ none on. none on; few = λ none test of. omega arith }
  change_fewer FallsDue p may = record {
    none = no_callback p (due p) (due-futures p);
    few = λ none test of. let e = due-entries test p in omega (arith, e);
  }
  change_fewer (LeavesPending rest) p may = record { none = λ none on. none on; few = λ none test of. taken_few may.0 rest p may.1 test }

  may_request : (change : PartsChange) (p : Parts) → OfRequest change p → MayFor key change p
  may_request _ p (cancels future) = tt
  may_request _ p (keeps_asked future) = tt
  may_request _ p (counts task) = tt
  may_request _ p (sets_must_cancel task) = tt

  cancel_fewer : (future : ℕ) (p : Parts) → Fewer key p (cancel future p).parts
  cancel_fewer future p = fold (Fewer key) fewer_same fewer_next (λ change q may. change_fewer change q (may_request change q may)) (cancel_in future p)

  not_key : (it : Action) → is_extra it ≡ false → is_key key it ≡ false
  not_key (action.Extra other) e = absurd (false≢true (sym e))
  not_key _ e = refl

  may_for : (change : PartsChange) (p : Parts) → MayBeside change p → MayFor key change p
  may_for (CallsSoon it) p may = not_key it may
  may_for (CallsLater when it) p may = not_key it may
  may_for (Registers future it) p may = not_key it may
  may_for (LeavesPending rest) p may = may
  may_for (Revokes tag) p may = tt
  may_for (MakesFuture kind) p may = tt
  may_for (Settles future outcome) p may = tt
  may_for (KeepsAsked future) p may = tt
  may_for MakesTask p may = tt
  may_for (WaitsFor task on) p may = tt
  may_for (SetsMustCancel task) p may = tt
  may_for (ClearsMustCancel task) p may = tt
  may_for (Counts task) p may = tt
  may_for (Uncounts profile task) p may = tt
  may_for (Passes now) p may = tt
  may_for FallsDue p may = tt

  loop_fewer : (change : LoopChange) (l : Loop) → MayInLoop change l → Fewer key l.parts (made_of_loop change l).parts
  loop_fewer (OfParts change) l may = change_fewer change l.parts (may_for change l.parts may)
  loop_fewer (MakesTimeout task) l may = fewer_same l.parts
  loop_fewer (ChangesTimeout timeout it) l may = fewer_same l.parts
  loop_fewer (MakesGroup parent) l may = fewer_same l.parts
  loop_fewer (ChangesGroup group it) l may = fewer_same l.parts
  loop_fewer (AsksCancel by future) l may = cancel_fewer future l.parts
  loop_fewer (TakesBack by task) l may = change_fewer (Uncounts l.profile task) l.parts tt
  loop_fewer (BeginsExit group) l may = fewer_same l.parts

  pub row_fewer : {l m : Loop} → Reaches made_of_loop MayInLoop l m → Fewer key l.parts m.parts
  row_fewer row =
      fold (λ (l m : Loop). Fewer key l.parts m.parts) (λ l. fewer_same l.parts) (λ l m n a b. fewer_next l.parts m.parts n.parts a b) loop_fewer row

  -- ---- what is added
  abbrev pub StepFor : ExtraStep → Type 0
  StepFor (ExtraRegisters future other) = (other == key) ≡ false
  StepFor (ExtraSoon other) = (other == key) ≡ false
  StepFor (ExtraLater when other) = (other == key) ≡ false
  StepFor _ = Unit {0}

  pub step_fewer : (step : ExtraStep) (l : Loop) → StepFor step → Fewer key l.parts (made_by step l).parts
  step_fewer MakesPlain l may = change_fewer (MakesFuture Plain) l.parts tt
  step_fewer (MakesMany members) l may = change_fewer (MakesFuture (Many members false)) l.parts tt
  step_fewer (ExtraSettles future outcome) l may = settle_fewer future outcome l.parts
  step_fewer (Releases future) l may = fewer_same l.parts
  step_fewer (ExtraRegisters future other) l may = register_fewer future (action.Extra other) l.parts may
  step_fewer (ExtraSoon other) l may = soon_fewer (action.Extra other) l.parts may
  step_fewer (ExtraLater when other) l may = change_fewer (CallsLater when (action.Extra other)) l.parts may
  step_fewer (ExtraRevokes tag) l may = change_fewer (Revokes tag) l.parts tt
  step_fewer (Cancels other future) l may = cancel_fewer future l.parts
  step_fewer (Uncancels other task) l may = change_fewer (Uncounts l.profile task) l.parts tt

  pub steps_fewer : (steps : List ExtraStep) (l : Loop) → Each StepFor steps → Fewer key l.parts (made_by_all steps l).parts
  steps_fewer [] l may = fewer_same l.parts
  steps_fewer (step ∷ steps) l may =
      fewer_next l.parts (made_by step l).parts (made_by_all steps (made_by step l)).parts (step_fewer step l may.0) (steps_fewer steps (made_by step l) may.1)
