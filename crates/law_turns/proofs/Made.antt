-- What is registered, made and due: what it leaves.
use Rattle.std.proofs.Common.{◌≡◌, ℕ, zero, suc, ◌+◌, ◌≤◌, ◌<◌, ◌⊎◌, inl, inr, Bool, true, false, cond, List, [], ◌∷◌, ◌++◌, Option, Some, None}
use Rattle.std.proofs.Common.{length, slice_get, slice_set, refl, sym, ap, ◌∙◌, le_refl, length-append, length-set, arith}
use Rattle.std.specs.List.{count_by}
use Rattle.std.specs.Option.{option_map_or}
use Rattle.std.proofs.lemmas.Bool.{cases_eq, cases_lt, false≢true}
use Rattle.std.proofs.lemmas.List.Sums.{sum_by_push}
use Rattle.std.proofs.lemmas.Option.{none-some, slice_get_past}
use Rattle.model_value.specs.Action.{Action}
use Rattle.model_value.specs.declared.action.Action.TheVariants.{MainDone, Step}
use Rattle.model_value.specs.Value.{Value, Outcome}
use Rattle.model_loop.specs.Entries.{AreTimed, untimed}
use Rattle.model_loop.specs.Futures.{outcome_at, is_pending, is_pending_at, make_future, mark_asked, asked_kind, next_future, register}
use Rattle.model_loop.specs.Futures.{with_future}
use Rattle.model_loop.specs.Handles.{due}
use Rattle.model_loop.specs.Owning.{is_plain, is_main_done, owner_at, owner_in}
use Rattle.model_loop.specs.Parts.{Future, FutureKind, Plain, OfTask, Many, Parts, Task, Timer}
use Rattle.model_loop.specs.Tasks.{future_of, lives, next_task, spawn}
use Rattle.model_loop.specs.Totals.{callbacks_at}
use Rattle.model_loop.proofs.FutureCases.{is_plain_at, is_plain_kind, registered, registered_on}
use Rattle.model_machine.specs.Sound.{IsMainTold}
use Rattle.law_cancel.proofs.Effects.{asked_as}
use Rattle.law_cancel.proofs.Lookups.{get-set_kept, get-push_last, get-push_other}
use Rattle.law_steps.proofs.Settling.{count_fewer}
use Rattle.law_groups.proofs.Due.{due-entries, due-futures, due-next, due-tasks, late_fewer}
use Rattle.law_groups.proofs.Entries.{of_tag}
use Rattle.law_turns.specs.After.{is_step, IsAfter}
use Rattle.law_turns.proofs.Parts.{refl_after, after_on, same_after, soon_after}

none_past : {A : Type 0} (xs : List A) (place : ℕ) → slice_get xs place ≡ None → length xs ≤ place
none_past [] place e = omega arith
none_past (x ∷ xs) zero e = absurd (none-some x (sym e))
none_past (x ∷ xs) (suc place) e = let a = none_past xs place e in omega (arith, a)

-- ---- one future changes, and nothing that is looked at
module _ (test : Value → Bool) (grown : Bool) (excused : Option ℕ) (id : ℕ) (p : Parts) (old new : Future) (e : slice_get p.futures id ≡ Some old) where
  abbrev changed : Parts
  changed = with_future id new p

  kept_view : {Y : Type 0} (f : Option Future → Y) → f (Some new) ≡ f (Some old) → (j : ℕ)
      → f (slice_get (slice_set p.futures id new) j) ≡ f (slice_get p.futures j)
  kept_view f same j = get-set_kept f p.futures id j old new e same

  pub future_after : new.outcome ≡ old.outcome → is_plain_kind new.kind ≡ is_plain_kind old.kind → owner_in new.kind ≡ owner_in old.kind
      → count_by is_main_done new.callbacks ≡ count_by is_main_done old.callbacks → IsAfter test grown excused p changed
  future_after outcome plain owner callbacks = record {
    next = le_refl _;
    tags = λ kind tag h. le_refl _;
    steps = λ task h. le_refl _;
    futures = omega (arith, length-set p.futures id new);
    tasks = le_refl _;
    same = λ g. refl;
    owned = λ task h. own task;
    pends = λ j h. inl (sym (kept_view is_pending_at (ap (λ o. is_pending_at (Some (record old { outcome = o }))) outcome) j) ∙ h);
    plain = λ j h. kept_view is_plain_at plain j ∙ h;
    owners = λ j h. kept_view owner_at owner j;
    outcomes = λ has j value is. has j value (sym (kept_view outcome_at outcome j) ∙ is);
    main = λ m. record {
      made = m.made;
      there = let a = m.there in let b = length-set p.futures id new in let c = own 0 in omega (arith, a, b, c);
      registered = λ j h.
          m.registered j (let c = kept_view (λ o. count_by is_main_done (callbacks_at o)) callbacks j in omega (arith, c, h)) ∙ sym (own 0);
      pending = λ h. ap (is_pending changed) (own 0)
          ∙ kept_view is_pending_at (ap (λ o. is_pending_at (Some (record old { outcome = o }))) outcome) (future_of p 0) ∙ m.pending h;
    };
  }
    where
      own : (task : ℕ) → future_of changed task ≡ future_of p task
      own task = ap (λ n. option_map_or (λ (t : Task). t.future) (slice_get p.tasks task) n) (length-set p.futures id new)

pub register_after : (test : Value → Bool) (grown : Bool) (excused : Option ℕ) (id : ℕ) (action : Action) (p : Parts) → is_main_done action ≡ false
    → IsAfter test grown excused p (register id action p)
register_after test grown excused id action p other = at (slice_get p.futures id) refl
  where
    until : (future : Future) → slice_get p.futures id ≡ Some future → (o : Option Outcome)
        → IsAfter test grown excused p (registered_on o id future action p)
    until future e (Some done) = soon_after test grown excused action p other
    until future e None =
        future_after test grown excused id p future (record future { callbacks = future.callbacks ++ action ∷ [] }) e refl refl refl
        (let a = sum_by_push (λ (x : Action). cond (is_main_done x) 1 0) future.callbacks action in
        let b : ◌≡◌ {A = ℕ} (cond (is_main_done action) 1 0) 0 = ap (λ x. cond x 1 0) other in omega (arith, a, b))

    at : (o : Option Future) → slice_get p.futures id ≡ o → IsAfter test grown excused p (registered o id action p)
    at None e = refl_after test grown excused p
    at (Some future) e = until future e future.outcome

pub asked_after : (test : Value → Bool) (grown : Bool) (excused : Option ℕ) (id : ℕ) (p : Parts) → IsAfter test grown excused p (mark_asked id p)
asked_after test grown excused id p = at (slice_get p.futures id) refl
  where
    plain : (kind : FutureKind) → is_plain_kind (asked_kind kind) ≡ is_plain_kind kind
    plain Plain = refl
    plain (OfTask task) = refl
    plain (Many members asked) = refl

    owner : (kind : FutureKind) → owner_in (asked_kind kind) ≡ owner_in kind
    owner Plain = refl
    owner (OfTask task) = refl
    owner (Many members asked) = refl

    at : (o : Option Future) → slice_get p.futures id ≡ o
        → IsAfter test grown excused p (option_map_or (λ (f : Future). with_future id (asked_as f) p) o p)
    at None e = refl_after test grown excused p
    at (Some future) e = future_after test grown excused id p future (asked_as future) e refl (plain future.kind) (owner future.kind) refl

-- ---- what is made
module _ (test : Value → Bool) (grown : Bool) (excused : Option ℕ) (p : Parts) where
  module _ (kind : FutureKind) where
    abbrev q : Parts
    q = make_future kind p

    new_view : {Y : Type 0} (f : Option Future → Y) → f (Some (record { kind = kind; outcome = None; callbacks = [] })) ≡ f None → (j : ℕ)
        → f (slice_get q.futures j) ≡ f (slice_get p.futures j)
    new_view f same j = go (cases_eq j (length p.futures))
      where
        go : (j ≡ length p.futures) ⊎ (j ≡ length p.futures → ⊥) → f (slice_get q.futures j) ≡ f (slice_get p.futures j)
        go (inl e) =
            ap (λ i. f (slice_get q.futures i)) e ∙ ap f (get-push_last p.futures _) ∙ same
            ∙ sym (ap (λ i. f (slice_get p.futures i)) e ∙ ap f (slice_get_past p.futures (length p.futures) (omega arith)))
        go (inr n) = ap f (get-push_other p.futures _ j n)

    is_new : (j : ℕ) → is_pending q j ≡ true → (is_pending p j ≡ true) ⊎ (next_future p ≤ j)
    is_new j h = go (cases_lt j (length p.futures))
      where
        go : (j < length p.futures) ⊎ (length p.futures ≤ j) → (is_pending p j ≡ true) ⊎ (next_future p ≤ j)
        go (inl l) = inl (sym (ap is_pending_at (get-push_other p.futures _ j (λ e. absurd (omega (arith, l, e))))) ∙ h)
        go (inr past) = inr past

    old_plain : (j : ℕ) → is_plain p j ≡ true → is_plain q j ≡ true
    old_plain j h = go (cases_eq j (length p.futures))
      where
        go : (j ≡ length p.futures) ⊎ (j ≡ length p.futures → ⊥) → is_plain q j ≡ true
        go (inl e) =
            absurd (false≢true (sym (ap (is_plain p) e ∙ ap is_plain_at (slice_get_past p.futures (length p.futures) (omega arith))) ∙ h))
        go (inr n) = ap is_plain_at (get-push_other p.futures _ j n) ∙ h

    longer : length q.futures ≡ length p.futures + 1
    longer = length-append p.futures _

    own : (task : ℕ) → task < next_task p → future_of q task ≡ future_of p task
    own task within = at (slice_get p.tasks task) refl
      where
        at : (o : Option Task) → slice_get p.tasks task ≡ o
            → option_map_or (λ (t : Task). t.future) o (next_future q) ≡ option_map_or (λ (t : Task). t.future) o (next_future p)
        at (Some t) e = refl
        at None e = absurd (omega (arith, within, none_past p.tasks task e))

    pub make_after : IsAfter test grown excused p q
    make_after = record {
      next = le_refl _;
      tags = λ kind tag h. le_refl _;
      steps = λ task h. le_refl _;
      futures = let a = longer in omega (arith, a);
      tasks = le_refl _;
      same = λ g. refl;
      owned = own;
      pends = is_new;
      plain = old_plain;
      owners = λ id h. ap owner_at (get-push_other p.futures _ id (λ e. absurd (omega (arith, h, e))));
      outcomes = λ has j value is. has j value (sym (new_view outcome_at refl j) ∙ is);
      main = λ m. record {
        made = m.made;
        there = let a = m.there in let b = longer in let c = own 0 m.made in omega (arith, a, b, c);
        registered = λ j h.
            m.registered j (let c = new_view (λ o. count_by is_main_done (callbacks_at o)) refl j in omega (arith, c, h)) ∙ sym (own 0 m.made);
        pending = λ h. ap (is_pending q) (own 0 m.made) ∙ over m (m.pending h);
      };
    }
      where
        over : (m : IsMainTold p) → lives p 0 ≡ false → is_pending q (future_of p 0) ≡ false
        over m d =
            let n = m.there in ap is_pending_at (get-push_other p.futures _ (future_of p 0) (λ e. absurd (omega (arith, n, e)))) ∙ d

  -- a task is added
  abbrev with_task : Task → Parts
  with_task it = record p { tasks = p.tasks ++ it ∷ [] }

  pub task_after : (it : Task) → IsAfter test true excused p (with_task it)
  task_after it = record {
    next = le_refl _;
    tags = λ kind tag h. le_refl _;
    steps = λ task h. le_refl _;
    futures = le_refl _;
    tasks = let a = length-append p.tasks (it ∷ []) in omega (arith, a);
    same = λ g. absurd (false≢true (sym g));
    owned = λ task h. own task h;
    pends = λ j h. inl h;
    plain = λ j h. h;
    owners = λ id h. refl;
    outcomes = λ has. has;
    main = λ m. record {
      made = let a = length-append p.tasks (it ∷ []) in omega (arith, a);
      there = let a = m.there in let c = own 0 m.made in omega (arith, a, c);
      registered = λ j h. m.registered j h ∙ sym (own 0 m.made);
      pending = λ h. ap (is_pending p) (own 0 m.made) ∙ m.pending h;
    };
  }
    where
      own : (task : ℕ) → task < next_task p → future_of (with_task it) task ≡ future_of p task
      own task h =
          ap (λ (o : Option Task). option_map_or (λ (t : Task). t.future) o (next_future p))
          (get-push_other p.tasks it task (λ e. absurd (omega (arith, h, e))))

pub spawn_after : (test : Value → Bool) (excused : Option ℕ) (p : Parts) → IsAfter test true excused p (spawn p)
spawn_after test excused p =
    let made = make_future (OfTask (next_task p)) p in
    let it : Task = record { future = next_future p; waiter = None; cancels = 0; must_cancel = false } in
    after_on test true excused p made (spawn p)
    (after_on test true excused made (record made { tasks = made.tasks ++ it ∷ [] }) (spawn p)
    (soon_after test true excused (Step (next_task p)) (record made { tasks = made.tasks ++ it ∷ [] }) refl)
    (task_after test true excused made it))
    (make_after test true excused p (OfTask (next_task p)))

-- ---- timers fall due
main_untimed : (action : Action) → is_main_done action ≡ true → untimed 0 action ≡ true
main_untimed MainDone h = refl
main_untimed _ h = absurd (false≢true h)

pub due_after : (test : Value → Bool) (grown : Bool) (excused : Option ℕ) (p : Parts) → AreTimed p → IsAfter test grown excused p (due p)
due_after test grown excused p timed =
    same_after test grown excused p (due p) (due-futures p) (ap length (due-tasks p))
    (λ task. ap (λ (l : List Task). option_map_or (λ (t : Task). t.future) (slice_get l task) (next_future (due p))) (due-tasks p)
    ∙ ap (λ (l : List Future). option_map_or (λ (t : Task). t.future) (slice_get p.tasks task) (length l)) (due-futures p))
    (let a = due-next p in omega (arith, a))
    (λ kind tag h. let a = due-entries (of_tag tag kind) p in omega (arith, a))
    (λ task h. let a = due-entries (λ tag. is_step task) p in let b = late_fewer (λ tag. is_step task) p in omega (arith, a, b))
    (let a = due-entries (λ tag. is_main_done) p in
    let b = count_fewer (λ (t : Timer). is_main_done t.action) (λ (t : Timer). untimed t.tag t.action) (λ t h. main_untimed t.action h) p.timers in
    let c = timed.timers in
    omega (arith, a, b, c))
