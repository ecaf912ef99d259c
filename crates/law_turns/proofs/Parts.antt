-- What each change of the parts leaves.
use Rattle.std.proofs.Common.{◌≡◌, ℕ, ◌+◌, ◌≤◌, ◌<◌, ◌⊎◌, inl, inr, Bool, true, false, cond, not, ◌&&◌, List, [], ◌∷◌, Option, Some}
use Rattle.std.proofs.Common.{None, length, slice_get, slice_set, refl, sym, ap, subst, ◌∙◌, le_refl, length-set, arith}
use Rattle.std.specs.List.{count_by}
use Rattle.std.specs.Option.{option_map_or}
use Rattle.std.proofs.lemmas.Bool.{cases_eq, cases_lt, ne_eqb, false≢true}
use Rattle.model_value.specs.Action.{Action}
use Rattle.model_value.specs.declared.outcome.Outcome.TheVariants.{Value as Returned, Failed, Cancelled}
use Rattle.model_value.specs.Value.{Value, Outcome}
use Rattle.model_loop.specs.Entries.{entries}
use Rattle.model_loop.specs.Futures.{outcome_at, is_pending, is_pending_at, next_future}
use Rattle.model_loop.specs.Futures.{settle, with_future}
use Rattle.model_loop.specs.Handles.{later, revoke, soon, soon_all}
use Rattle.model_loop.specs.Owning.{is_plain, is_main_done, owner_at, owner_of}
use Rattle.model_loop.specs.Parts.{Future, Handle, Parts, Task}
use Rattle.model_loop.specs.Tasks.{change_task, future_of, next_task}
use Rattle.model_loop.specs.Totals.{callbacks_at, callbacks_of, pending_where}
use Rattle.model_loop.specs.Ways.{is_running}
use Rattle.model_loop.proofs.FutureCases.{is_plain_at, settled, settled_as}
use Rattle.model_machine.specs.Sound.{IsMainTold}
use Rattle.law_cancel.proofs.Effects.{soon_all-futures, soon_all-tasks, change_task-futures, length-change_task}
use Rattle.law_cancel.proofs.Counting.{change_task-kept}
use Rattle.law_cancel.proofs.Lookups.{get-set_same, get-set_other, get-set_kept}
use Rattle.law_steps.proofs.Looks.{change_task-pending}
use Rattle.law_steps.proofs.Settling.{soon-where, soon_all-where}
use Rattle.law_steps.specs.Frames.{taken}
use Rattle.law_steps.proofs.Stepping.{taken-where}
use Rattle.law_groups.proofs.Entries.{of_tag, entries-soon, entries-later, entries-revoke, revoked_pending}
use Rattle.law_groups.proofs.Quiet.{handles-first}
use Rattle.law_turns.specs.After.{is_step, HasIn, OutcomeIn, IsAfter}

module _ (test : Value → Bool) (grown : Bool) where
  -- ---- one after another
  pub refl_after : (excused : Option ℕ) (p : Parts) → IsAfter test grown excused p p
  refl_after excused p = record {
    next = le_refl p.next_tag;
    tags = λ kind tag h. le_refl _;
    steps = λ task h. le_refl _;
    futures = le_refl _;
    tasks = le_refl _;
    same = λ g. refl;
    owned = λ task h. refl;
    pends = λ id h. inl h;
    plain = λ id h. h;
    owners = λ id h. refl;
    outcomes = λ h. h;
    main = λ h. h;
  }

  pub after_on : (excused : Option ℕ) (p q r : Parts) → IsAfter test grown excused q r → IsAfter test grown excused p q → IsAfter test grown excused p r
  after_on excused p q r b a = record {
    next = let x = a.next in let y = b.next in omega (arith, x, y);
    tags = λ kind tag h.
        let n = a.next in
        let x = a.tags kind tag h in
        let y = b.tags kind tag (omega (arith, h, n)) in
        omega (arith, x, y);
    steps = λ task h. let x = a.steps task h in let y = b.steps task h in omega (arith, x, y);
    futures = let x = a.futures in let y = b.futures in omega (arith, x, y);
    tasks = let x = a.tasks in let y = b.tasks in omega (arith, x, y);
    same = λ g. b.same g ∙ a.same g;
    owned = λ task h. let n = a.tasks in b.owned task (omega (arith, h, n)) ∙ a.owned task h;
    pends = λ id h. before id (b.pends id h);
    plain = λ id h. b.plain id (a.plain id h);
    owners = λ id h. let n = a.futures in b.owners id (omega (arith, h, n)) ∙ a.owners id h;
    outcomes = λ h. b.outcomes (a.outcomes h);
    main = λ h. b.main (a.main h);
  }
    where
      before : (id : ℕ) → (is_pending q id ≡ true) ⊎ (next_future q ≤ id) → (is_pending p id ≡ true) ⊎ (next_future p ≤ id)
      before id (inl h) = a.pends id h
      before id (inr h) = let n = a.futures in inr (omega (arith, n, h))

  -- ---- where futures and tasks' futures are the same
  main_same : (p q : Parts) → q.futures ≡ p.futures → next_task p ≤ next_task q → future_of q 0 ≡ future_of p 0
      → pending_where is_main_done q.pending ≤ pending_where is_main_done p.pending → IsMainTold p → IsMainTold q
  main_same p q fs ts own fewer m = record {
    made = let a = m.made in omega (arith, a, ts);
    there = let a = m.there in let b : next_future q ≡ next_future p = ap length fs in omega (arith, a, b, own);
    registered = λ id h. m.registered id (subst (λ (l : List Future). 0 < count_by is_main_done (callbacks_at (slice_get l id))) fs h) ∙ sym own;
    pending = λ h. ap (is_pending q) own ∙ ap (λ (l : List Future). is_pending_at (slice_get l (future_of p 0))) fs ∙ m.pending (omega (arith, h, fewer));
  }

  pub same_after : (excused : Option ℕ) (p q : Parts) → q.futures ≡ p.futures → next_task q ≡ next_task p
      → ((task : ℕ) → future_of q task ≡ future_of p task) → p.next_tag ≤ q.next_tag
      → ((kind : ℕ → Action → Bool) (tag : ℕ) → tag < p.next_tag → entries (of_tag tag kind) q ≤ entries (of_tag tag kind) p)
      → ((task : ℕ) → is_running excused task ≡ false → pending_where (is_step task) p.pending ≤ pending_where (is_step task) q.pending)
      → pending_where is_main_done q.pending ≤ pending_where is_main_done p.pending → IsAfter test grown excused p q
  same_after excused p q fs ts own next tags steps fewer = record {
    next = next;
    tags = tags;
    steps = steps;
    futures = let b : next_future q ≡ next_future p = ap length fs in omega (arith, b);
    tasks = omega (arith, ts);
    same = λ g. ts;
    owned = λ task h. own task;
    pends = λ id h. inl (sym (ap (λ (l : List Future). is_pending_at (slice_get l id)) fs) ∙ h);
    plain = λ id h. ap (λ (l : List Future). is_plain_at (slice_get l id)) fs ∙ h;
    owners = λ id h. ap (λ (l : List Future). owner_at (slice_get l id)) fs;
    outcomes = λ h id value e. h id value (sym (ap (λ (l : List Future). outcome_at (slice_get l id)) fs) ∙ e);
    main = main_same p q fs (omega (arith, ts)) (own 0) fewer;
  }

  -- ---- handles and timers
  new_tag : (kind : ℕ → Action → Bool) (tag next : ℕ) (action : Action) → tag < next → ◌≡◌ {A = ℕ} (cond (of_tag tag kind next action) 1 0) 0
  new_tag kind tag next action h = ap (λ b. cond (b && kind next action) 1 0) (ne_eqb next tag (λ e. absurd (omega (arith, h, e))))

  pub soon_after : (excused : Option ℕ) (action : Action) (p : Parts) → is_main_done action ≡ false → IsAfter test grown excused p (soon action p)
  soon_after excused action p other =
      same_after excused p (soon action p) refl refl (λ t. refl) (omega arith)
      (λ kind tag h. let a = entries-soon (of_tag tag kind) action p in let b = new_tag kind tag p.next_tag action h in omega (arith, a, b))
      (λ task h. let a = soon-where (is_step task) action p in omega (arith, a))
      (let a = soon-where is_main_done action p in let b : ◌≡◌ {A = ℕ} (cond (is_main_done action) 1 0) 0 = ap (λ x. cond x 1 0) other in omega (arith, a, b))

  pub later_after : (excused : Option ℕ) (when : ℕ) (action : Action) (p : Parts) → IsAfter test grown excused p (later when action p)
  later_after excused when action p =
      same_after excused p (later when action p) refl refl (λ t. refl) (omega arith)
      (λ kind tag h. let a = entries-later (of_tag tag kind) when action p in let b = new_tag kind tag p.next_tag action h in omega (arith, a, b))
      (λ task h. le_refl _) (le_refl _)

  -- a tag that names no step
  pub revoke_after : (excused : Option ℕ) (tag : ℕ) (p : Parts)
      → ((task : ℕ) → entries (of_tag tag (λ other. is_step task)) p ≡ 0) → IsAfter test grown excused p (revoke tag p)
  revoke_after excused tag p none =
      same_after excused p (revoke tag p) refl refl (λ t. refl) (omega arith)
      (λ kind other h. let a = entries-revoke (of_tag other kind) tag p in omega (arith, a))
      (λ task h. let a = revoked_pending (λ other. is_step task) tag p.pending in let b = none task in omega (arith, a, b))
      (let a = revoked_pending (λ other. is_main_done) tag p.pending in omega (arith, a))

  -- the first handle is taken out, a step of nobody else
  pub taken_after : (excused : Option ℕ) (handle : Handle) (rest : List Handle) (p : Parts) → p.pending ≡ handle ∷ rest
      → ((task : ℕ) → is_running excused task ≡ false → (not handle.dead && is_step task handle.action) ≡ false)
      → IsAfter test grown excused p (taken rest p)
  taken_after excused handle rest p first none =
      same_after excused p (taken rest p) refl refl (λ t. refl) (omega arith)
      (λ kind tag h. let a = handles-first (of_tag tag kind) handle rest p first in omega (arith, a))
      (λ task h.
      let a = taken-where (is_step task) handle rest p first in
      let b : ◌≡◌ {A = ℕ} (cond (not handle.dead && is_step task handle.action) 1 0) 0 = ap (λ x. cond x 1 0) (none task h) in
      omega (arith, a, b))
      (let a = taken-where is_main_done handle rest p first in omega (arith, a))

  -- ---- tasks
  pub change_after : (excused : Option ℕ) (id : ℕ) (change : Task → Task) (p : Parts) → ((t : Task) → (change t).future ≡ t.future)
      → IsAfter test grown excused p (change_task id change p)
  change_after excused id change p future =
      same_after excused p (change_task id change p) (change_task-futures id change p) (length-change_task id change p) own next
      (λ kind tag h. entered kind tag)
      (λ task h. let e = ap (pending_where (is_step task)) (change_task-pending id change p) in omega (arith, e))
      (let e = ap (pending_where is_main_done) (change_task-pending id change p) in omega (arith, e))
    where
      own : (task : ℕ) → future_of (change_task id change p) task ≡ future_of p task
      own task =
          change_task-kept (λ (o : Option Task). option_map_or (λ (t : Task). t.future) o (next_future (change_task id change p))) id change p
          (λ t. future t) task
          ∙ ap (λ (l : List Future). option_map_or (λ (t : Task). t.future) (slice_get p.tasks task) (length l)) (change_task-futures id change p)

      next : p.next_tag ≤ (change_task id change p).next_tag
      next = at (slice_get p.tasks id)
        where
          at : (o : Option Task) → p.next_tag ≤ (option_map_or (λ (t : Task). record p { tasks = slice_set p.tasks id (change t) }) o p).next_tag
          at None = le_refl _
          at (Some t) = le_refl _

      entered : (kind : ℕ → Action → Bool) (tag : ℕ) → entries (of_tag tag kind) (change_task id change p) ≤ entries (of_tag tag kind) p
      entered kind tag = at (slice_get p.tasks id)
        where
          at : (o : Option Task)
              → entries (of_tag tag kind) (option_map_or (λ (t : Task). record p { tasks = slice_set p.tasks id (change t) }) o p) ≤ entries (of_tag tag kind) p
          at None = le_refl _
          at (Some t) = le_refl _

  -- ---- an outcome
  soon_all-next : (actions : List Action) (p : Parts) → p.next_tag ≤ (soon_all actions p).next_tag
  soon_all-next [] p = le_refl _
  soon_all-next (a ∷ actions) p = let x = soon_all-next actions (soon a p) in omega (arith, x)

  soon_all-tags : (actions : List Action) (p : Parts) (kind : ℕ → Action → Bool) (tag : ℕ) → tag < p.next_tag
      → entries (of_tag tag kind) (soon_all actions p) ≤ entries (of_tag tag kind) p
  soon_all-tags [] p kind tag h = le_refl _
  soon_all-tags (x ∷ actions) p kind tag h =
      let ih = soon_all-tags actions (soon x p) kind tag (omega (arith, h)) in
      let a = entries-soon (of_tag tag kind) x p in
      let b = new_tag kind tag p.next_tag x h in
      omega (arith, ih, a, b)

  module _ (id : ℕ) (outcome : Outcome) (p : Parts) (future : Future) (e : slice_get p.futures id ≡ Some future)
      (open_ : future.outcome ≡ None) where
    abbrev ended : Future
    ended = record future { outcome = Some outcome; callbacks = [] }

    abbrev after : Parts
    after = soon_all future.callbacks (with_future id ended p)

    fs : after.futures ≡ slice_set p.futures id ended
    fs = soon_all-futures future.callbacks (with_future id ended p)

    ts : after.tasks ≡ p.tasks
    ts = soon_all-tasks future.callbacks (with_future id ended p)

    made : next_future after ≡ next_future p
    made = ap length fs ∙ length-set p.futures id ended

    own : (task : ℕ) → future_of after task ≡ future_of p task
    own task =
        ap (λ (l : List Task). option_map_or (λ (t : Task). t.future) (slice_get l task) (next_future after)) ts
        ∙ ap (λ n. option_map_or (λ (t : Task). t.future) (slice_get p.tasks task) n) made

    at_id : (j : ℕ) → id ≡ j → slice_get after.futures j ≡ Some ended
    at_id j same =
        subst (λ k. slice_get after.futures k ≡ Some ended) same
        (ap (λ (l : List Future). slice_get l id) fs ∙ get-set_same p.futures id future ended e)

    at_other : (j : ℕ) → (id ≡ j → ⊥) → slice_get after.futures j ≡ slice_get p.futures j
    at_other j n = ap (λ (l : List Future). slice_get l j) fs ∙ get-set_other p.futures id j ended n

    is_done : is_pending after id ≡ false
    is_done = ap is_pending_at (at_id id refl)

    called : (kind : Action → Bool) → pending_where kind after.pending ≡ pending_where kind p.pending + count_by kind future.callbacks
    called kind = soon_all-where kind future.callbacks (with_future id ended p)

    pends : (j : ℕ) → is_pending after j ≡ true → is_pending p j ≡ true
    pends j h = at (cases_eq id j)
      where
        at : (id ≡ j) ⊎ (id ≡ j → ⊥) → is_pending p j ≡ true
        at (inl same) = absurd (false≢true (sym (ap is_pending_at (at_id j same)) ∙ h))
        at (inr n) = sym (ap is_pending_at (at_other j n)) ∙ h

    plains : (j : ℕ) → is_plain after j ≡ is_plain p j
    plains j =
        ap (λ (l : List Future). is_plain_at (slice_get l j)) fs
        ∙ get-set_kept is_plain_at p.futures id j future ended e refl

    ownings : (j : ℕ) → owner_of after j ≡ owner_of p j
    ownings j =
        ap (λ (l : List Future). owner_at (slice_get l j)) fs
        ∙ get-set_kept owner_at p.futures id j future ended e refl

    callbacks : (j : ℕ) (kind : Action → Bool) → 0 < count_by kind (callbacks_of after j) → 0 < count_by kind (callbacks_of p j)
    callbacks j kind h = at (cases_eq id j)
      where
        at : (id ≡ j) ⊎ (id ≡ j → ⊥) → 0 < count_by kind (callbacks_of p j)
        at (inl same) = absurd (let z = ap (λ o. count_by kind (callbacks_at o)) (at_id j same) in omega (arith, z, h))
        at (inr n) = subst (λ o. 0 < count_by kind (callbacks_at o)) (at_other j n) h

    outcomes : OutcomeIn test outcome → HasIn test p → HasIn test after
    outcomes good has j value is = at (cases_eq id j)
      where
        of_it : (o : Outcome) → OutcomeIn test o → Some o ≡ Some (Returned value) → test value ≡ true
        of_it (Returned v) g same = subst (λ x. OutcomeIn test (option_map_or (λ y. y) x Cancelled)) same g
        of_it (Failed fault) g same = absurd (cc)
        of_it Cancelled g same = absurd (cc)

        at : (id ≡ j) ⊎ (id ≡ j → ⊥) → test value ≡ true
        at (inl same) = of_it outcome good (sym (ap outcome_at (at_id j same)) ∙ is)
        at (inr n) = has j value (sym (ap outcome_at (at_other j n)) ∙ is)

    told : IsMainTold p → IsMainTold after
    told m = record {
      made = let a = m.made in let b : next_task after ≡ next_task p = ap length ts in omega (arith, a, b);
      there = let a = m.there in let b = made in let c = own 0 in omega (arith, a, b, c);
      registered = λ j h. m.registered j (callbacks j is_main_done h) ∙ sym (own 0);
      pending = λ h. ap (is_pending after) (own 0) ∙ over (cases_lt 0 (count_by is_main_done future.callbacks)) h;
    }
      where
        done_stays : (j : ℕ) → is_pending p j ≡ false → is_pending after j ≡ false
        done_stays j d = at (is_pending after j) refl
          where
            at : (b : Bool) → is_pending after j ≡ b → is_pending after j ≡ false
            at false x = x
            at true x = absurd (false≢true (sym d ∙ pends j x))

        over : (0 < count_by is_main_done future.callbacks) ⊎ (count_by is_main_done future.callbacks ≤ 0)
            → 0 < pending_where is_main_done after.pending → is_pending after (future_of p 0) ≡ false
        over (inl some) h =
            subst (λ j. is_pending after j ≡ false)
            (m.registered id (subst (λ o. 0 < count_by is_main_done (callbacks_at o)) (sym e) some)) is_done
        over (inr none) h = let c = called is_main_done in done_stays (future_of p 0) (m.pending (omega (arith, c, none, h)))

    ended_after : (excused : Option ℕ) → OutcomeIn test outcome → IsAfter test grown excused p after
    ended_after excused good = record {
      next = soon_all-next future.callbacks (with_future id ended p);
      tags = λ kind tag h. soon_all-tags future.callbacks (with_future id ended p) kind tag h;
      steps = λ task h. let c = called (is_step task) in omega (arith, c);
      futures = let a = made in omega (arith, a);
      tasks = let b : next_task after ≡ next_task p = ap length ts in omega (arith, b);
      same = λ g. ap length ts;
      owned = λ task h. own task;
      pends = λ j h. inl (pends j h);
      plain = λ j h. plains j ∙ h;
      owners = λ j h. ownings j;
      outcomes = outcomes good;
      main = told;
    }

  pub settle_after : (excused : Option ℕ) (id : ℕ) (outcome : Outcome) (p : Parts) → OutcomeIn test outcome
      → IsAfter test grown excused p (settle id outcome p)
  settle_after excused id outcome p good = at (slice_get p.futures id) refl
    where
      until : (future : Future) → slice_get p.futures id ≡ Some future → (o : Option Outcome) → future.outcome ≡ o
          → IsAfter test grown excused p (settled_as o id future outcome p)
      until future e (Some done) o = refl_after excused p
      until future e None o = ended_after id outcome p future e o excused good

      at : (o : Option Future) → slice_get p.futures id ≡ o → IsAfter test grown excused p (settled o id outcome p)
      at None e = refl_after excused p
      at (Some future) e = until future e future.outcome refl
