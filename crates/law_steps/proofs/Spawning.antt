-- A new task keeps the parts sound.
use Rattle.std.proofs.Common.{◌≡◌, ◌↔◌, ℕ, zero, suc, ◌+◌, ◌<◌, ◌⊎◌, Bool, true, false, cond, not, ◌&&◌, [], ◌∷◌, Option, Some, None, length, option_map}
use Rattle.std.proofs.Common.{slice_get, refl, ap, sym, subst, ◌∙◌, inl, inr, arith, length-append}
use Rattle.std.proofs.lemmas.Bool.{cases_eq, cases_Bool, false≢true, eq-eqb, ne_eqb}
use Rattle.std.proofs.lemmas.Option.{same_Some, none-some, slice_get_within, slice_get_past}
use Rattle.std.proofs.lemmas.List.Sums.{sum_by_push}
use Rattle.std.specs.List.{count_by}
use Rattle.std.specs.Option.{option_map_or}
use Rattle.model_value.specs.Action.{Action}
use Rattle.model_value.specs.declared.action.Action.TheVariants.{Step}
use Rattle.model_loop.specs.Parts.{OfTask, Handle, Future, Task, Parts}
use Rattle.model_loop.specs.Futures.{is_pending, is_pending_at}
use Rattle.model_loop.specs.Tasks.{lives, waiter_of, future_of, must_cancel_of, spawn}
use Rattle.model_loop.specs.Spent.{spent_by, spent_below}
use Rattle.model_loop.specs.Ways.{one_if, steps, wakeups_on, is_running, ways, wanted, wakes, resumes}
use Rattle.model_loop.specs.Totals.{callbacks_of, callbacks_at, pending_where, registered_at, total}
use Rattle.model_loop.specs.MustCancel.{MayKeepMustCancel}
use Rattle.law_cancel.proofs.Lookups.{get-push_last, get-push_other}
use Rattle.law_cancel.proofs.Answering.{spent_by_same}
use Rattle.model_loop.specs.Owning.{owner_at, owner_of, own_future, OwnsFutures, is_no_callback}
use Rattle.model_loop.specs.Sound.{ArePartsSound}
use Rattle.law_steps.proofs.Looks.{future_of-owned}

-- spent futures below a number are told by the futures below it
pub spent_same : (b : ℕ) (p q : Parts) (m : ℕ) → ((j : ℕ) → j < m → slice_get q.futures j ≡ slice_get p.futures j) → (id : ℕ) → id < m
    → spent_below b q id ≡ spent_below b p id
spent_same zero p q m same id h = refl
spent_same (suc b) p q m same id h =
    ap (λ o. spent_by (spent_below b q) o id) (same id h)
    ∙ spent_by_same (spent_below b q) (spent_below b p) id (λ j below. spent_same b p q m same j (omega (arith, below, h))) (slice_get p.futures id)

module _ (running excused : Option ℕ) (p : Parts) (is : ArePartsSound running excused p) where
  abbrev m : ℕ
  m = length p.futures

  abbrev n : ℕ
  n = length p.tasks

  abbrev future : Future
  future = record { kind = OfTask (length p.tasks); outcome = None; callbacks = [] }

  abbrev it : Task
  it = record { future = length p.futures; waiter = None; cancels = 0; must_cancel = false }

  -- ---- field by field
  pub new_future : slice_get (spawn p).futures (length p.futures) ≡ Some future
  new_future = get-push_last p.futures future

  pub old_future : (j : ℕ) → (j ≡ length p.futures → ⊥) → slice_get (spawn p).futures j ≡ slice_get p.futures j
  old_future j k = get-push_other p.futures future j k

  pub new_task : slice_get (spawn p).tasks (length p.tasks) ≡ Some it
  new_task = get-push_last p.tasks it

  pub old_task : (t : ℕ) → (t ≡ length p.tasks → ⊥) → slice_get (spawn p).tasks t ≡ slice_get p.tasks t
  old_task t k = get-push_other p.tasks it t k

  pub no_task : slice_get p.tasks (length p.tasks) ≡ None
  no_task = slice_get_past p.tasks (length p.tasks) (omega arith)

  pub no_future : slice_get p.futures (length p.futures) ≡ None
  no_future = slice_get_past p.futures (length p.futures) (omega arith)

  pub more : length (spawn p).futures ≡ length p.futures + 1
  more = length-append p.futures (future ∷ [])

  pub called : (test : Action → Bool) → pending_where test (spawn p).pending ≡ pending_where test p.pending + cond (test (Step (length p.tasks))) 1 0
  called test = sum_by_push (λ (h : Handle). cond (not h.dead && test h.action) 1 0) p.pending _

  -- ---- who lives
  pub live_in : (t on : ℕ) → own_future p t ≡ Some on → on < length p.futures
  live_in t on e = go (slice_get p.futures on) refl
    where
      owner : owner_of p on ≡ Some t
      owner = (is.owns on t).1 e

      go : (o : Option Future) → slice_get p.futures on ≡ o → on < length p.futures
      go None x = absurd (none-some t (sym (ap owner_at x) ∙ owner))
      go (Some f) x = slice_get_within p.futures on f x

  pub new_lives : lives (spawn p) (length p.tasks) ≡ true
  new_lives =
      let e : future_of (spawn p) (length p.tasks) ≡ length p.futures =
      ap (λ (o : Option Task). option_map_or (λ (x : Task). x.future) o (length (spawn p).futures)) new_task in
      ap (is_pending (spawn p)) e ∙ ap is_pending_at new_future

  pub new_lived_not : lives p (length p.tasks) ≡ false
  new_lived_not =
      let e : future_of p (length p.tasks) ≡ length p.futures =
      ap (λ (o : Option Task). option_map_or (λ (x : Task). x.future) o (length p.futures)) no_task in
      ap (is_pending p) e ∙ ap is_pending_at no_future

  pub old_lives : (t : ℕ) → (t ≡ length p.tasks → ⊥) → lives (spawn p) t ≡ lives p t
  old_lives t k = go (own_future p t) refl
    where
      same : own_future (spawn p) t ≡ own_future p t
      same = ap (option_map (λ (x : Task). x.future)) (old_task t k)

      go : (o : Option ℕ) → own_future p t ≡ o → lives (spawn p) t ≡ lives p t
      go None e =
          let a : future_of (spawn p) t ≡ length (spawn p).futures = future_of-owned (spawn p) t
          ∙ ap (λ o. option_map_or (λ (i : ℕ). i) o (length (spawn p).futures)) (same ∙ e) in
          let b : future_of p t ≡ length p.futures = future_of-owned p t ∙ ap (λ o. option_map_or (λ (i : ℕ). i) o (length p.futures)) e in
          ap (is_pending (spawn p)) a ∙ ap is_pending_at (slice_get_past (spawn p).futures (length (spawn p).futures) (omega arith))
          ∙ sym (ap (is_pending p) b ∙ ap is_pending_at no_future)
      go (Some on) e =
          let a : future_of (spawn p) t ≡ on = future_of-owned (spawn p) t ∙ ap (λ o. option_map_or (λ (i : ℕ). i) o (length (spawn p).futures)) (same ∙ e) in
          let b : future_of p t ≡ on = future_of-owned p t ∙ ap (λ o. option_map_or (λ (i : ℕ). i) o (length p.futures)) e in
          let x = live_in t on e in
          ap (is_pending (spawn p)) a ∙ ap is_pending_at (old_future on (λ y. absurd (omega (arith, x, y)))) ∙ sym (ap (is_pending p) b)

  running_old : (t : ℕ) → is_running running t ≡ true → t ≡ length p.tasks → ⊥
  running_old t r e = false≢true (sym new_lived_not ∙ subst (λ x. lives p x ≡ true) e (is.runs t r))

  -- ---- callbacks and waiters
  pub new_none : (test : Action → Bool) → count_by test (callbacks_of (spawn p) (length p.futures)) ≡ 0
  new_none test = ap (λ o. count_by test (callbacks_at o)) new_future

  pub old_same : (test : Action → Bool) (j : ℕ) → (j ≡ length p.futures → ⊥) → count_by test (callbacks_of (spawn p) j) ≡ count_by test (callbacks_of p j)
  old_same test j k = ap (λ o. count_by test (callbacks_at o)) (old_future j k)

  pub waiter_new : waiter_of (spawn p) (length p.tasks) ≡ None
  waiter_new = ap (λ (o : Option Task). option_map_or (λ (x : Task). x.waiter) o None) new_task

  waiter_was : waiter_of p (length p.tasks) ≡ None
  waiter_was = ap (λ (o : Option Task). option_map_or (λ (x : Task). x.waiter) o None) no_task

  waiter_old : (t : ℕ) → (t ≡ length p.tasks → ⊥) → waiter_of (spawn p) t ≡ waiter_of p t
  waiter_old t k = ap (λ (o : Option Task). option_map_or (λ (x : Task). x.waiter) o None) (old_task t k)

  pub waiter_same : (t : ℕ) → waiter_of (spawn p) t ≡ waiter_of p t
  waiter_same t = go (cases_eq t (length p.tasks))
    where
      go : (t ≡ length p.tasks) ⊎ (t ≡ length p.tasks → ⊥) → waiter_of (spawn p) t ≡ waiter_of p t
      go (inl e) = subst (λ x. waiter_of (spawn p) x ≡ waiter_of p x) (sym e) (waiter_new ∙ sym waiter_was)
      go (inr k) = waiter_old t k

  -- ---- ways
  registered_same : (t : ℕ) (test : Action → Bool) → registered_at (spawn p) test (waiter_of p t) ≡ registered_at p test (waiter_of p t)
  registered_same t test = go (waiter_of p t) refl
    where
      go : (o : Option ℕ) → waiter_of p t ≡ o → registered_at (spawn p) test o ≡ registered_at p test o
      go None e = refl
      go (Some on) e = let x = is.waits_made t on e in old_same test on (λ y. absurd (omega (arith, x, y)))

  one : (t : ℕ) → ways (spawn p) t ≡ wanted running (spawn p) t
  one t = go (cases_eq t (length p.tasks))
    where
      all : ways (spawn p) t ≡ pending_where (steps t) (spawn p).pending + registered_at p (steps t) (waiter_of p t)
      all = ap (total (spawn p) (steps t)) (waiter_same t) ∙ ap (λ k. pending_where (steps t) (spawn p).pending + k) (registered_same t (steps t))

      go : (t ≡ length p.tasks) ⊎ (t ≡ length p.tasks → ⊥) → ways (spawn p) t ≡ wanted running (spawn p) t
      go (inl e) =
          let c : pending_where (steps t) (spawn p).pending ≡ pending_where (steps t) p.pending + 1 = called (steps t)
          ∙ rw (eq-eqb (length p.tasks) t (sym e)) refl in
          let z : ways p t ≡ 0 = is.one_way.one t ∙ ap (λ b. one_if (b && not (is_running running t))) (ap (lives p) e ∙ new_lived_not) in
          let r : is_running running t ≡ false = not_running (cases_Bool (is_running running t)) e in
          let w : wanted running (spawn p) t ≡ 1 = ap (λ b. one_if (b && not (is_running running t))) (ap (lives (spawn p)) e ∙ new_lives) ∙ rw r refl in
          let a = all in
          omega (arith, a, c, z, w)
        where
          not_running : (is_running running t ≡ true) ⊎ (is_running running t ≡ false) → t ≡ length p.tasks → is_running running t ≡ false
          not_running (inl r) e = absurd (running_old t r e)
          not_running (inr r) e = r
      go (inr k) =
          let c : pending_where (steps t) (spawn p).pending ≡ pending_where (steps t) p.pending + 0 = called (steps t)
          ∙ rw (ne_eqb (length p.tasks) t (λ x. k (sym x))) refl in
          let z : ways p t ≡ wanted running (spawn p) t = is.one_way.one t ∙ ap (λ b. one_if (b && not (is_running running t))) (sym (old_lives t k)) in
          let a = all in
          omega (arith, a, c, z)

  on_waiter : (t on : ℕ) → 0 < count_by (steps t) (callbacks_of (spawn p) on) → waiter_of (spawn p) t ≡ Some on
  on_waiter t on h = go (cases_eq on (length p.futures))
    where
      go : (on ≡ length p.futures) ⊎ (on ≡ length p.futures → ⊥) → waiter_of (spawn p) t ≡ Some on
      go (inl e) = let z : count_by (steps t) (callbacks_of (spawn p) on) ≡ 0 = ap (λ j. count_by (steps t) (callbacks_of (spawn p) j)) e
          ∙ new_none (steps t) in absurd (omega (arith, z, h))
      go (inr k) = waiter_same t ∙ is.one_way.on_waiter t on (subst (λ x. 0 < x) (old_same (steps t) on k) h)

  old_waiter : (t on : ℕ) → waiter_of (spawn p) t ≡ Some on → on ≡ length p.futures → ⊥
  old_waiter t on w e = let x = is.waits_made t on (sym (waiter_same t) ∙ w) in absurd (omega (arith, x, e))

  stays : (t on : ℕ) → lives (spawn p) t ≡ true → waiter_of (spawn p) t ≡ Some on → is_pending (spawn p) on ≡ true → wakeups_on (spawn p) t on ≡ 1
  stays t on l w h = go (cases_eq t (length p.tasks))
    where
      go : (t ≡ length p.tasks) ⊎ (t ≡ length p.tasks → ⊥) → wakeups_on (spawn p) t on ≡ 1
      go (inl e) = absurd (none-some on (sym waiter_new ∙ subst (λ x. waiter_of (spawn p) x ≡ Some on) e w))
      go (inr k) =
          let o = old_waiter t on w in
          old_same (steps t) on o ∙ is.one_way.stays t on (sym (old_lives t k) ∙ l) (sym (waiter_same t) ∙ w) (sym (ap is_pending_at (old_future on o)) ∙ h)

  -- ---- owners
  owns : OwnsFutures (spawn p)
  owns id t = go (cases_eq id (length p.futures)) (cases_eq t (length p.tasks))
    where
      owner_new : owner_of (spawn p) (length p.futures) ≡ Some (length p.tasks)
      owner_new = ap owner_at new_future

      own_new : own_future (spawn p) (length p.tasks) ≡ Some (length p.futures)
      own_new = ap (option_map (λ (x : Task). x.future)) new_task

      none_own : (j : ℕ) → own_future p (length p.tasks) ≡ Some j → ⊥
      none_own j e = none-some j (sym (ap (option_map (λ (x : Task). x.future)) no_task) ∙ e)

      go : (id ≡ length p.futures) ⊎ (id ≡ length p.futures → ⊥) → (t ≡ length p.tasks) ⊎ (t ≡ length p.tasks → ⊥)
          → (owner_of (spawn p) id ≡ Some t) ↔ (own_future (spawn p) t ≡ Some id)
      go (inl e) (inl f) = (λ h. ap (own_future (spawn p)) f ∙ own_new ∙ ap Some (sym e), λ h. ap (owner_of (spawn p)) e ∙ owner_new ∙ ap Some (sym f))
      go (inl e) (inr f) = (
        λ h. absurd (f (sym (same_Some (length p.tasks) t (sym owner_new ∙ ap (owner_of (spawn p)) (sym e) ∙ h)))),
        λ h. let x = live_in t id (sym (ap (option_map (λ (x : Task). x.future)) (old_task t f)) ∙ h) in absurd (omega (arith, x, e)),
      )
      go (inr e) (inl f) = (
        λ h. absurd (none_own id (ap (own_future p) (sym f) ∙ (is.owns id t).0 (sym (ap owner_at (old_future id e)) ∙ h))),
        λ h. absurd (e (sym (same_Some (length p.futures) id (sym own_new ∙ ap (own_future (spawn p)) (sym f) ∙ h)))),
      )
      go (inr e) (inr f) = (
        λ h. ap (option_map (λ (x : Task). x.future)) (old_task t f) ∙ (is.owns id t).0 (sym (ap owner_at (old_future id e)) ∙ h),
        λ h. ap owner_at (old_future id e) ∙ (is.owns id t).1 (sym (ap (option_map (λ (x : Task). x.future)) (old_task t f)) ∙ h),
      )

  may : (t : ℕ) → MayKeepMustCancel excused p t → MayKeepMustCancel excused (spawn p) t
  may t (inl r) = inl r
  may t (inr (inl h)) = let c = called (steps t) in inr (inl (omega (arith, c, h)))
  may t (inr (inr w)) =
      let x = is.waits_made t w.0 w.1 in
      inr (inr (
        w.0,
        waiter_same t ∙ w.1,
        ap is_pending_at (old_future w.0 (λ y. absurd (omega (arith, x, y))))
            ∙ w.2,
        spent_same (suc w.0) p (spawn p) (length p.futures) (λ j below. old_future j (λ y. absurd (omega (arith, below, y)))) w.0 x ∙ w.3,
      ))

  pub spawn_sound : ArePartsSound running excused (spawn p)
  spawn_sound = record {
    owns = owns;
    settled = λ id h. settled id h (cases_eq id (length p.futures));
    callbacks = λ id. callbacks id (cases_eq id (length p.futures));
    free = λ t r. waiter_same t ∙ is.free t r;
    ready = record { free = λ t h. free t h (cases_eq t (length p.tasks)); woken = woken };
    runs = λ t r. old_lives t (running_old t r) ∙ is.runs t r;
    waits_made = λ t on w. let x = is.waits_made t on (sym (waiter_same t) ∙ w) in let l = more in omega (arith, x, l);
    one_way = record { one = one; on_waiter = on_waiter; stays = stays };
    must_cancel = λ t l k. must_cancel t l k (cases_eq t (length p.tasks));
  }
    where
      callbacks : (id : ℕ) → (id ≡ length p.futures) ⊎ (id ≡ length p.futures → ⊥)
          → count_by is_no_callback (callbacks_of (spawn p) id) ≡ 0
      callbacks id (inl e) = ap (λ j. count_by is_no_callback (callbacks_of (spawn p) j)) e ∙ new_none is_no_callback
      callbacks id (inr k) = old_same is_no_callback id k ∙ is.callbacks id

      free : (t : ℕ) → 0 < pending_where (resumes t) (spawn p).pending → (t ≡ length p.tasks) ⊎ (t ≡ length p.tasks → ⊥)
          → waiter_of (spawn p) t ≡ None
      free t h (inl e) = ap (waiter_of (spawn p)) e ∙ waiter_new
      free t h (inr k) =
          let c : pending_where (resumes t) (spawn p).pending ≡ pending_where (resumes t) p.pending + 0 =
          called (resumes t) ∙ rw (ne_eqb (length p.tasks) t (λ x. k (sym x))) refl in
          waiter_same t ∙ is.ready.free t (omega (arith, c, h))

      woken : (t : ℕ) → 0 < pending_where (wakes t) (spawn p).pending
          → (on : ℕ) × (waiter_of (spawn p) t ≡ Some on) × (is_pending (spawn p) on ≡ false)
      woken t h =
          let c = called (wakes t) in
          let w = is.ready.woken t (omega (arith, c, h)) in
          let x = is.waits_made t w.0 w.1 in
          (w.0, waiter_same t ∙ w.1, ap is_pending_at (old_future w.0 (λ y. absurd (omega (arith, x, y)))) ∙ w.2)

      settled : (id : ℕ) → is_pending (spawn p) id ≡ false → (id ≡ length p.futures) ⊎ (id ≡ length p.futures → ⊥) → callbacks_of (spawn p) id ≡ []
      settled id h (inl e) = ap (λ j. callbacks_of (spawn p) j) e ∙ ap callbacks_at new_future
      settled id h (inr k) = ap callbacks_at (old_future id k) ∙ is.settled id (sym (ap is_pending_at (old_future id k)) ∙ h)

      must_cancel : (t : ℕ) → lives (spawn p) t ≡ true → must_cancel_of (spawn p) t ≡ true → (t ≡ length p.tasks) ⊎ (t ≡ length p.tasks → ⊥)
          → MayKeepMustCancel excused (spawn p) t
      must_cancel t l k (inl e) = absurd
          (false≢true (sym (ap (λ (o : Option Task). option_map_or (λ (x : Task). x.must_cancel) o false) new_task)
          ∙ subst (λ x. must_cancel_of (spawn p) x ≡ true) e k))
      must_cancel t l k (inr e) = may t
          (is.must_cancel t (sym (old_lives t e) ∙ l) (sym (ap (λ (o : Option Task). option_map_or (λ (x : Task). x.must_cancel) o false) (old_task t e)) ∙ k))
