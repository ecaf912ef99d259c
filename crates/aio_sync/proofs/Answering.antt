-- What each request comes to, where its lock, event or queue is found.
use Rattle.std.proofs.Common.{◌≡◌, ℕ, ℤ, pos, Bool, true, false, List, [], ◌∷◌, ◌++◌, Option, Some, None, Ok, Err, Result, IfOk, OnOk, zero, suc, length, map, slice_get, slice_set}
use Rattle.std.proofs.Common.{refl, sym, ap, subst, ◌∙◌}
use Rattle.std.specs.Prelude.{if◌then◌else◌}
use Rattle.model_value.specs.Value.{Int, Nothing, Truth, Value}
use Rattle.model_loop.specs.Futures.{next_future}
use Rattle.model_loop.specs.Parts.{Plain}
use Rattle.model_machine.specs.Extra.{Answers, ExtraSaid, MakesPlain, Waits}
use Rattle.model_sync.specs.Synced.{Acquires, Awaits, Event, Gets, Lock, Puts, Queue, Synced, Tried, answers, draw, next_key, raises, wait_last, wake_first, wakes}
use Rattle.model_sync.specs.Locks.{acquire, not_acquired, on_lock, release, set_lock, take_lock}
use Rattle.model_sync.specs.Events.{on_event, see_event, set, set_event, wait}
use Rattle.model_sync.specs.Queues.{get, get_from, is_full, on_queue, put, put_in, set_queue, size, wake_next}
use Rattle.aio_task.specs.Keeps.{Known}
use Rattle.aio_task.specs.View.{View, parts}
use Rattle.refine_added.specs.Seen.{SeesAll, made}
use Rattle.aio_extra.specs.declared.asked.Asked.{Asked}
use Rattle.aio_extra.specs.declared.asked.Asked.TheVariants.{Answer, Raise, Wait}
use Rattle.aio_sync.specs.Got.{on_of_got, value_of_got}
use Rattle.aio_sync.specs.declared.queue.Got.{Got}
use Rattle.aio_sync.specs.declared.queue.Got.TheVariants as got
use Rattle.aio_sync.specs.Numbers.{nat_in}
use Rattle.aio_sync.specs.Seen.{CallsSeen, SaysSeen}
use Rattle.aio_sync.specs.Tried.{Tries, truth_unless}
use Rattle.aio_sync.proofs.Seeing.{event_found, lock_found, queue_found, tried_through, tried_waits}

pub set_same : {A : Type 0} (xs : List A) (i : ℕ) (x : A) → slice_get xs i ≡ Some x → slice_set xs i x ≡ xs
set_same [] i x e = refl
set_same (y ∷ xs) zero x e = let same : y ≡ x = cc in ap (λ z. z ∷ xs) (sym same)
set_same (y ∷ xs) (suc i) x e = ap (λ ys. y ∷ ys) (set_same xs i x e)

-- what is so of the answer, where there is one
if_ok : {A E : Type 0} (P Q : A → Type 0) (R : Type 0) (result : Result A E) → IfOk result P → OnOk result R → ((a : A) → P a → R → Q a) → IfOk result Q
if_ok P Q R (Ok a) p r f = f a p r
if_ok P Q R (Err e) p r f = tt

module _ (x : Synced) (number : ℤ) (place : ℕ) (is : nat_in number ≡ Some place) (y : Synced) (v w : View) where
  -- ---- locks
  module _ (lock now : Lock) (there : slice_get x.locks place ≡ Some lock) where
    pub acquire_through : (on : Option ℕ) → on ≡ None → Tries now v w on (truth_unless on) (take_lock (parts v) lock)
        → y ≡ draw (set_lock place now x) → (asked : Asked) (value : Value) → asked ≡ Answer value → value ≡ Truth true
        → SaysSeen y v w asked (on_lock acquire number (parts v) x)
    acquire_through on none t e asked value a b =
        subst (SaysSeen y v w asked) (sym (lock_found x number (parts v) acquire place is lock there))
        (subst (λ it. SaysSeen y v w it (acquire place lock (parts v) x)) (sym (a ∙ ap Answer b))
        (tried_through (set_lock place) (take_lock (parts v) lock) x y v w now (Acquires place) None (Truth true)
        (subst (λ o. Tries now v w o (truth_unless o) (take_lock (parts v) lock)) none t) e))

    pub acquire_waits : {E : Type 0} (o : Option ℕ) (on : ℕ) → o ≡ Some on → Tries now v w o (truth_unless o) (take_lock (parts v) lock)
        → (result : Result Asked E) → IfOk result (λ asked. asked ≡ Wait on (next_key (set_lock place now x)))
        → OnOk result (y ≡ wait_last (Acquires place on) (set_lock place now x))
        → IfOk result (λ asked. SaysSeen y v w asked (on_lock acquire number (parts v) x))
    acquire_waits o on some t result a b =
        if_ok (λ asked. asked ≡ Wait on (next_key (set_lock place now x))) (λ asked. SaysSeen y v w asked (on_lock acquire number (parts v) x))
        (y ≡ wait_last (Acquires place on) (set_lock place now x)) result a b
        (λ asked e f.
        subst (SaysSeen y v w asked) (sym (lock_found x number (parts v) acquire place is lock there))
        (subst (λ it. SaysSeen y v w it (acquire place lock (parts v) x)) (sym e)
        (tried_waits (set_lock place) (take_lock (parts v) lock) x y v w now (Acquires place) on
        (subst (λ o. Tries now v w o (truth_unless o) (take_lock (parts v) lock)) some t) f)))

    pub release_through : lock.locked ≡ true → now ≡ record lock { locked = false }
        → ((known : ℕ → Known) → SeesAll known (if lock.locked then wake_first lock.waiters else []) v w)
        → y ≡ draw (set_lock place now x) → (asked : Asked) (value : Value) → asked ≡ Answer value → value ≡ Nothing
        → SaysSeen y v w asked (on_lock release number (parts v) x)
    release_through locked after steps e asked value a b =
        subst (SaysSeen y v w asked) (sym (lock_found x number (parts v) release place is lock there))
        (subst (λ it. SaysSeen y v w it (release place lock (parts v) x)) (sym (a ∙ ap Answer b))
        (subst (λ (c : Bool). SaysSeen y v w (Answer Nothing)
        (if c then answers Nothing (wake_first lock.waiters) (set_lock place (record lock { locked = false }) x) else raises not_acquired x)) (sym locked)
        (record {
          call = record {
            kept = e ∙ ap (λ l. draw (set_lock place l x)) after;
            steps = λ known. subst (λ (c : Bool). SeesAll known (if c then wake_first lock.waiters else []) v w) locked (steps known);
          };
          answer = refl;
        })))

    pub release_raises : {E : Type 0} → lock.locked ≡ false → now ≡ record lock { locked = false }
        → ((known : ℕ → Known) → SeesAll known (if lock.locked then wake_first lock.waiters else []) v w)
        → (result : Result Asked E) → IfOk result (λ asked. asked ≡ Raise not_acquired) → OnOk result (y ≡ draw (set_lock place now x))
        → IfOk result (λ asked. SaysSeen y v w asked (on_lock release number (parts v) x))
    release_raises locked after steps result a b =
        if_ok (λ asked. asked ≡ Raise not_acquired) (λ asked. SaysSeen y v w asked (on_lock release number (parts v) x))
        (y ≡ draw (set_lock place now x)) result a b
        (λ asked e f.
        subst (SaysSeen y v w asked) (sym (lock_found x number (parts v) release place is lock there))
        (subst (λ it. SaysSeen y v w it (release place lock (parts v) x)) (sym e)
        (subst (λ (c : Bool). SaysSeen y v w (Raise not_acquired)
        (if c then answers Nothing (wake_first lock.waiters) (set_lock place (record lock { locked = false }) x) else raises not_acquired x)) (sym locked)
        (record {
          call = record {
            kept = f ∙ ap (λ l. draw (set_lock place l x)) (after ∙ ap (λ (c : Bool). record { locked = c; waiters = lock.waiters }) (sym locked))
                ∙ ap (λ ls. draw (record x { locks = ls })) (set_same x.locks place lock there);
            steps = λ known. subst (λ (c : Bool). SeesAll known (if c then wake_first lock.waiters else []) v w) locked (steps known);
          };
          answer = refl;
        }))))

  -- ---- events
  module _ (event now : Event) (there : slice_get x.events place ≡ Some event) where
    pub wait_through : (on : Option ℕ) → on ≡ None → Tries now v w on (truth_unless on) (see_event (parts v) event)
        → y ≡ draw (set_event place now x) → (asked : Asked) (value : Value) → asked ≡ Answer value → value ≡ Truth true
        → SaysSeen y v w asked (on_event wait number (parts v) x)
    wait_through on none t e asked value a b =
        subst (SaysSeen y v w asked) (sym (event_found x number (parts v) wait place is event there))
        (subst (λ it. SaysSeen y v w it (wait place event (parts v) x)) (sym (a ∙ ap Answer b))
        (tried_through (set_event place) (see_event (parts v) event) x y v w now (Awaits place) None (Truth true)
        (subst (λ o. Tries now v w o (truth_unless o) (see_event (parts v) event)) none t) e))

    pub wait_waits : {E : Type 0} (o : Option ℕ) (on : ℕ) → o ≡ Some on → Tries now v w o (truth_unless o) (see_event (parts v) event)
        → (result : Result Asked E) → IfOk result (λ asked. asked ≡ Wait on (next_key (set_event place now x)))
        → OnOk result (y ≡ wait_last (Awaits place on) (set_event place now x))
        → IfOk result (λ asked. SaysSeen y v w asked (on_event wait number (parts v) x))
    wait_waits o on some t result a b =
        if_ok (λ asked. asked ≡ Wait on (next_key (set_event place now x))) (λ asked. SaysSeen y v w asked (on_event wait number (parts v) x))
        (y ≡ wait_last (Awaits place on) (set_event place now x)) result a b
        (λ asked e f.
        subst (SaysSeen y v w asked) (sym (event_found x number (parts v) wait place is event there))
        (subst (λ it. SaysSeen y v w it (wait place event (parts v) x)) (sym e)
        (tried_waits (set_event place) (see_event (parts v) event) x y v w now (Awaits place) on
        (subst (λ o. Tries now v w o (truth_unless o) (see_event (parts v) event)) some t) f)))

    pub set_through : now ≡ record event { is_set = true }
        → ((known : ℕ → Known) → SeesAll known (if event.is_set then [] else map wakes event.waiters) v w)
        → y ≡ draw (set_event place now x) → (asked : Asked) (value : Value) → asked ≡ Answer value → value ≡ Nothing
        → SaysSeen y v w asked (on_event set number (parts v) x)
    set_through after steps e asked value a b =
        subst (SaysSeen y v w asked) (sym (event_found x number (parts v) set place is event there))
        (subst (λ it. SaysSeen y v w it (set place event (parts v) x)) (sym (a ∙ ap Answer b)) (at event.is_set refl))
      where
        at : (c : Bool) → event.is_set ≡ c → SaysSeen y v w (Answer Nothing)
            (if c then answers Nothing [] x else answers Nothing (map wakes event.waiters) (set_event place (record event { is_set = true }) x))
        at true f = record {
          call = record {
            kept = e ∙ ap (λ l. draw (set_event place l x)) (after ∙ ap (λ (c : Bool). record { is_set = c; waiters = event.waiters }) (sym f))
                ∙ ap (λ es. draw (record x { events = es })) (set_same x.events place event there);
            steps = λ known. subst (λ (c : Bool). SeesAll known (if c then [] else map wakes event.waiters) v w) f (steps known);
          };
          answer = refl;
        }
        at false f = record {
          call = record {
            kept = e ∙ ap (λ l. draw (set_event place l x)) after;
            steps = λ known. subst (λ (c : Bool). SeesAll known (if c then [] else map wakes event.waiters) v w) f (steps known);
          };
          answer = refl;
        }

  -- ---- queues
  module _ (queue now : Queue) (there : slice_get x.queues place ≡ Some queue) where
    pub full_tries : (value : Value) (on : ℕ) → is_full queue ≡ true → on ≡ length v.futures
        → now ≡ record queue { putters = queue.putters ++ length v.futures ∷ [] } → w ≡ made Plain v
        → Tries now v w (Some on) None (put_in (parts v) value queue)
    full_tries value on full is_next after e =
        subst (λ (c : Bool). Tries now v w (Some on) None
        (if c then record { now = record queue { putters = queue.putters ++ next_future (parts v) ∷ [] }; steps = MakesPlain ∷ []; answer = None }
        else record {
          now = record queue { values = queue.values ++ value ∷ []; getters = (wake_next (parts v) queue.getters).left };
          steps = (wake_next (parts v) queue.getters).steps;
          answer = Some Nothing;
        })) (sym full)
        (record { kept = after; steps = λ known. (w, e, refl); answers = refl; next = is_next })

    pub open_tries : (value : Value) → is_full queue ≡ false
        → now ≡ record queue { values = queue.values ++ value ∷ []; getters = (wake_next (parts v) queue.getters).left }
        → ((known : ℕ → Known) → SeesAll known (wake_next (parts v) queue.getters).steps v w)
        → Tries now v w None (Some Nothing) (put_in (parts v) value queue)
    open_tries value full after steps =
        subst (λ (c : Bool). Tries now v w None (Some Nothing)
        (if c then record { now = record queue { putters = queue.putters ++ next_future (parts v) ∷ [] }; steps = MakesPlain ∷ []; answer = None }
        else record {
          now = record queue { values = queue.values ++ value ∷ []; getters = (wake_next (parts v) queue.getters).left };
          steps = (wake_next (parts v) queue.getters).steps;
          answer = Some Nothing;
        })) (sym full)
        (record { kept = after; steps = steps; answers = refl; next = tt })

    pub put_through : (item : Value) → Tries now v w None (Some Nothing) (put_in (parts v) item queue) → y ≡ draw (set_queue place now x)
        → (asked : Asked) (value : Value) → asked ≡ Answer value → value ≡ Nothing
        → SaysSeen y v w asked (on_queue (put item) number (parts v) x)
    put_through item t e asked value a b =
        subst (SaysSeen y v w asked) (sym (queue_found x number (parts v) (put item) place is queue there))
        (subst (λ it. SaysSeen y v w it (put item place queue (parts v) x)) (sym (a ∙ ap Answer b))
        (tried_through (set_queue place) (put_in (parts v) item queue) x y v w now (Puts place item) None Nothing t e))

    pub put_waits : {E : Type 0} (item : Value) (on : ℕ) → Tries now v w (Some on) None (put_in (parts v) item queue)
        → (result : Result Asked E) → IfOk result (λ asked. asked ≡ Wait on (next_key (set_queue place now x)))
        → OnOk result (y ≡ wait_last (Puts place item on) (set_queue place now x))
        → IfOk result (λ asked. SaysSeen y v w asked (on_queue (put item) number (parts v) x))
    put_waits item on t result a b =
        if_ok (λ asked. asked ≡ Wait on (next_key (set_queue place now x))) (λ asked. SaysSeen y v w asked (on_queue (put item) number (parts v) x))
        (y ≡ wait_last (Puts place item on) (set_queue place now x)) result a b
        (λ asked e f.
        subst (SaysSeen y v w asked) (sym (queue_found x number (parts v) (put item) place is queue there))
        (subst (λ it. SaysSeen y v w it (put item place queue (parts v) x)) (sym e)
        (tried_waits (set_queue place) (put_in (parts v) item queue) x y v w now (Puts place item) on t f)))

    pub get_through : (it : Got) (value : Value) → it ≡ got.Value value → Tries now v w (on_of_got it) (value_of_got it) (get_from (parts v) queue)
        → y ≡ draw (set_queue place now x) → (asked : Asked) → asked ≡ Answer value
        → SaysSeen y v w asked (on_queue get number (parts v) x)
    get_through it value some t e asked a =
        subst (SaysSeen y v w asked) (sym (queue_found x number (parts v) get place is queue there))
        (subst (λ it. SaysSeen y v w it (get place queue (parts v) x)) (sym a)
        (tried_through (set_queue place) (get_from (parts v) queue) x y v w now (Gets place) None value
        (subst (λ o. Tries now v w (on_of_got o) (value_of_got o) (get_from (parts v) queue)) some t) e))

    pub get_waits : {E : Type 0} (it : Got) (on : ℕ) → it ≡ got.Waits on → Tries now v w (on_of_got it) (value_of_got it) (get_from (parts v) queue)
        → (result : Result Asked E) → IfOk result (λ asked. asked ≡ Wait on (next_key (set_queue place now x)))
        → OnOk result (y ≡ wait_last (Gets place on) (set_queue place now x))
        → IfOk result (λ asked. SaysSeen y v w asked (on_queue get number (parts v) x))
    get_waits it on some t result a b =
        if_ok (λ asked. asked ≡ Wait on (next_key (set_queue place now x))) (λ asked. SaysSeen y v w asked (on_queue get number (parts v) x))
        (y ≡ wait_last (Gets place on) (set_queue place now x)) result a b
        (λ asked e f.
        subst (SaysSeen y v w asked) (sym (queue_found x number (parts v) get place is queue there))
        (subst (λ it. SaysSeen y v w it (get place queue (parts v) x)) (sym e)
        (tried_waits (set_queue place) (get_from (parts v) queue) x y v w now (Gets place) on
        (subst (λ o. Tries now v w (on_of_got o) (value_of_got o) (get_from (parts v) queue)) some t) f)))

    pub size_says : v ≡ w → y ≡ draw x → (asked : Asked) (value : Value) → asked ≡ Answer value → value ≡ Int (pos (length queue.values))
        → SaysSeen y v w asked (on_queue size number (parts v) x)
    size_says same e asked value a b =
        subst (SaysSeen y v w asked) (sym (queue_found x number (parts v) size place is queue there))
        (subst (λ it. SaysSeen y v w it (size place queue (parts v) x)) (sym (a ∙ ap Answer b))
        (record { call = record { kept = e; steps = λ known. sym same }; answer = refl }))

-- ---- after a wait
pub full_again : (v w : View) (queue now : Queue) (value : Value) (on : ℕ) → is_full queue ≡ true → on ≡ length v.futures
    → now ≡ record queue { putters = queue.putters ++ length v.futures ∷ [] } → w ≡ made Plain v
    → Tries now v w (Some on) None (put_in (parts v) value queue)
full_again v w queue now value on full is_next after e =
    subst (λ (c : Bool). Tries now v w (Some on) None
    (if c then record { now = record queue { putters = queue.putters ++ next_future (parts v) ∷ [] }; steps = MakesPlain ∷ []; answer = None }
    else record {
      now = record queue { values = queue.values ++ value ∷ []; getters = (wake_next (parts v) queue.getters).left };
      steps = (wake_next (parts v) queue.getters).steps;
      answer = Some Nothing;
    })) (sym full)
    (record { kept = after; steps = λ known. (w, e, refl); answers = refl; next = is_next })

pub open_again : (v w : View) (first queue now : Queue) (item value : Value) → Some first ≡ Some queue → Some item ≡ Some value → is_full first ≡ false
    → now ≡ record queue { values = queue.values ++ item ∷ []; getters = (wake_next (parts v) queue.getters).left }
    → ((known : ℕ → Known) → SeesAll known (wake_next (parts v) queue.getters).steps v w)
    → Tries now v w None (Some Nothing) (put_in (parts v) value queue)
open_again v w first queue now item value same is open_ after steps =
    subst (λ (c : Bool). Tries now v w None (Some Nothing)
    (if c then record { now = record queue { putters = queue.putters ++ next_future (parts v) ∷ [] }; steps = MakesPlain ∷ []; answer = None }
    else record {
      now = record queue { values = queue.values ++ value ∷ []; getters = (wake_next (parts v) queue.getters).left };
      steps = (wake_next (parts v) queue.getters).steps;
      answer = Some Nothing;
    })) (sym (ap is_full (sym queues) ∙ open_))
    (record {
      kept = after ∙ ap (λ it. record queue { values = queue.values ++ it ∷ []; getters = (wake_next (parts v) queue.getters).left }) items;
      steps = steps;
      answers = refl;
      next = tt;
    })
  where
    queues : first ≡ queue
    queues = cc

    items : item ≡ value
    items = cc
