-- What requests come to, by the view of the loop's parts.
use Rattle.std.proofs.Common.{◌≡◌, ℕ, ℤ, pos, negsuc, ◌+◌, Bool, true, false, List, [], ◌∷◌, ◌++◌, Option, Some, None, length, slice_get, slice_set, refl, sym, ap, subst, ◌∙◌}
use Rattle.std.specs.Prelude.{if◌then◌else◌}
use Rattle.std.specs.List.{AllByRecursion as Each, list_all}
use Rattle.model_value.specs.Value.{Exc, Nothing, Truth, Value}
use Rattle.model_loop.specs.Futures.{next_future}
use Rattle.model_loop.specs.Parts.{Future, Parts}
use Rattle.model_machine.specs.Extra.{Answers, ExtraSaid, ExtraStep, Waits}
use Rattle.model_sync.specs.Synced.{Event, Lock, Queue, Synced, Tried, Waiting, draw, next_key, number_of, numbered, raises, says, sync_keeps, tried_again}
use Rattle.model_sync.specs.Synced.{tried_first, wait_again, wait_last, wait_over}
use Rattle.model_sync.specs.Locks.{no_lock, on_lock}
use Rattle.model_sync.specs.Events.{no_event, on_event}
use Rattle.model_sync.specs.Queues.{no_queue, on_queue}
use Rattle.law_sync.proofs.Falling.{Any, any_each}
use Rattle.law_sync.proofs.Holding.{EventHolds, Holds, LockHolds, QueueHolds, holds_from}
use Rattle.law_sync.proofs.Lists.{all_each, each_all, each_at}
use Rattle.aio_task.specs.Keeps.{Known}
use Rattle.aio_task.specs.View.{View, parts}
use Rattle.refine_added.specs.Seen.{SeesAll}
use Rattle.aio_extra.specs.declared.asked.Asked.TheVariants.{Answer, Wait}
use Rattle.aio_sync.specs.Numbers.{nat_in}
use Rattle.aio_sync.specs.Seen.{CallsSeen, SaysSeen}
use Rattle.aio_sync.specs.Tried.{Tries}
use Rattle.aio_sync.specs.Woken.{are_free, is_free}

-- ---- by number
number_at : (number : ℤ) (place : ℕ) → nat_in number ≡ Some place → number ≡ pos place
number_at (pos n) place e = ap pos (same n place e)
  where
    same : (n place : ℕ) → Some n ≡ Some place → n ≡ place
    same n place e = cc
number_at (negsuc before) place e = absurd (cc)

numbered_none : {A : Type 0} (all : List A) (number : ℤ) → nat_in number ≡ None → numbered all number ≡ None
numbered_none all (pos n) e = absurd (cc)
numbered_none all (negsuc before) e = refl

numbered_as : {A : Type 0} (all : List A) (number : ℤ) (place : ℕ) → nat_in number ≡ Some place → numbered all number ≡ slice_get all place
numbered_as all number place e = ap (numbered all) (number_at number place e)

module _ (x : Synced) (number : ℤ) (p : Parts) where
  module _ (next : ℕ → Lock → Parts → Synced → ExtraSaid Synced) where
    lock_by : (o : Option Lock) → numbered x.locks number ≡ o
        → on_lock next number p x ≡ elim o [ None ↦ raises no_lock x | Some lock ↦ next (number_of number) lock p x ]
    lock_by o e = ap (λ it. elim it [ None ↦ raises no_lock x | Some lock ↦ next (number_of number) lock p x ]) e

    pub lock_none : nat_in number ≡ None → on_lock next number p x ≡ raises no_lock x
    lock_none e = lock_by None (numbered_none x.locks number e)

    pub lock_past : (place : ℕ) → nat_in number ≡ Some place → slice_get x.locks place ≡ None → on_lock next number p x ≡ raises no_lock x
    lock_past place e past = lock_by None (numbered_as x.locks number place e ∙ past)

    pub lock_found : (place : ℕ) → nat_in number ≡ Some place → (lock : Lock) → slice_get x.locks place ≡ Some lock
        → on_lock next number p x ≡ next place lock p x
    lock_found place e lock there =
        lock_by (Some lock) (numbered_as x.locks number place e ∙ there) ∙ ap (λ n. next (number_of n) lock p x) (number_at number place e)

  module _ (next : ℕ → Event → Parts → Synced → ExtraSaid Synced) where
    event_by : (o : Option Event) → numbered x.events number ≡ o
        → on_event next number p x ≡ elim o [ None ↦ raises no_event x | Some event ↦ next (number_of number) event p x ]
    event_by o e = ap (λ it. elim it [ None ↦ raises no_event x | Some event ↦ next (number_of number) event p x ]) e

    pub event_none : nat_in number ≡ None → on_event next number p x ≡ raises no_event x
    event_none e = event_by None (numbered_none x.events number e)

    pub event_past : (place : ℕ) → nat_in number ≡ Some place → slice_get x.events place ≡ None → on_event next number p x ≡ raises no_event x
    event_past place e past = event_by None (numbered_as x.events number place e ∙ past)

    pub event_found : (place : ℕ) → nat_in number ≡ Some place → (event : Event) → slice_get x.events place ≡ Some event
        → on_event next number p x ≡ next place event p x
    event_found place e event there =
        event_by (Some event) (numbered_as x.events number place e ∙ there) ∙ ap (λ n. next (number_of n) event p x) (number_at number place e)

  module _ (next : ℕ → Queue → Parts → Synced → ExtraSaid Synced) where
    queue_by : (o : Option Queue) → numbered x.queues number ≡ o
        → on_queue next number p x ≡ elim o [ None ↦ raises no_queue x | Some queue ↦ next (number_of number) queue p x ]
    queue_by o e = ap (λ it. elim it [ None ↦ raises no_queue x | Some queue ↦ next (number_of number) queue p x ]) e

    pub queue_none : nat_in number ≡ None → on_queue next number p x ≡ raises no_queue x
    queue_none e = queue_by None (numbered_none x.queues number e)

    pub queue_past : (place : ℕ) → nat_in number ≡ Some place → slice_get x.queues place ≡ None → on_queue next number p x ≡ raises no_queue x
    queue_past place e past = queue_by None (numbered_as x.queues number place e ∙ past)

    pub queue_found : (place : ℕ) → nat_in number ≡ Some place → (queue : Queue) → slice_get x.queues place ≡ Some queue
        → on_queue next number p x ≡ next place queue p x
    queue_found place e queue there =
        queue_by (Some queue) (numbered_as x.queues number place e ∙ there) ∙ ap (λ n. next (number_of n) queue p x) (number_at number place e)

-- ---- its futures are free
module _ (futures : List Future) (x : Synced) (free : are_free futures (sync_keeps x).own ≡ true) where
  abbrev Free : ℕ → Type 0
  Free id = is_free futures id ≡ true

  holds : Holds Free Any x
  holds = holds_from Free Any x (all_each (is_free futures) (sync_keeps x).own free) (any_each (sync_keeps x).values)

  pub lock_free : (place : ℕ) (lock : Lock) → slice_get x.locks place ≡ Some lock → are_free futures lock.waiters ≡ true
  lock_free place lock e = each_all (is_free futures) lock.waiters (each_at (LockHolds Free Any) x.locks place lock e holds.locks)

  pub event_free : (place : ℕ) (event : Event) → slice_get x.events place ≡ Some event → are_free futures event.waiters ≡ true
  event_free place event e = each_all (is_free futures) event.waiters (each_at (EventHolds Free Any) x.events place event e holds.events)

  pub getters_free : (place : ℕ) (queue : Queue) → slice_get x.queues place ≡ Some queue → are_free futures queue.getters ≡ true
  getters_free place queue e =
      each_all (is_free futures) queue.getters (each_at (QueueHolds Free Any) x.queues place queue e holds.queues).getters

  pub putters_free : (place : ℕ) (queue : Queue) → slice_get x.queues place ≡ Some queue → are_free futures queue.putters ≡ true
  putters_free place queue e =
      each_all (is_free futures) queue.putters (each_at (QueueHolds Free Any) x.queues place queue e holds.queues).putters

-- ---- tries
module _ {A : Type 0} (put : A → Synced → Synced) (it : Tried A) (kept y : Synced) (v w : View) (now : A) where
  abbrev first : (waiting : ℕ → Waiting) → Option Value → ExtraSaid Synced
  first waiting o = elim o [
    | Some value ↦ says (put it.now (draw kept)) it.steps (Answers value)
    | None ↦ says (put it.now (wait_last (waiting (next_future (parts v))) kept)) it.steps (Waits (next_future (parts v)) (next_key kept))
  ]

  pub tried_through : (waiting : ℕ → Waiting) (on : Option ℕ) (value : Value) → Tries now v w on (Some value) it → y ≡ put now (draw kept)
      → SaysSeen y v w (Answer value) (tried_first put (waiting (next_future (parts v))) it (parts v) kept)
  tried_through waiting on value t e = subst (λ o. SaysSeen y v w (Answer value) (first waiting o)) (sym t.answers) (record {
    call = record { kept = e ∙ ap (λ a. put a (draw kept)) t.kept; steps = t.steps };
    answer = refl;
  })

  pub tried_waits : (waiting : ℕ → Waiting) (on : ℕ) → Tries now v w (Some on) None it → y ≡ put now (wait_last (waiting on) kept)
      → SaysSeen y v w (Wait on (next_key kept)) (tried_first put (waiting (next_future (parts v))) it (parts v) kept)
  tried_waits waiting on t e = subst (λ o. SaysSeen y v w (Wait on (next_key kept)) (first waiting o)) (sym t.answers) (record {
    call = record {
      kept = e ∙ ap (λ n. put now (wait_last (waiting n) kept)) t.next
          ∙ ap (λ a. put a (wait_last (waiting (next_future (parts v))) kept)) t.kept;
      steps = t.steps;
    };
    answer = (t.next, refl);
  })

  module _ (key place : ℕ) where
    abbrev again : (waiting : ℕ → Waiting) → Option Value → ExtraSaid Synced
    again waiting o = elim o [
      | Some value ↦ says (put it.now (wait_over place kept)) it.steps (Answers value)
      | None ↦ says (put it.now (wait_again place (waiting (next_future (parts v))) kept)) it.steps (Waits (next_future (parts v)) key)
    ]

    pub again_through : (waiting : ℕ → Waiting) (on : Option ℕ) (value : Value) → Tries now v w on (Some value) it → y ≡ put now (wait_over place kept)
        → SaysSeen y v w (Answer value) (tried_again key place put (waiting (next_future (parts v))) it (parts v) kept)
    again_through waiting on value t e = subst (λ o. SaysSeen y v w (Answer value) (again waiting o)) (sym t.answers) (record {
      call = record { kept = e ∙ ap (λ a. put a (wait_over place kept)) t.kept; steps = t.steps };
      answer = refl;
    })

    pub again_waits : (waiting : ℕ → Waiting) (on : ℕ) → Tries now v w (Some on) None it → y ≡ put now (wait_again place (waiting on) kept)
        → SaysSeen y v w (Wait on key) (tried_again key place put (waiting (next_future (parts v))) it (parts v) kept)
    again_waits waiting on t e = subst (λ o. SaysSeen y v w (Wait on key) (again waiting o)) (sym t.answers) (record {
      call = record {
        kept = e ∙ ap (λ n. put now (wait_again place (waiting n) kept)) t.next
            ∙ ap (λ a. put a (wait_again place (waiting (next_future (parts v))) kept)) t.kept;
        steps = t.steps;
      };
      answer = (t.next, refl);
    })
