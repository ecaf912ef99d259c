-- What requests come to as their tasks go on.
use Rattle.std.proofs.Common.{◌≡◌, ℕ, Bool, true, false, List, [], ◌∷◌, Option, Some, None, length, slice_get, slice_set, refl, sym, ap, subst, ◌∙◌}
use Rattle.std.specs.Prelude.{not, ◌&&◌, nat_lt, if◌then◌else◌}
use Rattle.std.specs.Map.{lookup, remove_entry, set_value}
use Rattle.model_value.specs.Input.{Input}
use Rattle.model_value.specs.Value.{Exc, Nothing, Truth, Value}
use Rattle.model_value.specs.declared.input.Input.TheVariants.{Send, Throw}
use Rattle.model_loop.specs.Futures.{future_outcome}
use Rattle.model_loop.specs.Parts.{Parts}
use Rattle.model_loop.specs.Tasks.{is_cancelled}
use Rattle.model_machine.specs.Extra.{ExtraSaid}
use Rattle.model_sync.specs.Synced as synced
use Rattle.model_sync.specs.Synced.{Acquires, Awaits, Event, Gets, Lock, Puts, Queue, Synced, Waiting, tried_again, wait_again, wait_over, waiting_at, wake_first, without}
use Rattle.model_sync.specs.Locks.{acquired, set_lock}
use Rattle.model_sync.specs.Events.{set_event, waited}
use Rattle.model_sync.specs.Queues.{get_from, getting, got_value, is_full, next_if, put_in, putting, set_queue}
use Rattle.model_sync.specs.Serving.{named, woken}
use Rattle.aio_task.specs.Keeps.{Known}
use Rattle.aio_task.specs.View.{View, parts}
use Rattle.refine_added.specs.Seen.{SeesAll}
use Rattle.aio_extra.specs.declared.asked.Asked.{Asked}
use Rattle.aio_extra.specs.declared.asked.Asked.TheVariants.{Answer, Raise, Wait}
use Rattle.aio_sync.specs.Got.{on_of_got, value_of_got}
use Rattle.aio_sync.specs.declared.queue.Got.{Got}
use Rattle.aio_sync.specs.declared.queue.Got.TheVariants as got
use Rattle.aio_sync.specs.Tried.{Tries}
use Rattle.aio_sync.proofs.Answering.{set_same}
use Rattle.aio_sync.proofs.Seeing.{again_through, again_waits}
use Rattle.aio_sync.specs.declared.keys.Found.TheVariants as found
use Rattle.aio_sync.specs.Drawn.{Drawn}
use Rattle.aio_sync.specs.Keeps.{found_of}
use Rattle.aio_sync.specs.Seen.{SaysSeen}

-- with these keys
abbrev pub keyed : List Lock → List Event → List Queue → Drawn → Synced
keyed locks events queues d = record { drawn = d.drawn; waiting = d.waiting; locks = locks; events = events; queues = queues }

module _ (x y : Synced) (v w : View) (place id on : ℕ) (asked : Asked) where
  module _ (lock now : Lock) (there : slice_get x.locks id ≡ Some lock) (e : y ≡ wait_over place (set_lock id now x)) where
    pub acquired_throws : (exception : Exc) (cancelled : Bool) → cancelled ≡ is_cancelled exception
        → now ≡ record lock { waiters = without on lock.waiters }
        → ((known : ℕ → Known) → SeesAll known (if cancelled && not lock.locked then wake_first (without on lock.waiters) else []) v w)
        → asked ≡ Raise exception → (input : Input) → input ≡ Throw exception
        → SaysSeen y v w asked (named (slice_get x.locks id) input (λ lock. acquired place id on input lock x) x)
    acquired_throws exception cancelled is after steps a input came =
        subst (λ input. SaysSeen y v w asked (named (slice_get x.locks id) input (λ lock. acquired place id on input lock x) x)) (sym came)
        (subst (λ o. SaysSeen y v w asked (named o (Throw exception) (λ lock. acquired place id on (Throw exception) lock x) x)) (sym there)
        (subst (λ it. SaysSeen y v w it (acquired place id on (Throw exception) lock x)) (sym a)
        (record {
          call = record {
            kept = e ∙ ap (λ l. wait_over place (set_lock id l x)) after;
            steps = λ known. subst (λ (c : Bool). SeesAll known (if c && not lock.locked then wake_first (without on lock.waiters) else []) v w) is (steps known);
          };
          answer = refl;
        })))

    pub acquired_sends : (sent : Value) → now ≡ record { locked = true; waiters = without on lock.waiters } → v ≡ w → (value : Value)
        → asked ≡ Answer value → value ≡ Truth true → (input : Input) → input ≡ Send sent
        → SaysSeen y v w asked (named (slice_get x.locks id) input (λ lock. acquired place id on input lock x) x)
    acquired_sends sent after same value a b input came =
        subst (λ input. SaysSeen y v w asked (named (slice_get x.locks id) input (λ lock. acquired place id on input lock x) x)) (sym came)
        (subst (λ o. SaysSeen y v w asked (named o (Send sent) (λ lock. acquired place id on (Send sent) lock x) x)) (sym there)
        (subst (λ it. SaysSeen y v w it (acquired place id on (Send sent) lock x)) (sym (a ∙ ap Answer b))
        (record {
          call = record { kept = e ∙ ap (λ l. wait_over place (set_lock id l x)) after; steps = λ known. sym same };
          answer = refl;
        })))

  module _ (queue now : Queue) (there : slice_get x.queues id ≡ Some queue) (e : y ≡ wait_over place (set_queue id now x)) (key : ℕ) where
    pub putting_throws : (value : Value) (exception : Exc)
        → now ≡ record queue {
          putters = (next_if (got_value (future_outcome (parts v) on) && not (is_full queue)) (parts v) (without on queue.putters)).left;
        }
        → ((known : ℕ → Known) → SeesAll known
        (next_if (got_value (future_outcome (parts v) on) && not (is_full queue)) (parts v) (without on queue.putters)).steps v w)
        → asked ≡ Raise exception → (input : Input) → input ≡ Throw exception
        → SaysSeen y v w asked (named (slice_get x.queues id) input (λ queue. putting key place id on value input queue (parts v) x) x)
    putting_throws value exception after steps a input came =
        subst (λ input. SaysSeen y v w asked (named (slice_get x.queues id) input (λ queue. putting key place id on value input queue (parts v) x) x))
        (sym came)
        (subst (λ o. SaysSeen y v w asked (named o (Throw exception) (λ queue. putting key place id on value (Throw exception) queue (parts v) x) x))
        (sym there)
        (subst (λ it. SaysSeen y v w it (putting key place id on value (Throw exception) queue (parts v) x)) (sym a)
        (record {
          call = record { kept = e ∙ ap (λ q. wait_over place (set_queue id q x)) after; steps = steps };
          answer = refl;
        })))

    pub getting_throws : (exception : Exc)
        → now ≡ record queue {
          getters = (next_if (got_value (future_outcome (parts v) on) && nat_lt 0 (length queue.values)) (parts v) (without on queue.getters)).left;
        }
        → ((known : ℕ → Known) → SeesAll known
        (next_if (got_value (future_outcome (parts v) on) && nat_lt 0 (length queue.values)) (parts v) (without on queue.getters)).steps v w)
        → asked ≡ Raise exception → (input : Input) → input ≡ Throw exception
        → SaysSeen y v w asked (named (slice_get x.queues id) input (λ queue. getting key place id on input queue (parts v) x) x)
    getting_throws exception after steps a input came =
        subst (λ input. SaysSeen y v w asked (named (slice_get x.queues id) input (λ queue. getting key place id on input queue (parts v) x) x))
        (sym came)
        (subst (λ o. SaysSeen y v w asked (named o (Throw exception) (λ queue. getting key place id on (Throw exception) queue (parts v) x) x)) (sym there)
        (subst (λ it. SaysSeen y v w it (getting key place id on (Throw exception) queue (parts v) x)) (sym a)
        (record {
          call = record { kept = e ∙ ap (λ q. wait_over place (set_queue id q x)) after; steps = steps };
          answer = refl;
        })))

module _ (x y : Synced) (v w : View) (key place id on : ℕ) (asked : Asked) (queue : Queue) (there : slice_get x.queues id ≡ Some queue) where
  pub putting_again : (value sent : Value) (input : Input) → input ≡ Send sent
      → SaysSeen y v w asked
      (tried_again key place (set_queue id) (Puts id value (length v.futures)) (put_in (parts v) value queue) (parts v) x)
      → SaysSeen y v w asked (named (slice_get x.queues id) input (λ queue. putting key place id on value input queue (parts v) x) x)
  putting_again value sent input came seen =
      subst (λ input. SaysSeen y v w asked (named (slice_get x.queues id) input (λ queue. putting key place id on value input queue (parts v) x) x))
      (sym came)
      (subst (λ o. SaysSeen y v w asked (named o (Send sent) (λ queue. putting key place id on value (Send sent) queue (parts v) x) x)) (sym there) seen)

  pub getting_again : (sent : Value) (input : Input) → input ≡ Send sent
      → SaysSeen y v w asked (tried_again key place (set_queue id) (Gets id (length v.futures)) (get_from (parts v) queue) (parts v) x)
      → SaysSeen y v w asked (named (slice_get x.queues id) input (λ queue. getting key place id on input queue (parts v) x) x)
  getting_again sent input came seen =
      subst (λ input. SaysSeen y v w asked (named (slice_get x.queues id) input (λ queue. getting key place id on input queue (parts v) x) x))
      (sym came)
      (subst (λ o. SaysSeen y v w asked (named o (Send sent) (λ queue. getting key place id on (Send sent) queue (parts v) x) x)) (sym there) seen)

-- where the queue was lent before, and is as it was
module _ (locks : List Lock) (events : List Event) (queues : List Queue) (d : Drawn) (y : Synced) (v w : View) (key place id on : ℕ) (asked : Asked)
    (held : Queue) (there : slice_get queues id ≡ Some held) where
  lent : slice_set queues id held ≡ queues
  lent = set_same queues id held there

  pub putting_lent : (value sent : Value) (input : Input) → input ≡ Send sent
      → ((queue : Queue) → slice_get (slice_set queues id held) id ≡ Some queue → SaysSeen y v w asked
      (tried_again key place (set_queue id) (Puts id value (length v.futures)) (put_in (parts v) value queue) (parts v)
      (keyed locks events (slice_set queues id held) d)))
      → SaysSeen y v w asked
      (named (slice_get queues id) input (λ queue. putting key place id on value input queue (parts v) (keyed locks events queues d)) (keyed locks events queues d))
  putting_lent value sent input came seen =
      putting_again (keyed locks events queues d) y v w key place id on asked held there value sent input came
      (subst (λ qs. SaysSeen y v w asked
      (tried_again key place (set_queue id) (Puts id value (length v.futures)) (put_in (parts v) value held) (parts v) (keyed locks events qs d))) lent
      (seen held (ap (λ qs. slice_get qs id) lent ∙ there)))

  pub getting_lent : (sent : Value) (input : Input) → input ≡ Send sent
      → ((queue : Queue) → slice_get (slice_set queues id held) id ≡ Some queue → SaysSeen y v w asked
      (tried_again key place (set_queue id) (Gets id (length v.futures)) (get_from (parts v) queue) (parts v)
      (keyed locks events (slice_set queues id held) d)))
      → SaysSeen y v w asked
      (named (slice_get queues id) input (λ queue. getting key place id on input queue (parts v) (keyed locks events queues d)) (keyed locks events queues d))
  getting_lent sent input came seen =
      getting_again (keyed locks events queues d) y v w key place id on asked held there sent input came
      (subst (λ qs. SaysSeen y v w asked
      (tried_again key place (set_queue id) (Gets id (length v.futures)) (get_from (parts v) held) (parts v) (keyed locks events qs d))) lent
      (seen held (ap (λ qs. slice_get qs id) lent ∙ there)))

-- ---- tries after a wait
module _ (x : Synced) (v w : View) (key place id : ℕ) (held queue now : Queue) (at : slice_get x.queues id ≡ Some held)
    (there : slice_get x.queues id ≡ Some queue) where
  same : held ≡ queue
  same = let e : Some held ≡ Some queue = sym at ∙ there in cc

  pub again_put : (y : Synced) (value : Value) → Tries now v w None (Some Nothing) (put_in (parts v) value held)
      → y ≡ wait_over place (set_queue id now x) → (answer : Value) → answer ≡ Nothing
      → SaysSeen y v w (Answer answer)
      (tried_again key place (set_queue id) (Puts id value (length v.futures)) (put_in (parts v) value queue) (parts v) x)
  again_put y value t e answer a =
      subst (λ q. SaysSeen y v w (Answer answer) (tried_again key place (set_queue id) (Puts id value (length v.futures)) (put_in (parts v) value q) (parts v) x))
      same
      (subst (λ it. SaysSeen y v w (Answer it) (tried_again key place (set_queue id) (Puts id value (length v.futures)) (put_in (parts v) value held) (parts v) x))
      (sym a)
      (again_through (set_queue id) (put_in (parts v) value held) x y v w now key place (Puts id value) None Nothing t e))

  pub again_full : (y : Synced) (value : Value) (on : ℕ) → Tries now v w (Some on) None (put_in (parts v) value held)
      → y ≡ wait_again place (Puts id value on) (set_queue id now x)
      → SaysSeen y v w (Wait on key)
      (tried_again key place (set_queue id) (Puts id value (length v.futures)) (put_in (parts v) value queue) (parts v) x)
  again_full y value on t e =
      subst (λ q. SaysSeen y v w (Wait on key) (tried_again key place (set_queue id) (Puts id value (length v.futures)) (put_in (parts v) value q) (parts v) x))
      same
      (again_waits (set_queue id) (put_in (parts v) value held) x y v w now key place (Puts id value) on t e)

  pub again_got : (y : Synced) (it : Got) (value : Value) → it ≡ got.Value value
      → Tries now v w (on_of_got it) (value_of_got it) (get_from (parts v) held) → y ≡ wait_over place (set_queue id now x)
      → SaysSeen y v w (Answer value) (tried_again key place (set_queue id) (Gets id (length v.futures)) (get_from (parts v) queue) (parts v) x)
  again_got y it value is t e =
      subst (λ q. SaysSeen y v w (Answer value) (tried_again key place (set_queue id) (Gets id (length v.futures)) (get_from (parts v) q) (parts v) x))
      same
      (again_through (set_queue id) (get_from (parts v) held) x y v w now key place (Gets id) None value
      (subst (λ o. Tries now v w (on_of_got o) (value_of_got o) (get_from (parts v) held)) is t) e)

  pub again_waiting : (y : Synced) (it : Got) (on : ℕ) → it ≡ got.Waits on
      → Tries now v w (on_of_got it) (value_of_got it) (get_from (parts v) held) → y ≡ wait_again place (Gets id on) (set_queue id now x)
      → SaysSeen y v w (Wait on key) (tried_again key place (set_queue id) (Gets id (length v.futures)) (get_from (parts v) queue) (parts v) x)
  again_waiting y it on is t e =
      subst (λ q. SaysSeen y v w (Wait on key) (tried_again key place (set_queue id) (Gets id (length v.futures)) (get_from (parts v) q) (parts v) x))
      same
      (again_waits (set_queue id) (get_from (parts v) held) x y v w now key place (Gets id) on
      (subst (λ o. Tries now v w (on_of_got o) (value_of_got o) (get_from (parts v) held)) is t) e)

-- ---- which it is
module _ (x y : Synced) (v w : View) (key place : ℕ) (input : Input) (asked : Asked) (p : Parts) where
  abbrev Woken : Option Waiting → Type 0
  Woken o = SaysSeen y v w asked (woken o key place input p x)

  pub woken_nothing : (o : Option Waiting) → found_of o ≡ found.Nothing → Woken None → Woken o
  woken_nothing None e h = h
  woken_nothing (Some (Acquires lock on)) e h = absurd (cc)
  woken_nothing (Some (Awaits event on)) e h = absurd (cc)
  woken_nothing (Some (Puts queue value on)) e h = absurd (cc)
  woken_nothing (Some (Gets queue on)) e h = absurd (cc)

  pub woken_acquires : (o : Option Waiting) (lock on : ℕ) → found_of o ≡ found.Acquires lock on → Woken (Some (Acquires lock on)) → Woken o
  woken_acquires None lock on e h = absurd (cc)
  woken_acquires (Some (Acquires l n)) lock on e h =
      let a : l ≡ lock = cc in
      let b : n ≡ on = cc in
      subst (λ m. Woken (Some (Acquires m n))) (sym a) (subst (λ m. Woken (Some (Acquires lock m))) (sym b) h)
  woken_acquires (Some (Awaits event n)) lock on e h = absurd (cc)
  woken_acquires (Some (Puts queue value n)) lock on e h = absurd (cc)
  woken_acquires (Some (Gets queue n)) lock on e h = absurd (cc)

  pub woken_awaits : (o : Option Waiting) (event on : ℕ) → found_of o ≡ found.Awaits event on → Woken (Some (Awaits event on)) → Woken o
  woken_awaits None event on e h = absurd (cc)
  woken_awaits (Some (Acquires lock n)) event on e h = absurd (cc)
  woken_awaits (Some (Awaits l n)) event on e h =
      let a : l ≡ event = cc in
      let b : n ≡ on = cc in
      subst (λ m. Woken (Some (Awaits m n))) (sym a) (subst (λ m. Woken (Some (Awaits event m))) (sym b) h)
  woken_awaits (Some (Puts queue value n)) event on e h = absurd (cc)
  woken_awaits (Some (Gets queue n)) event on e h = absurd (cc)

  pub woken_puts : (o : Option Waiting) (queue on : ℕ) → found_of o ≡ found.Puts queue on
      → ((value : Value) → o ≡ Some (Puts queue value on) → Woken (Some (Puts queue value on))) → Woken o
  woken_puts None queue on e h = absurd (cc)
  woken_puts (Some (Acquires lock n)) queue on e h = absurd (cc)
  woken_puts (Some (Awaits event n)) queue on e h = absurd (cc)
  woken_puts (Some (Puts l value n)) queue on e h =
      let a : l ≡ queue = cc in
      let b : n ≡ on = cc in
      let same : Some (Puts l value n) ≡ Some (Puts queue value on) = ap (λ m. Some (Puts m value n)) a ∙ ap (λ m. Some (Puts queue value m)) b in
      subst Woken (sym same) (h value same)
  woken_puts (Some (Gets other n)) queue on e h = absurd (cc)

  pub woken_gets : (o : Option Waiting) (queue on : ℕ) → found_of o ≡ found.Gets queue on
      → (o ≡ Some (Gets queue on) → Woken (Some (Gets queue on))) → Woken o
  woken_gets None queue on e h = absurd (cc)
  woken_gets (Some (Acquires lock n)) queue on e h = absurd (cc)
  woken_gets (Some (Awaits event n)) queue on e h = absurd (cc)
  woken_gets (Some (Puts other value n)) queue on e h = absurd (cc)
  woken_gets (Some (Gets l n)) queue on e h =
      let a : l ≡ queue = cc in
      let b : n ≡ on = cc in
      let same : Some (Gets l n) ≡ Some (Gets queue on) = ap (λ m. Some (Gets m n)) a ∙ ap (λ m. Some (Gets queue m)) b in
      subst Woken (sym same) (h same)
