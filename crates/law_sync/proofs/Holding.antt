-- What is so of each future, and of each value, that is kept.
use Rattle.std.proofs.Common.{◌≡◌, ℕ, List, [], ◌∷◌, ◌++◌}
use Rattle.std.specs.List.{AllByRecursion as Each, flat_map}
use Rattle.model_value.specs.Value.{Value}
use Rattle.model_sync.specs.Synced.{Event, Lock, Queue, Synced, Waiting, on_of, sync_keeps, values_of}
use Rattle.law_sync.proofs.Lists.{each_append, each_both, each_flat, each_left, each_on, each_right, flat_each}

module _ (P : ℕ → Type 0) (V : Value → Type 0) where
  abbrev pub WaitingHolds : ℕ × Waiting → Type 0
  WaitingHolds entry = P (on_of entry.1) × Each V (values_of entry.1)

  abbrev pub LockHolds : Lock → Type 0
  LockHolds lock = Each P lock.waiters

  abbrev pub EventHolds : Event → Type 0
  EventHolds event = Each P event.waiters

  pub record QueueHolds (queue : Queue) : Type 0 where
    pub values : Each V queue.values
    pub getters : Each P queue.getters
    pub putters : Each P queue.putters

  pub record Holds (kept : Synced) : Type 0 where
    pub waiting : Each WaitingHolds kept.waiting
    pub locks : Each LockHolds kept.locks
    pub events : Each EventHolds kept.events
    pub queues : Each QueueHolds kept.queues

  abbrev of_waiting : ℕ × Waiting → List ℕ
  of_waiting entry = on_of entry.1 ∷ []

  abbrev values_in : ℕ × Waiting → List Value
  values_in entry = values_of entry.1

  abbrev of_lock : Lock → List ℕ
  of_lock lock = lock.waiters

  abbrev of_event : Event → List ℕ
  of_event event = event.waiters

  abbrev of_queue : Queue → List ℕ
  of_queue queue = queue.getters ++ queue.putters

  abbrev in_queue : Queue → List Value
  in_queue queue = queue.values

  pub holds_from : (kept : Synced) → Each P (sync_keeps kept).own → Each V (sync_keeps kept).values → Holds kept
  holds_from kept own vals =
      let first = flat_map of_waiting kept.waiting in
      let second = flat_map of_lock kept.locks in
      let third = flat_map of_event kept.events in
      let fourth = flat_map of_queue kept.queues in
      let after = each_right P first (second ++ (third ++ fourth)) own in
      let last = each_right P second (third ++ fourth) after in
      record {
        waiting =
            each_both (λ entry. Each P (of_waiting entry)) (λ entry. Each V (values_in entry)) WaitingHolds (λ entry a b. (a.0, b)) kept.waiting
            (flat_each of_waiting P kept.waiting (each_left P first (second ++ (third ++ fourth)) own))
            (flat_each values_in V kept.waiting (each_left V (flat_map values_in kept.waiting) (flat_map in_queue kept.queues) vals));
        locks = flat_each of_lock P kept.locks (each_left P second (third ++ fourth) after);
        events = flat_each of_event P kept.events (each_left P third fourth last);
        queues =
            each_both (λ queue. Each P (of_queue queue)) (λ queue. Each V (in_queue queue)) QueueHolds
            (λ queue a b. record {
              values = b;
              getters = each_left P queue.getters queue.putters a;
              putters = each_right P queue.getters queue.putters a;
            }) kept.queues (flat_each of_queue P kept.queues (each_right P third fourth last))
            (flat_each in_queue V kept.queues (each_right V (flat_map values_in kept.waiting) (flat_map in_queue kept.queues) vals));
      }

  pub own_holds : (kept : Synced) → Holds kept → Each P (sync_keeps kept).own
  own_holds kept h =
      let second = flat_map of_lock kept.locks in
      let third = flat_map of_event kept.events in
      let fourth = flat_map of_queue kept.queues in
      each_append P (flat_map of_waiting kept.waiting) (second ++ (third ++ fourth))
      (each_flat of_waiting P kept.waiting (each_on WaitingHolds (λ entry. Each P (of_waiting entry)) (λ entry a. (a.0, tt)) kept.waiting h.waiting))
      (each_append P second (third ++ fourth) (each_flat of_lock P kept.locks h.locks)
      (each_append P third fourth (each_flat of_event P kept.events h.events)
      (each_flat of_queue P kept.queues
      (each_on QueueHolds (λ queue. Each P (of_queue queue)) (λ queue a. each_append P queue.getters queue.putters a.getters a.putters) kept.queues
      h.queues))))

  pub values_hold : (kept : Synced) → Holds kept → Each V (sync_keeps kept).values
  values_hold kept h =
      each_append V (flat_map values_in kept.waiting) (flat_map in_queue kept.queues)
      (each_flat values_in V kept.waiting (each_on WaitingHolds (λ entry. Each V (values_in entry)) (λ entry a. a.1) kept.waiting h.waiting))
      (each_flat in_queue V kept.queues (each_on QueueHolds (λ queue. Each V (in_queue queue)) (λ queue a. a.values) kept.queues h.queues))

-- what is so of more
pub holds_on : (P Q : ℕ → Type 0) (V : Value → Type 0) → ((id : ℕ) → P id → Q id) → (kept : Synced) → Holds P V kept → Holds Q V kept
holds_on P Q V on kept h = record {
  waiting = each_on (WaitingHolds P V) (WaitingHolds Q V) (λ entry a. (on (on_of entry.1) a.0, a.1)) kept.waiting h.waiting;
  locks = each_on (LockHolds P V) (LockHolds Q V) (λ lock a. each_on P Q on lock.waiters a) kept.locks h.locks;
  events = each_on (EventHolds P V) (EventHolds Q V) (λ event a. each_on P Q on event.waiters a) kept.events h.events;
  queues =
      each_on (QueueHolds P V) (QueueHolds Q V) (λ queue a. record {
        values = a.values;
        getters = each_on P Q on queue.getters a.getters;
        putters = each_on P Q on queue.putters a.putters;
      }) kept.queues h.queues;
}
