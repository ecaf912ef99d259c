-- What can't be served is refused, and nothing changes.
use Rattle.std.proofs.Common.{◌≡◌, ℕ, ℤ, pos, negsuc, false, Some, None, length, slice_get, refl, sym, subst}
use Rattle.std.specs.Prelude.{if◌then◌else◌}
use Rattle.std.proofs.lemmas.Option.{slice_get_past}
use Rattle.model_value.specs.Value.{Exc, Nothing}
use Rattle.model_loop.specs.Parts.{Parts}
use Rattle.model_machine.specs.Extra.{ExtraSaid}
use Rattle.model_sync.specs.Synced.{Event, Lock, Queue, Synced, answers, raises, wake_first}
use Rattle.model_sync.specs.Locks.{no_lock, not_acquired, on_lock, release, set_lock}
use Rattle.model_sync.specs.Events.{no_event, on_event}
use Rattle.model_sync.specs.Queues.{no_queue, on_queue}
use Rattle.law_locks.specs.Refused.{IsRefused, WasNeverMade}

module _ (p : Parts) (kept : Synced) where
  pub raises_refused : (exception : Exc) → IsRefused exception kept (raises exception kept)
  raises_refused exception = record { answer = refl; steps = refl; state = record { waiting = refl; locks = refl; events = refl; queues = refl } }

  pub no_lock_refused : (next : ℕ → Lock → Parts → Synced → ExtraSaid Synced) (id : ℤ) → WasNeverMade (length kept.locks) id
      → IsRefused no_lock kept (on_lock next id p kept)
  no_lock_refused next (negsuc before) never = raises_refused no_lock
  no_lock_refused next (pos id) never =
      subst (λ o. IsRefused no_lock kept (elim o [ None ↦ raises no_lock kept | Some lock ↦ next id lock p kept ]))
      (sym (slice_get_past kept.locks id never)) (raises_refused no_lock)

  pub no_event_refused : (next : ℕ → Event → Parts → Synced → ExtraSaid Synced) (id : ℤ) → WasNeverMade (length kept.events) id
      → IsRefused no_event kept (on_event next id p kept)
  no_event_refused next (negsuc before) never = raises_refused no_event
  no_event_refused next (pos id) never =
      subst (λ o. IsRefused no_event kept (elim o [ None ↦ raises no_event kept | Some event ↦ next id event p kept ]))
      (sym (slice_get_past kept.events id never)) (raises_refused no_event)

  pub no_queue_refused : (next : ℕ → Queue → Parts → Synced → ExtraSaid Synced) (id : ℤ) → WasNeverMade (length kept.queues) id
      → IsRefused no_queue kept (on_queue next id p kept)
  no_queue_refused next (negsuc before) never = raises_refused no_queue
  no_queue_refused next (pos id) never =
      subst (λ o. IsRefused no_queue kept (elim o [ None ↦ raises no_queue kept | Some queue ↦ next id queue p kept ]))
      (sym (slice_get_past kept.queues id never)) (raises_refused no_queue)

  -- what isn't locked
  released_refused : (id : ℕ) (lock : Lock) → lock.locked ≡ false → IsRefused not_acquired kept (release id lock p kept)
  released_refused id lock open_ =
      subst (λ b. IsRefused not_acquired kept (if b then answers Nothing (wake_first lock.waiters) (set_lock id (record lock { locked = false }) kept)
      else raises not_acquired kept)) (sym open_) (raises_refused not_acquired)

  pub release_refused : (id : ℕ) (lock : Lock) → slice_get kept.locks id ≡ Some lock → lock.locked ≡ false
      → IsRefused not_acquired kept (on_lock release (pos id) p kept)
  release_refused id lock found open_ =
      subst (λ o. IsRefused not_acquired kept (elim o [ None ↦ raises no_lock kept | Some it ↦ release id it p kept ])) (sym found)
      (released_refused id lock open_)
