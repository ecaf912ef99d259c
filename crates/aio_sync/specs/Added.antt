-- Locks, events and queues, in code and in the machine.
use Rattle.std.specs.Prelude.{◌≡◌, ℕ, false}
use Rattle.std.proofs.Common.{◌∙◌}
use Rattle.model_loop.specs.Parts.{Parts}
use Rattle.model_sync.specs.Synced.{Synced, sync_keeps}
use Rattle.model_sync.specs.Serving.{sync_means}
use Rattle.law_runs.specs.Allowed.{IsAmong}
use Rattle.law_sync.proofs.Allowed.{sync_allowed}
use Rattle.law_sync.proofs.Falling.{sync_falls}
use Rattle.aio_task.specs.Keeps.{NameMap}
use Rattle.aio_extra.specs.Added.{Added, GoesBeside}
use Rattle.aio_sync.specs.declared.requests.Sync.{Sync}
use Rattle.aio_sync.specs.Seen.{kept_of}

-- The object is what the machine keeps, and none of its futures was released.
abbrev pub StandsForKept : NameMap → Parts → Sync → Synced → Type 0
StandsForKept t p x kept = (kept_of x ≡ kept) × ((id : ℕ) → IsAmong (sync_keeps kept).own id → t.gone id ≡ false)

pub goes_on : (t u : NameMap) (p q : Parts) (x : Sync) (kept : Synced) → StandsForKept t p x kept
    → GoesBeside (IsAmong (sync_keeps kept).own) t p u q → StandsForKept u q x kept
goes_on t u p q x kept h beside = (h.0, λ id own. beside.gone id own ∙ h.1 id own)

abbrev pub sync_added : Added Sync
sync_added =
    record {
      Kept = Synced;
      meaning = sync_means;
      stands = StandsForKept;
      goes_on = goes_on;
      allowed = sync_allowed;
      falls = sync_falls;
    }
