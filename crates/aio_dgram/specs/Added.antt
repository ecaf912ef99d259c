-- Datagram endpoints, in code and in the machine.
use Rattle.std.specs.Prelude.{◌≡◌, ℕ, false}
use Rattle.std.proofs.Common.{◌∙◌}
use Rattle.model_loop.specs.Parts.{Parts}
use Rattle.model_dgram.specs.Endpoints.{Endpoints, dgram_keeps}
use Rattle.model_dgram.specs.Serving.{dgram_means}
use Rattle.law_runs.specs.Allowed.{IsAmong}
use Rattle.law_dgram.specs.Tidy.{IsTidy}
use Rattle.law_dgram.proofs.Allowed.{dgram_allowed}
use Rattle.law_dgram.proofs.Falling.{dgram_falls}
use Rattle.aio_task.specs.Keeps.{NameMap}
use Rattle.aio_extra.specs.Added.{Added, GoesBeside}
use Rattle.aio_dgram.specs.declared.dgram.Dgram.{Dgram}
use Rattle.aio_dgram.specs.Seen.{kept_of}

-- The object is what the machine keeps, which is tidy, and none of its futures was released.
pub record StandsForKept (t : NameMap) (x : Dgram) (kept : Endpoints) : Type 0 where
  pub seen : kept_of x ≡ kept
  pub tidy : IsTidy kept
  pub there : (id : ℕ) → IsAmong (dgram_keeps kept).own id → t.gone id ≡ false

pub goes_on : (t u : NameMap) (p q : Parts) (x : Dgram) (kept : Endpoints) → StandsForKept t x kept
    → GoesBeside (IsAmong (dgram_keeps kept).own) t p u q → StandsForKept u x kept
goes_on t u p q x kept h beside = record { seen = h.seen; tidy = h.tidy; there = λ id own. beside.gone id own ∙ h.there id own }

abbrev pub dgram_added : Added Dgram
dgram_added =
    record {
      Kept = Endpoints;
      meaning = dgram_means;
      stands = λ t p x kept. StandsForKept t x kept;
      goes_on = goes_on;
      allowed = dgram_allowed;
      falls = dgram_falls;
    }
