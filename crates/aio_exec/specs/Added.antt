-- Jobs beside the loop, in code and in the machine.
use Rattle.std.specs.Prelude.{◌≡◌, ℕ, false}
use Rattle.std.proofs.Common.{◌∙◌}
use Rattle.model_loop.specs.Parts.{Parts}
use Rattle.model_exec.specs.Execed.{Execed, exec_keeps}
use Rattle.model_exec.specs.Serving.{exec_means}
use Rattle.law_runs.specs.Allowed.{IsAmong}
use Rattle.law_exec.proofs.Allowed.{exec_allowed}
use Rattle.law_exec.proofs.Falling.{exec_falls}
use Rattle.aio_task.specs.Keeps.{NameMap}
use Rattle.aio_extra.specs.Added.{Added, GoesBeside}
use Rattle.aio_exec.specs.declared.exec.Exec.{Exec}
use Rattle.aio_exec.specs.Seen.{kept_of}

-- The object is what the machine keeps, and none of its futures was released.
abbrev pub StandsForKept : NameMap → Parts → Exec → Execed → Type 0
StandsForKept t p x kept = (kept_of x ≡ kept) × ((id : ℕ) → IsAmong (exec_keeps kept).own id → t.gone id ≡ false)

pub goes_on : (t u : NameMap) (p q : Parts) (x : Exec) (kept : Execed) → StandsForKept t p x kept
    → GoesBeside (IsAmong (exec_keeps kept).own) t p u q → StandsForKept u q x kept
goes_on t u p q x kept h beside = (h.0, λ id own. beside.gone id own ∙ h.1 id own)

abbrev pub exec_added : Added Exec
exec_added =
    record {
      Kept = Execed;
      meaning = exec_means;
      stands = StandsForKept;
      goes_on = goes_on;
      allowed = exec_allowed;
      falls = exec_falls;
    }
