-- Nothing is added.
use Rattle.std.specs.Prelude.{◌≡◌, ℕ, true, Option, Some, None, refl}
use Rattle.std.proofs.Common.{subst}
use Rattle.model_machine.specs.Extra.{ExtraSaid, WakesFall, key_of, no_extra, nothing_called, nothing_said}
use Rattle.model_machine.specs.State.{State}
use Rattle.model_value.specs.Value.{Exc}
use Rattle.law_runs.specs.Allowed.{IsCallAllowed, IsSaidAllowed, MakesAllowedSteps}
use Rattle.aio_extra.specs.Added.{Added}

-- no request of it is to be woken
abbrev IsNone : {A : Type 0} → Option A → Type 0
IsNone None = Unit {0}
IsNone (Some it) = ⊥

-- it makes no steps
call_allowed : (woken : Option ℕ) (s : State (Unit {0})) → IsCallAllowed no_extra woken nothing_called s
call_allowed woken s = record {
  steps = tt;
  kept = record { tasks = tt; awaitable = tt; own = tt; apart = tt; tags = tt; values = refl };
  own = tt;
  tags = tt;
  keys = λ key other known. known;
}

said_allowed : (woken : Option ℕ) (exception : Exc) (s : State (Unit {0})) → IsSaidAllowed no_extra woken (nothing_said exception) s
said_allowed woken exception s = record { call = call_allowed woken s; answer = tt; key = λ key e. absurd (subst IsNone e tt) }

pub nothing_allowed : MakesAllowedSteps no_extra
nothing_allowed = record {
  ask = λ task code arguments s may made. said_allowed None _ s;
  wake = λ task key input s may known made. said_allowed (Some key) _ s;
  act = λ key s may. call_allowed None s;
  item = λ code bytes s may. call_allowed None s;
}

pub nothing_falls : WakesFall no_extra
nothing_falls = λ key input s next e once. absurd (subst IsNone e tt)

abbrev pub nothing_added : {X : Type 0} → Added X
nothing_added =
    record {
      Kept = Unit {0};
      meaning = no_extra;
      stands = λ t p x kept. Unit {0};
      goes_on = λ t u p q x kept stands beside. tt;
      allowed = nothing_allowed;
      falls = nothing_falls;
    }
