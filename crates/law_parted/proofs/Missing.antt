-- A part that isn't there.
use Rattle.std.specs.Prelude.{◌≡◌, ℕ, false, true, Option, Some, None, refl}
use Rattle.std.proofs.Common.{subst}
use Rattle.model_value.specs.Value.{Exc}
use Rattle.model_machine.specs.Extra.{KeepsKeys, WakesFall, no_extra, nothing_called, nothing_said}
use Rattle.model_machine.specs.State.{State}
use Rattle.model_reach.specs.Reach.{Part}
use Rattle.law_runs.specs.Allowed.{IsCallAllowed, IsSaidAllowed, MakesAllowedSteps}
use Rattle.law_parted.specs.Keys.{HasKeysOf}

-- no request of it is to be woken
abbrev IsNone : {A : Type 0} → Option A → Type 0
IsNone None = Unit {0}
IsNone (Some it) = ⊥

call_allowed : (woken : Option ℕ) (s : State (Unit {0})) → IsCallAllowed no_extra woken nothing_called s
call_allowed woken s = record {
  steps = tt;
  kept = record { tasks = tt; awaitable = tt; own = tt; apart = tt; tags = tt; values = refl };
  own = tt;
  tags = tt;
  keys = λ key other known. known;
}

said_allowed : (woken : Option ℕ) (exception : Exc) (s : State (Unit {0})) → IsSaidAllowed no_extra woken (nothing_said exception) s
said_allowed woken exception s = record { call = call_allowed woken s; answer = tt; key = λ key e. absurd (subst IsNone e tt) }

pub missing_allowed : MakesAllowedSteps no_extra
missing_allowed = record {
  ask = λ task code arguments s may made. said_allowed None _ s;
  wake = λ task key input s may known made. said_allowed (Some key) _ s;
  act = λ key s may. call_allowed None s;
  item = λ code bytes s may. call_allowed None s;
}

pub missing_falls : WakesFall no_extra
missing_falls = λ key input s next e once. absurd (subst IsNone e tt)

pub missing_same : KeepsKeys no_extra
missing_same = λ key input s next e. absurd (subst IsNone e tt)

is_true : {A : Type 0} → false ≡ true → A
is_true e = absurd (cc)

pub missing_keys : (part : Part) → HasKeysOf part no_extra
missing_keys part kept key h = is_true h
