-- Futures that no task owns, and how they are settled in order.
use Rattle.std.specs.Prelude.{◌≡◌, ℕ, List, Option, None, Some, slice_get, map}
use Rattle.std.specs.List.{AllByRecursion as Each}
use Rattle.model_loop.specs.Owning.{owner_at}
use Rattle.model_value.specs.Value.{Outcome}
use Rattle.model_stream.specs.Doing.{Settle}
use Rattle.aio_task.specs.View.{View}
use Rattle.aio_exchange.specs.Ways.{Move, Did}

-- this future is no task's
abbrev pub IsOwn : View → ℕ → Type 0
IsOwn v future = owner_at (slice_get v.futures future) ≡ None

abbrev pub AreOwn : View → List ℕ → Type 0
AreOwn v = Each (IsOwn v)

-- whatever future is no task's stays so
abbrev pub KeepsOwn : View → View → Type 0
KeepsOwn old new = (future : ℕ) → IsOwn old future → IsOwn new future

-- the future, if there is one, is no task's
abbrev pub IsOwnIfAny : View → Option ℕ → Type 0
IsOwnIfAny v None = Unit {0}
IsOwnIfAny v (Some future) = IsOwn v future

-- the way that `settles` goes
abbrev pub settled_way : Outcome → List ℕ → List Move
settled_way outcome = map (λ (future : ℕ). Did (Settle future outcome))
