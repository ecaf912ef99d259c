-- A callback has one home: the future that it is registered on, until that is done and the callback is pending. So how
-- often an action of a kind is still to come is the number of live pending handles of that kind and of the callbacks of
-- that kind at its home.
use Rattle.std.specs.Prelude.{◌≡◌, ℕ, ◌+◌, ◌<◌, Bool, not, ◌&&◌, List, [], Option, Some, None, slice_get}
use Rattle.std.specs.List.{count_by}
use Rattle.model_value.specs.Action.{Action}
use Rattle.model_loop.specs.Parts.{Handle, Future, Parts}

-- the number of pending handles that aren't dead and whose action passes a test
abbrev pub pending_where : (Action → Bool) → List Handle → ℕ
pending_where test = count_by (λ (handle : Handle). not handle.dead && test handle.action)

abbrev pub callbacks_at : Option Future → List Action
callbacks_at None = []
callbacks_at (Some future) = future.callbacks

abbrev pub callbacks_of : Parts → ℕ → List Action
callbacks_of p id = callbacks_at (slice_get p.futures id)

abbrev pub registered_at : Parts → (Action → Bool) → Option ℕ → ℕ
registered_at p test None = 0
registered_at p test (Some on) = count_by test (callbacks_of p on)

-- those that are pending, and those at this home
abbrev pub total : Parts → (Action → Bool) → Option ℕ → ℕ
total p test home = pending_where test p.pending + registered_at p test home

-- such callbacks are registered at this home alone
abbrev pub IsAtHome : Parts → (Action → Bool) → Option ℕ → Type 0
IsAtHome p test home = (on : ℕ) → 0 < count_by test (callbacks_of p on) → home ≡ Some on
