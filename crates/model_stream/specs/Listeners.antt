-- Listeners: each accepts connections and starts a handler for each.
-- Source: `selector_events.py`, `_accept_connection`; `base_events.py`, Server.
use Rattle.std.specs.Prelude.{ℕ, Bool}

-- the coroutine that handles its connections, and whether it is open
pub record Server : Type 0 where
  pub handler : ℕ
  pub is_open : Bool
