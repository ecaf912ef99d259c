-- Listeners that are open, and others.
use Rattle.std.proofs.Common.{◌≡◌, ℕ, Bool, true, false, if◌then◌else◌, Option, Some, None, slice_get, refl}
use Rattle.model_stream.specs.Listeners.{Server}
use Rattle.aio_stream.specs.Kept.{Kept, listening}

-- this is the listener with this number
pub record Listens (k : Kept) (id handler : ℕ) : Type 0 where
  pub server : Server
  pub there : slice_get k.servers id ≡ Some server
  pub open_is : server.is_open ≡ true
  pub handler_is : server.handler ≡ handler

module _ (k : Kept) (id : ℕ) where
  abbrev heard_by : Option Server → Option ℕ
  heard_by it = elim it [ None ↦ None | Some server ↦ if server.is_open then Some server.handler else None ]

  pub listens : (handler : ℕ) → listening id k ≡ Some handler → Listens k id handler
  listens handler is = at (slice_get k.servers id) refl is
    where
      of : (server : Server) → slice_get k.servers id ≡ Some server → (b : Bool) → server.is_open ≡ b
          → (if b then Some server.handler else None) ≡ Some handler → Listens k id handler
      of server there true e h = record { server = server; there = there; open_is = e; handler_is = let it : server.handler ≡ handler = cc in it }
      of server there false e h = absurd (let bad : ⊥ = cc in bad)

      at : (it : Option Server) → slice_get k.servers id ≡ it → heard_by it ≡ Some handler → Listens k id handler
      at None e h = absurd (let bad : ⊥ = cc in bad)
      at (Some server) e h = of server e server.is_open refl h

  -- of one that isn't open, whatever holds of none and of one that is closed
  pub unless_listens : (P : Type 0) → (slice_get k.servers id ≡ None → P)
      → ((server : Server) → slice_get k.servers id ≡ Some server → server.is_open ≡ false → P) → listening id k ≡ None → P
  unless_listens P none closed is = at (slice_get k.servers id) refl is
    where
      of : (server : Server) → slice_get k.servers id ≡ Some server → (b : Bool) → server.is_open ≡ b
          → (if b then Some server.handler else None) ≡ None → P
      of server there true e h = absurd (let bad : ⊥ = cc in bad)
      of server there false e h = closed server there e

      at : (it : Option Server) → slice_get k.servers id ≡ it → heard_by it ≡ None → P
      at None e h = none e
      at (Some server) e h = of server e server.is_open refl h
